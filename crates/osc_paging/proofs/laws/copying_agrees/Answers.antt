-- The law, proved of the definitions.
use Rattle.osc_paging.proofs.Copied.{copying_agrees}
use Rattle.osc_paging.proofs.laws.copying_agrees.Goals as goal

pub returns : goal.returns
returns c = copying_agrees
