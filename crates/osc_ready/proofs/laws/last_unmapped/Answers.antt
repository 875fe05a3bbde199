-- The law, proved of the definitions.
use Rattle.osc_ready.proofs.LastPage.{last_unmapped}
use Rattle.osc_ready.proofs.laws.last_unmapped.Goals as goal

pub returns : goal.returns
returns c = last_unmapped
