-- The law, proved of the definitions.
use Rattle.osc_paging.proofs.CacheLawProofs.{look_finds_latest}
use Rattle.osc_paging.proofs.laws.look_finds_latest.Goals as goal

pub returns : goal.returns
returns c = look_finds_latest
