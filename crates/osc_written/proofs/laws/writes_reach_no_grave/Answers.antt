-- The law, proved of the definitions.
use Rattle.osc_written.proofs.WrittenGraves.{runs_reach_no_grave}
use Rattle.osc_written.proofs.laws.writes_reach_no_grave.Goals as goal

pub returns : goal.returns
returns c = runs_reach_no_grave
