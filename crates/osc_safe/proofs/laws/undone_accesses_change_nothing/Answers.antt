-- The law, proved of the definitions.
use Rattle.osc_safe.proofs.UndoneRuns.{runs_undo}
use Rattle.osc_safe.proofs.laws.undone_accesses_change_nothing.Goals as goal

pub returns : goal.returns
returns c = runs_undo
