-- The law, proved of the definitions.
use Rattle.osc_safe.proofs.TellingRuns.{runs_tell}
use Rattle.osc_safe.proofs.laws.traces_tell.Goals as goal

pub returns : goal.returns
returns c = runs_tell
