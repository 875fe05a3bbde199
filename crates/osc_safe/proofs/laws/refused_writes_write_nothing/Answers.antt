-- The law, proved of the definitions.
use Rattle.osc_safe.proofs.UnwrittenRuns.{runs_refuse}
use Rattle.osc_safe.proofs.laws.refused_writes_write_nothing.Goals as goal

pub returns : goal.returns
returns c = runs_refuse
