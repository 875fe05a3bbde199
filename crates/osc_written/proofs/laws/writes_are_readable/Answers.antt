-- The law, proved of the definitions.
use Rattle.osc_written.proofs.WrittenRuns.{runs_write}
use Rattle.osc_written.proofs.laws.writes_are_readable.Goals as goal

pub returns : goal.returns
returns c = runs_write
