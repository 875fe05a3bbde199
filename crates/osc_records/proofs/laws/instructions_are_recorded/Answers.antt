-- The law, proved of the definitions.
use Rattle.osc_records.proofs.Runs.{instructions_recorded}
use Rattle.osc_records.proofs.laws.instructions_are_recorded.Goals as goal

pub returns : goal.returns
returns c = instructions_recorded
