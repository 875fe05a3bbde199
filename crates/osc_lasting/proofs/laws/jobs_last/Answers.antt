-- The law, proved of the definitions.
use Rattle.osc_lasting.proofs.JobSteps.{jobs_last}
use Rattle.osc_lasting.proofs.laws.jobs_last.Goals as goal

pub returns : goal.returns
returns c = jobs_last
