-- The law, proved of the definitions.
use Rattle.osc_settled.proofs.JobsDone.{jobs_keep}
use Rattle.osc_settled.proofs.laws.jobs_keep.Goals as goal

pub returns : goal.returns
returns c = jobs_keep
