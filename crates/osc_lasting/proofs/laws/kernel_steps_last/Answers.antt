-- The law, proved of the definitions.
use Rattle.osc_lasting.proofs.BeginSteps.{begins_last}
use Rattle.osc_lasting.proofs.PlanSteps.{plans_last}
use Rattle.osc_lasting.proofs.JobSteps.{jobs_last}
use Rattle.osc_lasting.proofs.FinishSteps.{finishes_last}
use Rattle.osc_lasting.proofs.laws.kernel_steps_last.Goals as goal

pub returns : goal.returns
returns c = record { begins = begins_last; plans = plans_last; jobs = jobs_last; finishes = finishes_last }
