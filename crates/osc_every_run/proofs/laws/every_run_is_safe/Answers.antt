-- The law, proved of the definitions.
use Rattle.osc_every_run.proofs.Steps.{every_run_is_safe}
use Rattle.osc_every_run.proofs.laws.every_run_is_safe.Goals as goal

pub returns : goal.returns
returns c = every_run_is_safe
