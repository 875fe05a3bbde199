-- What is run for a task on the heap with shadows is safe.
use Rattle.std.proofs.Common.{ℕ, Option, List}
use Rattle.osc_machine.specs.Start.{start_of}
use Rattle.osc_every_run.proofs.Steps.{every_run_is_safe}
use Rattle.osc_seed.specs.Seeded.{picks_made}
use Rattle.osc_cli.specs.declared.task.Task.{Task}
use Rattle.osc_top.specs.Safety.{RunsSafely}

pub runs-safely : (task : Task) (before after : Option (List ℕ)) → RunsSafely task before after
runs-safely task before after file image had fit is_image room oscar =
    every_run_is_safe file image task.config (picks_made (start_of image task.config) task.seed task.picks) fit is_image room oscar
