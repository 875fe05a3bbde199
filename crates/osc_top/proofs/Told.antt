-- The journal of what is run for a task tells what the kernel keeps.
use Rattle.std.proofs.Common.{ℕ, Option, List}
use Rattle.osc_machine.specs.Start.{start_of}
use Rattle.osc_ledger.proofs.ReplayRuns.{runs_agree_with_replay}
use Rattle.osc_seed.specs.Seeded.{picks_made}
use Rattle.osc_cli.specs.declared.task.Task.{Task}
use Rattle.osc_refusals.proofs.Rule.{runs_refuse_by_rule}
use Rattle.osc_top.specs.Told.{RunsTold, RunsRefused}

pub runs-told : (task : Task) (before after : Option (List ℕ)) → RunsTold task before after
runs-told task before after file image had fit is_image room =
    runs_agree_with_replay file image task.config (picks_made (start_of image task.config) task.seed task.picks) fit is_image room

pub runs-refused : (task : Task) (before after : Option (List ℕ)) → RunsRefused task before after
runs-refused task before after file image had fit is_image room =
    runs_refuse_by_rule file image task.config (picks_made (start_of image task.config) task.seed task.picks) fit is_image room
