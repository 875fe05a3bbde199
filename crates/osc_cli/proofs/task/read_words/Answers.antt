use Rattle.clap.specs.Words.{app_of}
use Rattle.osc_cli.proofs.Reading.{taken, refused}
use Rattle.osc_cli.proofs.task.read_words.Goals as goal

pub returns-in-Ok-clause-says : goal.returns-in-Ok-clause-says
returns-in-Ok-clause-says c =
    taken (app_of c.in_ok-command.command) _ _ _ c.in_ok-command.ensures (λ simple. (c.in-Ok.ensures.matches simple).0) c.in-Ok.ensures.kinds
    c.task_of.ensures.says

pub returns-in-Err-clause-says : goal.returns-in-Err-clause-says
returns-in-Err-clause-says c =
    refused (app_of c.in_ok-command.command) _ c.in-Err.error _ c.in_ok-command.ensures c.in-Err.ensures.kinds c.refusal_of.ensures
