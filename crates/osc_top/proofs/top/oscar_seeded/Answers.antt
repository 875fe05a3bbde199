use Rattle.osc_top.proofs.Safety.{runs-safely}
use Rattle.osc_top.proofs.Told.{runs-told, runs-refused}
use Rattle.osc_top.proofs.top.oscar_seeded.Goals as goal

pub returns-clause-safe : goal.returns-clause-safe
returns-clause-safe g c = runs-safely c.args.task.now _ _

pub returns-clause-journal : goal.returns-clause-journal
returns-clause-journal g c = runs-told c.args.task.now _ _

pub returns-clause-refusals : goal.returns-clause-refusals
returns-clause-refusals g c = runs-refused c.args.task.now _ _
