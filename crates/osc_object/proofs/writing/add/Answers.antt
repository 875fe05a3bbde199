use Rattle.osc_object.specs.Rows.{row_shown}
use Rattle.osc_object.proofs.Rows.{spelled-none}
use Rattle.osc_object.proofs.writing.add.Goals as goal

pub returns-in-None : goal.returns-in-None
returns-in-None c = rw c.in-None.is (spelled-none (row_shown c.args.read.now))
