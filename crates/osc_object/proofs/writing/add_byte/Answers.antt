use Rattle.osc_object.specs.Rows.{row_shown}
use Rattle.osc_object.proofs.Rows.{spelled-number, spelled-part}
use Rattle.osc_object.proofs.writing.add_byte.Goals as goal

pub returns-in_ok-push-in-Number : goal.returns-in_ok-push-in-Number
returns-in_ok-push-in-Number c =
    rw (c.in-Number.is, c.in_ok-push-in-Number.ensures.items) (spelled-number c.args.read.now.plain c.args.read.now.numbers.items c.in-Number.number)

pub returns-in-Part : goal.returns-in-Part
returns-in-Part c = rw c.in-Part.is (spelled-part (row_shown c.args.read.now) c.in-Part.object c.in-Part.offset c.in-Part.index)
