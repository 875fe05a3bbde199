-- The law, proved of the definitions.
use Rattle.osc_granted.proofs.Marks.{entries_raise_marks}
use Rattle.osc_granted.proofs.laws.marks_are_raised.Goals as goal

pub returns : goal.returns
returns c = entries_raise_marks
