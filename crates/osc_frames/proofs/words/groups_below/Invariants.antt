use Rattle.osc_frames.proofs.Rows.{AreBelowSoFar}
use Rattle.osc_frames.proofs.words.groups_below.Given as goal

abbrev pub invariant-loop-i : goal.invariant-loop-i
invariant-loop-i l = AreBelowSoFar l.count l.i l.groups.items
