use Rattle.std.proofs.Common.{◌≡◌, length}
use Rattle.osc_frames.proofs.tests.fills_a_row_below_its_count.Given as goal

abbrev pub invariant-loop-number : goal.invariant-loop-number
invariant-loop-number g l = length l.row ≡ 65
