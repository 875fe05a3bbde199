use Rattle.std.proofs.Common.{◌≡◌, length}
use Rattle.osc_frames.proofs.tests.agrees_with_a_plain_list.Given as goal

abbrev pub invariant-loop-turn : goal.invariant-loop-turn
invariant-loop-turn g l = length l.frames ≡ 200
