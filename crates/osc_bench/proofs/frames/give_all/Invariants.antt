-- The machine keeps its frames.
use Rattle.std.proofs.Common.{◌≡◌, length}
use Rattle.osc_bench.proofs.frames.give_all.Given as goal

abbrev pub invariant-loop-frame : goal.invariant-loop-frame
invariant-loop-frame l = length l.frames ≡ 4096
