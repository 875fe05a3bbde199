-- The machine keeps its frames.
use Rattle.std.proofs.Common.{◌≡◌, length}
use Rattle.osc_bench.proofs.frames.paired.Given as goal

abbrev pub invariant-loop : goal.invariant-loop
invariant-loop l = length l.frames ≡ 4096
