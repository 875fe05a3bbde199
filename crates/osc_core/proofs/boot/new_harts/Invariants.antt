-- The harts so far.
use Rattle.std.proofs.Common.{◌≡◌, map}
use Rattle.std.specs.List.{range_with_len}
use Rattle.osc_machine.specs.Start.{first_hart}
use Rattle.osc_core.proofs.boot.new_harts.Given as goal

abbrev pub invariant-loop-number : goal.invariant-loop-number
invariant-loop-number l = l.harts.items ≡ map (first_hart l.config l.start) (range_with_len 0 l.number)
