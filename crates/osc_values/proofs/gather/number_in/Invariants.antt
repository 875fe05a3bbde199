use Rattle.std.proofs.Common.{◌≡◌, ◌≤◌, ◌<◌, ◌-◌, ◌^◌, Some, drop, length}
use Rattle.osc_values.proofs.Numbers.{number_of}
use Rattle.osc_values.proofs.gather.number_in.Given as goal

abbrev pub invariant-loop-at : goal.invariant-loop-at
invariant-loop-at l =
    (l.at ≤ length l.bytes) × (number_of (drop l.at l.bytes) ≡ Some l.number) × (l.number < 256 ^ (length l.bytes - l.at))

abbrev pub decreases-loop-at : goal.decreases-loop-at
decreases-loop-at l = l.at
