use Rattle.std.proofs.Common.{◌≡◌, ◌++◌, ◌-◌, ◌≤◌, drop, length}
use Rattle.osc_assemble.specs.Put.{bytes_of}
use Rattle.osc_assemble.proofs.digits.bytes_of.Given as goal

-- the bytes have the pairs before the place
abbrev pub invariant-loop-at : goal.invariant-loop-at
invariant-loop-at l = (l.at ≤ length l.digits) × (l.bytes.items ++ bytes_of (drop l.at l.digits) ≡ bytes_of l.digits)

abbrev pub decreases-loop-at : goal.decreases-loop-at
decreases-loop-at l = length l.digits - l.at
