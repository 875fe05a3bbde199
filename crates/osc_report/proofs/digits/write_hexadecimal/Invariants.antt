use Rattle.std.proofs.Common.{◌≡◌, ◌<◌, ◌≤◌, false, drop, ◌+◌, ◌^◌, length}
use Rattle.std.specs.Fmt.{digits_onto}
use Rattle.osc_calls.specs.Lines.{hexadecimal}
use Rattle.osc_report.proofs.digits.write_hexadecimal.Given as goal

abbrev pub invariant-loop-at : goal.invariant-loop-at
invariant-loop-at l =
    (l.at ≤ 16) × (length l.out ≡ 16) × (l.left < 16 ^ l.at) × (l.at < 16 → 0 < l.left)
    × (digits_onto (l.at + 48) 16 false l.left (drop l.at l.out) ≡ hexadecimal l.number)

abbrev pub decreases-loop-at : goal.decreases-loop-at
decreases-loop-at l = l.at
