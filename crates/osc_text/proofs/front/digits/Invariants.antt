use Rattle.std.proofs.Common.{◌≡◌, ◌<◌, ◌≤◌, ◌-◌, drop, length}
use Rattle.osc_text.specs.Digits.{front_value, after_digits}
use Rattle.osc_text.proofs.front.digits.Given as goal

abbrev pub invariant-loop-at : goal.invariant-loop-at
invariant-loop-at l =
    (l.at ≤ length l.text) × (l.value < 10000000) × (front_value l.value (drop l.at l.text) ≡ front_value 0 l.text)
    × (after_digits (drop l.at l.text) ≡ after_digits l.text)

abbrev pub decreases-loop-at : goal.decreases-loop-at
decreases-loop-at l = length l.text - l.at
