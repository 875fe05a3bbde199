-- The boxes so far.
use Rattle.std.proofs.Common.{◌≡◌, Some, replicate}
use Rattle.osc_paging.specs.Boxes.{new_box}
use Rattle.osc_core.proofs.boxes.new_boxes.Given as goal

abbrev pub invariant-loop-made : goal.invariant-loop-made
invariant-loop-made l = l.boxes.items ≡ replicate l._made (Some new_box)
