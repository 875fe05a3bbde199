use Rattle.std.proofs.Common.{◌≡◌, ◌≤◌, ◌+◌, ◌++◌, length, vec_capacity}
use Rattle.std.specs.Vec.Iter.{drain_items}
use Rattle.osc_core.specs.Parts.{held_in}
use Rattle.osc_core.proofs.boxes.move_out.Given as goal

abbrev pub invariant-loop-held : goal.invariant-loop-held
invariant-loop-held l =
    goal.iterator-loop-held.can_next l.held-iterator
    × goal.iterator-loop-held.is_finite l.held-iterator
    × (l.boxes.items ++ held_in (drain_items l.held-iterator) ≡ held_in (drain_items l.initial.held-iterator))
    × (length l.boxes.items + length (drain_items l.held-iterator) ≤ vec_capacity l.boxes)
