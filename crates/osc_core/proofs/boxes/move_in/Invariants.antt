use Rattle.std.proofs.Common.{◌≡◌, ◌≤◌, ◌+◌, ◌++◌, Some, length, map, vec_capacity}
use Rattle.std.specs.Vec.Iter.{drain_items}
use Rattle.osc_core.proofs.boxes.move_in.Given as goal

abbrev pub invariant-loop-hart_box : goal.invariant-loop-hart_box
invariant-loop-hart_box l =
    goal.iterator-loop-hart_box.can_next l.hart_box-iterator
    × goal.iterator-loop-hart_box.is_finite l.hart_box-iterator
    × (l.homes.items ++ map Some (drain_items l.hart_box-iterator) ≡ map Some (drain_items l.initial.hart_box-iterator))
    × (length l.homes.items + length (drain_items l.hart_box-iterator) ≤ vec_capacity l.homes)
