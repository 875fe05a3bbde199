-- The areas so far are cleared.
use Rattle.std.proofs.Common.{◌≡◌, ◌++◌, map, take, drop}
use Rattle.osc_heap.specs.Layout.{free_row}
use Rattle.osc_heap.proofs.area_list.clear_all.Given as goal

abbrev pub invariant-loop-i : goal.invariant-loop-i
invariant-loop-i l = l.areas.items ≡ map free_row (take l.i l.fn.areas.items) ++ drop l.i l.fn.areas.items
