-- The areas so far are copied.
use Rattle.std.proofs.Common.{◌≡◌, ◌++◌, take, drop}
use Rattle.osc_heap.proofs.area_list.copy_all.Given as goal

abbrev pub invariant-loop-i : goal.invariant-loop-i
invariant-loop-i l = l.into.items ≡ take l.i l.areas ++ drop l.i l.fn.into.items
