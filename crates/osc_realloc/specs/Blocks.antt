-- The block of the new object: the old one where it stays, else the next of its room. This project's
-- own.
use Rattle.std.specs.Prelude.{ℕ, Bool, true, false, List}
use Rattle.osc_class.specs.declared.Room.{Room}
use Rattle.osc_slot.specs.declared.Block.{Block}
use Rattle.osc_slot.specs.Slots.{need}
use Rattle.osc_slot.specs.Heap.{Heap, HeapAndFree, next_block, place}

abbrev pub new_block : Bool → Block → Heap → Room → Block
new_block true old heap room = old
new_block false old heap room = next_block heap room

abbrev pub placed : Bool → Heap → Room → List Bool → HeapAndFree
placed true heap room free = record { heap = heap; free = free }
placed false heap room free = place heap room free

-- the frames that it newly takes
abbrev pub newly_taken : Bool → Heap → Room → ℕ
newly_taken true heap room = 0
newly_taken false heap room = need heap.frames heap.held room
