-- A place of numbered memory and a call of the heap, as the code has them.
use Rattle.osc_world.specs.Accesses.{NumberedPlace}
use Rattle.std.specs.Prelude.{ℕ, ◌++◌, Option}
use Rattle.std.specs.List.{range_with_len}
use Rattle.osc_world.specs.World.{Memory, ObjectDeed, Makes, Kills, Replaces}
use Rattle.osc_world.specs.States.{Process}
use Rattle.osc_world.specs.Calls.{objects_after}
use Rattle.osc_memory.specs.declared.memory.HeapDeed.{HeapDeed}
use Rattle.osc_memory.specs.declared.memory.HeapDeed.TheVariants as heap
use Rattle.osc_memory.specs.declared.memory.Numbered.{Numbered}

abbrev pub numbered_shown : Numbered → NumberedPlace
numbered_shown found = record { place = found.place; bits = found.bits }

abbrev pub heap_shown : HeapDeed → ObjectDeed
heap_shown (heap.Makes size) = Makes size
heap_shown (heap.Kills object) = Kills object
heap_shown (heap.Replaces object size) = Replaces object size

-- a process after a call of the heap
abbrev pub with_heap : ObjectDeed → Process Memory → Process Memory
with_heap deed process = record process { memory = record (process.memory) { objects = objects_after process.memory.objects deed } }

-- a process that ended so
abbrev pub with_status : Option ℕ → Process Memory → Process Memory
with_status status process = record process { status = status }

-- a process that holds so many shared pages more, from this number on
abbrev pub holding : ℕ → ℕ → Process Memory → Process Memory
holding first count process = record process { shared = process.shared ++ range_with_len first count }
