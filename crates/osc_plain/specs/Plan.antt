-- What the plans of the plain heap ask of their process's parts, and what they answer and make. This
-- project's own.
use Rattle.std.specs.Prelude.{ℕ, ◌+◌, ◌/◌, ◌≤◌, nat_lt, Bool, Option, Some, None, List, [], ◌∷◌, length, if◌then◌else◌}
use Rattle.osc_word.specs.declared.job_list.Job.{Job}
use Rattle.osc_word.specs.declared.settings.HeapKind.TheVariants as kind
use Rattle.osc_word.specs.declared.calls.Answer.{Answer}
use Rattle.osc_word.specs.declared.calls.Answer.TheVariants as answer
use Rattle.osc_class.specs.declared.Room.{Room}
use Rattle.osc_class.specs.Rooms.{room_of}
use Rattle.osc_paging.specs.KeptTables.{KeptTables, need as table_need}
use Rattle.osc_slot.specs.declared.Block.{Block}
use Rattle.osc_slot.specs.Slots.{is_room, need as block_need}
use Rattle.osc_slot.specs.Heap.{Heap, next_block, free_count}
use Rattle.osc_space.specs.Space.{Space, Draft, Outcome, Closing, Keeps, GivesBack}
use Rattle.osc_space.specs.Share.{Regions}
use Rattle.osc_space.specs.Agree.{SpaceAgrees}
use Rattle.osc_plain.specs.declared.PlainMalloced.{PlainMalloced}
use Rattle.osc_plain.specs.declared.PlainMalloced.TheVariants as malloced
use Rattle.osc_plain.specs.declared.PlainFreed.{PlainFreed}
use Rattle.osc_plain.specs.declared.PlainFreed.TheVariants as freed
use Rattle.osc_plain.specs.declared.PlainRealloced.{PlainRealloced}
use Rattle.osc_plain.specs.declared.PlainRealloced.TheVariants as realloced

-- a memory of these parts, without objects
abbrev pub space_of : ℕ → KeptTables → Heap → Space
space_of shadows tables heap = record { tables = tables; objects = []; waiting = []; shadows = shadows; heap = heap }

abbrev pub draft : ℕ → KeptTables → Heap → List Bool → List Job → Draft
draft shadows tables heap free jobs = record { space = space_of shadows tables heap; free = free; jobs = jobs }

-- these are parts of a process that agree under the plain heap, in a machine of at most 4096 frames
pub record PartsAgree (tables : KeptTables) (heap : Heap) (free : List Bool) : Type 0 where
  pub few : length free ≤ 4096
  pub shadows : ℕ
  pub regions : Regions
  pub agrees : SpaceAgrees kind.Plain (space_of shadows tables heap) regions free

-- and the free frames are those of some machine
pub record PartsAgreeOnFrames (tables : KeptTables) (heap : Heap) : Type 0 where
  pub free : List Bool
  pub agree : PartsAgree tables heap free

-- ---- want of memory
-- the frames that the next block of a room newly takes, and those of the tables that are missing over
-- these pages, are more than the free ones
abbrev pub lacks : KeptTables → Heap → List Bool → Room → Bool
lacks tables heap free room =
    nat_lt (free_count free)
    (block_need heap.frames heap.held room + table_need tables ((next_block heap room).start / 4096) (block_need heap.frames heap.held room))

-- ---- what was made and answered, and what is to be given back
abbrev pub malloc_answer : PlainMalloced → Answer
malloc_answer (malloced.Given pointer) = answer.Placed pointer
malloc_answer malloced.NoFrames = answer.NoFrames

abbrev pub free_answer : PlainFreed → Answer
free_answer freed.Freed = answer.Nothing
free_answer freed.NotAnObject = answer.NotAnObject

abbrev pub realloc_answer : PlainRealloced → Answer
realloc_answer (realloced.Placed pointer) = answer.Placed pointer
realloc_answer realloced.NoFrames = answer.NoFrames
realloc_answer realloced.NotAnObject = answer.NotAnObject

-- a malloc gives nothing back
abbrev pub malloced_now : PlainMalloced → Draft → Outcome
malloced_now result d = record { answer = malloc_answer result; draft = d; closing = Keeps }

-- the block with the address that was freed, where there is one
abbrev pub block_back : Option Block → Closing
block_back None = Keeps
block_back (Some block) = GivesBack (block ∷ [])

abbrev pub freed_now : PlainFreed → Option Block → Draft → Outcome
freed_now result block d = record { answer = free_answer result; draft = d; closing = block_back block }

-- the old block, where its room is not that of the new size and the call is not refused
abbrev pub moved_back : PlainRealloced → ℕ → Option Block → Closing
moved_back (realloced.Placed pointer) n None = Keeps
moved_back (realloced.Placed pointer) n (Some block) = if is_room (room_of n) block.room then Keeps else GivesBack (block ∷ [])
moved_back realloced.NoFrames n block = Keeps
moved_back realloced.NotAnObject n block = Keeps

abbrev pub realloced_now : PlainRealloced → ℕ → Option Block → Draft → Outcome
realloced_now result n block d = record { answer = realloc_answer result; draft = d; closing = moved_back result n block }
