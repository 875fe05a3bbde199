-- The heap of one process, and what placing and releasing a block make of it. This project's own.
use Rattle.std.specs.Prelude.{ℕ, zero, suc, ◌+◌, ◌/◌, ◌≡◌, ◌<◌, ◌==◌, Bool, true, false, not, List, [], ◌∷◌, Option, Some, None, is_some, unwrap_or, length, map, filter, find, position, count_by, slice_get, slice_set, slice_index}
use Rattle.std.specs.List.{list_any}
use Rattle.osc_class.specs.declared.Room.{Room}
use Rattle.osc_slot.specs.declared.Block.{Block}
use Rattle.osc_slot.specs.declared.HeapPage.{HeapPage}
use Rattle.osc_slot.specs.Ordered.{insert_by, IsAscending}
use Rattle.osc_slot.specs.Areas.{IsPlaced}
use Rattle.osc_slot.specs.Slots.{is_block, is_covered, least_start, need, block_frames}

pub record Heap : Type 0 where
  pub frames : ℕ  -- of the machine
  pub held : List Block  -- the held blocks, by their starts
  pub pages : List HeapPage  -- the pages that hold a block, ascending

abbrev pub empty_heap : ℕ → Heap
empty_heap frames = record { frames = frames; held = []; pages = [] }

abbrev pub with_block : Block → List Block → List Block
with_block block held = insert_by (λ (b : Block). b.start) block held

abbrev pub without_block : Block → List Block → List Block
without_block block held = filter (λ b. not (is_block block b)) held

-- the held block with this user address, which is 16 past its start
abbrev pub block_of_user : List Block → ℕ → Option Block
block_of_user held user = find (λ (b : Block). b.start + 16 == user) held

abbrev pub frame_of_found : Option HeapPage → Option ℕ
frame_of_found None = None
frame_of_found (Some p) = Some p.frame

abbrev pub frame_of : List HeapPage → ℕ → Option ℕ
frame_of pages page = frame_of_found (find (λ (p : HeapPage). p.page == page) pages)

-- pages that have frames, and the free frames of the machine, true where free
pub record Backing : Type 0 where
  pub pages : List HeapPage
  pub free : List Bool

-- a page more, which has this frame
abbrev pub back_by : ℕ → Option ℕ → Backing → Backing
back_by page None b = b
back_by page (Some frame) b = record { pages = insert_by (λ (p : HeapPage). p.page) (record { page = page; frame = frame }) b.pages; free = slice_set b.free frame false }

-- so many pages more from this one on, each with the least free frame
unfoldable pub back : ℕ → ℕ → Backing → Backing
back zero page b = b
back (suc count) page b = back count (page + 1) (back_by page (position (λ free. free) b.free) b)

-- the frames of these pages are free again
unfoldable pub give_back : List HeapPage → List Bool → List Bool
give_back [] free = free
give_back (p ∷ pages) free = give_back pages (slice_set free p.frame true)

-- a heap and the free frames of the machine
pub record HeapAndFree : Type 0 where
  pub heap : Heap
  pub free : List Bool

-- the next block of a room
abbrev pub next_block : Heap → Room → Block
next_block heap room = record { start = unwrap_or (least_start heap.frames heap.held room) 0; room = room }

-- the next block is held, and the pages that it newly takes have the least free frames
unfoldable pub place : Heap → Room → List Bool → HeapAndFree
place heap room free =
    let block = next_block heap room in
    let b = back (need heap.frames heap.held room) (block.start / 4096) (record { pages = heap.pages; free = free }) in
    record { heap = record { frames = heap.frames; held = with_block block heap.held; pages = b.pages }; free = b.free }

-- the block is held no more, and the frames of the pages that hold no block any more are free
unfoldable pub release : Heap → Block → List Bool → HeapAndFree
release heap block free =
    let held = without_block block heap.held in
    record {
      heap = record { frames = heap.frames; held = held; pages = filter (λ (p : HeapPage). is_covered held p.page) heap.pages };
      free = give_back (filter (λ (p : HeapPage). not (is_covered held p.page)) heap.pages) free;
    }

-- no block is held, and the frames of all pages are free
abbrev pub clear : Heap → List Bool → HeapAndFree
clear heap free = record { heap = empty_heap heap.frames; free = give_back heap.pages free }

-- the same blocks over other frames: each frame f is replaced by names[f]
abbrev pub rename : List ℕ → HeapPage → HeapPage
rename names p = record { page = p.page; frame = slice_index names p.frame }

abbrev pub copy : List ℕ → Heap → Heap
copy names heap = record { frames = heap.frames; held = heap.held; pages = map (rename names) heap.pages }

-- the frames of the pages are taken
unfoldable pub AreTaken : List Bool → List HeapPage → Type 0
AreTaken free [] = Unit {0}
AreTaken free (p ∷ pages) = (slice_get free p.frame ≡ Some false) × AreTaken free pages

abbrev pub has_frame : ℕ → List HeapPage → Bool
has_frame frame pages = list_any (λ (p : HeapPage). p.frame == frame) pages

-- no two pages have one frame, and each frame is one of this many
unfoldable pub HaveFrames : ℕ → List HeapPage → Type 0
HaveFrames frames [] = Unit {0}
HaveFrames frames (p ∷ pages) = (p.frame < frames) × (has_frame p.frame pages ≡ false) × HaveFrames frames pages

unfoldable pub ArePlaced : ℕ → List Block → Type 0
ArePlaced frames [] = Unit {0}
ArePlaced frames (block ∷ held) = IsPlaced frames block × ArePlaced frames held

-- what is true of every heap
pub record IsHeap (heap : Heap) : Type 0 where
  pub ordered : IsAscending (λ (b : Block). b.start) heap.held
  pub placed : ArePlaced heap.frames heap.held
  pub pages_ordered : IsAscending (λ (p : HeapPage). p.page) heap.pages
  pub covered : (page : ℕ) → is_some (frame_of heap.pages page) ≡ is_covered heap.held page
  pub frames_apart : HaveFrames heap.frames heap.pages
  pub count : length heap.pages ≡ block_frames heap.frames heap.held

-- the free frames are those of the heap's machine, and the heap's own frames are taken
pub record FramesAgree (heap : Heap) (free : List Bool) : Type 0 where
  pub count : length free ≡ heap.frames
  pub taken : AreTaken free heap.pages

abbrev pub free_count : List Bool → ℕ
free_count free = count_by (λ f. f) free

-- what each change of a heap keeps: free and held frames add up, and a page that held a block and still does keeps its frame
pub record Keeps (heap : Heap) (free : List Bool) (now : HeapAndFree) : Type 0 where
  pub is_heap : IsHeap now.heap
  pub same_frames : now.heap.frames ≡ heap.frames
  pub frames_agree : FramesAgree now.heap now.free
  pub add_up : free_count now.free + length now.heap.pages ≡ free_count free + length heap.pages
  pub stays : (page : ℕ) → is_covered heap.held page ≡ true → is_covered now.heap.held page ≡ true → frame_of now.heap.pages page ≡ frame_of heap.pages page

-- the names give different frames of the machine for the frames of these pages
abbrev pub AreNames : ℕ → List ℕ → List HeapPage → Type 0
AreNames frames names pages = (length names ≡ frames) × HaveFrames frames (map (rename names) pages)
