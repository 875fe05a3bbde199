-- The work space of a fork: what stands in it for each frame while the frames to be copied are found.
-- It is this project's own.
use Rattle.std.specs.Prelude.{ℕ, ◌+◌, ◌==◌, ◌≡◌, ◌<◌, ◌≤◌, Bool, true, false, List, [], ◌∷◌, map, filter, zip, length, slice_index, slice_set, Some, is_some, ◌⊎◌, if◌then◌else◌}
use Rattle.std.specs.List.{range_with_len, list_any}
use Rattle.osc_word.specs.AddressMap.{is_within}
use Rattle.osc_paging.specs.declared.Mapped.{Mapped}
use Rattle.osc_paging.specs.KeptTables.{KeptTables}
use Rattle.osc_slot.specs.declared.HeapPage.{HeapPage}
use Rattle.osc_slot.specs.Heap.{frame_of}
use Rattle.osc_space.specs.Space.{Space}
use Rattle.osc_space.specs.Fork.{frame_of_page, heap_frame_of, free_numbers, is_private}

-- it stands for a frame that is to be copied, and is the number of none
abbrev pub to_copy : ℕ
to_copy = 4294967295

-- a frame is to be copied where it passes the test, and else stands for itself
abbrev pub AreMarked : (ℕ → Bool) → List ℕ → Type 0
AreMarked test names = (frame : ℕ) → frame < length names → slice_index names frame ≡ (if test frame then to_copy else frame)

-- these frames are to be copied too
abbrev pub mark_all : List ℕ → List ℕ → List ℕ
mark_all [] names = names
mark_all (frame ∷ frames) names = mark_all frames (slice_set names frame to_copy)

-- the mapped pages from one page on, below another, and their frames
abbrev pub pages_between : ℕ → ℕ → KeptTables → List Mapped
pages_between from to t = filter (λ (m : Mapped). is_within from to m.number) t.pages

abbrev pub frames_between : ℕ → ℕ → KeptTables → List ℕ
frames_between from to t = map frame_of_page (pages_between from to t)

-- it is the first of these pages
pub record IsFirst (from to : ℕ) (t : KeptTables) (m : Mapped) : Type 0 where
  pub below : m.number < to
  pub above : from ≤ m.number
  pub rest : pages_between from to t ≡ m ∷ pages_between (m.number + 1) to t

-- ---- the pages of blocks
abbrev pub is_heap_frame : List HeapPage → ℕ → Bool
is_heap_frame pages frame = list_any (λ own. own == frame) (map heap_frame_of pages)

-- more frames of these pages are to be copied, and nothing else is changed
pub record MarksMore (pages : List HeapPage) (old new : List ℕ) : Type 0 where
  pub size : length new ≡ length old
  pub each : (frame : ℕ) → (slice_index new frame ≡ slice_index old frame)
      ⊎ ((slice_index new frame ≡ to_copy) × (is_heap_frame pages frame ≡ true))

-- so many pages from this one on have frames
abbrev pub AreBacked : List HeapPage → ℕ → ℕ → Type 0
AreBacked pages first count = (k : ℕ) → k < count → is_some (frame_of pages (first + k)) ≡ true

-- and their frames are to be copied
abbrev pub AreFound : List HeapPage → ℕ → ℕ → List ℕ → Type 0
AreFound pages first count names =
    (k frame : ℕ) → k < count → frame_of pages (first + k) ≡ Some frame → slice_index names frame ≡ to_copy

-- ---- the frames that are to be copied, ascending, each with a free one
abbrev pub is_marked : List ℕ → ℕ → Bool
is_marked names frame = slice_index names frame == to_copy

abbrev pub marked_frames : List ℕ → List ℕ
marked_frames names = filter (is_marked names) (range_with_len 0 (length names))

abbrev pub marked_copies : List ℕ → List Bool → List (ℕ × ℕ)
marked_copies names free = zip (marked_frames names) (free_numbers free)

-- each private frame is to be copied, and each other stands for itself
pub record Known (s : Space) (free : List Bool) (names : List ℕ) : Type 0 where
  pub size : length names ≡ length free
  pub copied : (frame : ℕ) → frame < length free → is_private s frame ≡ true → slice_index names frame ≡ to_copy
  pub others : (frame : ℕ) → frame < length free → is_private s frame ≡ false → slice_index names frame ≡ frame
