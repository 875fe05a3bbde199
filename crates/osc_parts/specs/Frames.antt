-- Which frames a process holds, counted. Each change of one process's memory only moves frames
-- between it and the free ones, so for each frame the sum of both counts stays. This project's own.
use Rattle.std.specs.Prelude.{ℕ, ◌+◌, ◌==◌, ◌≡◌, Bool, true, false, Option, Some, None, List, [], ◌∷◌, ◌++◌, length, map, slice_get, if◌then◌else◌}
use Rattle.osc_space.specs.Space.{Space}
use Rattle.osc_space.specs.Fork.{table_frame_of, frames_owned}
use Rattle.osc_space.specs.Share.{shared_pages, shared_frames}
use Rattle.osc_space.specs.Agree.{AreApart, AllTaken}

-- 1 where two frames are the same
abbrev pub one_at : ℕ → ℕ → ℕ
one_at x frame = if x == frame then 1 else 0

-- how often a frame stands in a list
abbrev pub among : ℕ → List ℕ → ℕ
among frame [] = 0
among frame (x ∷ xs) = one_at x frame + among frame xs

abbrev pub one_where : Option Bool → ℕ
one_where (Some true) = 1
one_where (Some false) = 0
one_where None = 0

-- 1 where the frame is free
abbrev pub vacant : List Bool → ℕ → ℕ
vacant free frame = one_where (slice_get free frame)

-- the frames that a process alone holds: of its tables, of the pages that hold blocks, of its image
-- and stack, and of the leaf tables that stand aside
abbrev pub frames_held : Space → List ℕ
frames_held s = frames_owned s ++ map table_frame_of s.tables.aside

-- these and the frames of its regions
abbrev pub frames_mapped : Space → List ℕ
frames_mapped s = frames_held s ++ shared_frames s.tables

-- no frame is held twice, and none that is held is free: also while a call is under way
pub record FramesFit (s : Space) (free : List Bool) : Type 0 where
  pub apart : AreApart (frames_mapped s)
  pub taken : AllTaken free (frames_mapped s)

-- each frame that is held more was free, and each that is held less is free; the pages of regions stay
pub record Trades (s : Space) (free : List Bool) (t : Space) (after : List Bool) : Type 0 where
  pub count : length after ≡ length free
  pub each : (frame : ℕ) → among frame (frames_held t) + vacant after frame ≡ among frame (frames_held s) + vacant free frame
  pub shared : shared_pages t.tables ≡ shared_pages s.tables
