-- The free frames of a machine, as a truth value for each frame: true where the frame is free. This project's own.
use Rattle.std.specs.Prelude.{ℕ, ◌≡◌, Bool, true, false, List, Option, Some, None, position, count_by, replicate, slice_get, slice_set}

-- a machine with this many frames, all free
abbrev pub all_free : ℕ → List Bool
all_free count = replicate count true

abbrev pub least_free : List Bool → Option ℕ
least_free frames = position (λ free. free) frames

abbrev pub free_count : List Bool → ℕ
free_count frames = count_by (λ free. free) frames

-- the frame is one of these and is not free
abbrev pub IsTaken : List Bool → ℕ → Type 0
IsTaken frames frame = slice_get frames frame ≡ Some false

abbrev pub with_frame : List Bool → ℕ → List Bool
with_frame frames frame = slice_set frames frame true

-- the frames without this one, where there is one
abbrev pub without_frame : List Bool → Option ℕ → List Bool
without_frame frames None = frames
without_frame frames (Some frame) = slice_set frames frame false
