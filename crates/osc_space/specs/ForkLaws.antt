-- The laws of copies: a child shares no private frame with its parent, and each is copied.
use Rattle.std.specs.Prelude.{ℕ, ◌≡◌, ◌<◌, Bool, true, false, Some, None, List, [], ◌∷◌, length, slice_get, Contains}
use Rattle.osc_word.specs.declared.job_list.Job.{Job}
use Rattle.osc_slot.specs.Heap.{frame_of}
use Rattle.osc_space.specs.Space.{Space, first_reason}
use Rattle.osc_space.specs.Fork.{Forked, is_private, copy_job, fork_reasons, fork_plan}

-- a frame of the parent stands for one that was free and is taken now
pub record StandsForNew (f : Forked) (free : List Bool) (frame : ℕ) : Type 0 where
  pub to : ℕ
  pub named : slice_get f.names frame ≡ Some to
  pub was_free : slice_get free to ≡ Some true
  pub is_taken : slice_get f.free to ≡ Some false

-- each private frame stands for one of its own that was free, and each other frame for itself; a
-- block's pages are private, also while the block's object waits, and the same objects wait
pub record CopiesApart (s : Space) (free : List Bool) (f : Forked) : Type 0 where
  pub copied : (frame : ℕ) → frame < length free → is_private s frame ≡ true → StandsForNew f free frame
  pub apart : (a b to : ℕ) → a < length free → b < length free
      → is_private s a ≡ true → is_private s b ≡ true
      → slice_get f.names a ≡ Some to → slice_get f.names b ≡ Some to → a ≡ b
  pub others : (frame : ℕ) → frame < length free → is_private s frame ≡ false → slice_get f.names frame ≡ Some frame
  pub blocks : (page frame : ℕ) → frame_of s.heap.pages page ≡ Some frame → is_private s frame ≡ true
  pub waiting : f.child.waiting ≡ s.waiting

abbrev pub ForksApart : Type 0
ForksApart =
    (s : Space) (free : List Bool) → first_reason (fork_reasons s free) ≡ None → CopiesApart s free (fork_plan s free)

-- the job copies a private frame into the one that stands for it
pub record IsCopy (s : Space) (count : ℕ) (f : Forked) (job : Job) : Type 0 where
  pub from : ℕ
  pub to : ℕ
  pub within : from < count
  pub private : is_private s from ≡ true
  pub named : slice_get f.names from ≡ Some to
  pub is : copy_job s.tables (from, to) ≡ job

abbrev pub AreCopies : Space → ℕ → Forked → List Job → Type 0
AreCopies s count f [] = Unit {0}
AreCopies s count f (job ∷ jobs) = IsCopy s count f job × AreCopies s count f jobs

-- the jobs copy each private frame and nothing else, and no frame that was taken is free now
pub record CopiesEach (s : Space) (free : List Bool) (f : Forked) : Type 0 where
  pub names : length f.names ≡ length free
  pub frames : length f.free ≡ length free
  pub taken : (frame : ℕ) → slice_get free frame ≡ Some false → slice_get f.free frame ≡ Some false
  pub only : AreCopies s (length free) f f.jobs
  pub each : (frame to : ℕ) → frame < length free → is_private s frame ≡ true → slice_get f.names frame ≡ Some to
      → Contains f.jobs (copy_job s.tables (frame, to))

abbrev pub ForksCopyEach : Type 0
ForksCopyEach =
    (s : Space) (free : List Bool) → first_reason (fork_reasons s free) ≡ None → CopiesEach s free (fork_plan s free)
