-- The law of the end of a process.
use Rattle.std.specs.Prelude.{ℕ, ◌+◌, ◌==◌, ◌≡◌, ◌≤◌, ◌&&◌, nat_lt, Bool, List, [], length, if◌then◌else◌}
use Rattle.osc_word.specs.declared.settings.HeapKind.{HeapKind}
use Rattle.osc_paging.specs.Agree.{Agrees}
use Rattle.osc_space.specs.Space.{Space}
use Rattle.osc_space.specs.Share.{Regions, holders, shared_frames}
use Rattle.osc_space.specs.Finish.{Ended, ended}
use Rattle.osc_parts.specs.Frames.{among, vacant, frames_held, frames_mapped}
use Rattle.osc_parts.specs.Settled.{PartsFit}
use Rattle.osc_parts.specs.OthersFit.{HoldsApart}

-- each frame of these has a holder for each time that it stands there
abbrev pub AreHeld : Regions → List ℕ → Type 0
AreHeld regions frames = (frame : ℕ) → among frame frames ≤ holders regions frame

-- 1 where a frame of a region that the process leaves has no holder then
abbrev pub dropped : List ℕ → Regions → ℕ → ℕ
dropped left after frame = if nat_lt 0 (among frame left) && (holders after frame == 0) then 1 else 0

-- Each frame of its regions is held once less; exactly its own frames are free then, and those of
-- regions that nobody holds any more; it has none any more. Another memory whose regions have
-- holders beside this one's keeps its parts, and its words agree still.
pub record EndFits (regions : Regions) (s : Space) (free : List Bool) (e : Ended) : Type 0 where
  pub count : length e.free ≡ length free
  pub holds : (frame : ℕ) → holders e.regions frame + among frame (shared_frames s.tables) ≡ holders regions frame
  pub frees : (frame : ℕ) → vacant e.free frame ≡ vacant free frame + among frame (frames_held s) + dropped (shared_frames s.tables) e.regions frame
  pub none : frames_mapped e.space ≡ []
  pub others : (kind : HeapKind) (batch : ℕ) (other : Space) → PartsFit kind batch regions other free → HoldsApart s other → HoldsApart other s
      → ((frame : ℕ) → among frame (shared_frames s.tables) + among frame (shared_frames other.tables) ≤ holders regions frame)
      → PartsFit kind batch e.regions other e.free
  pub words : (kind : HeapKind) (batch : ℕ) (other : Space) (words : List ℕ) → PartsFit kind batch e.regions other e.free
      → Agrees other.tables free words → Agrees other.tables e.free words

abbrev pub EndsFit : Type 0
EndsFit =
    (kind : HeapKind) (batch : ℕ) (regions : Regions) (s : Space) (free : List Bool)
    → PartsFit kind batch regions s free → AreHeld regions (shared_frames s.tables) → EndFits regions s free (ended regions s free)
