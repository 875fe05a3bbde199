-- What a return and an end ask of the parts of a process, and the blocks that are given back. This
-- project's own.
use Rattle.std.specs.Prelude.{ℕ, ◌+◌, ◌^◌, ◌<◌, ◌≤◌, ◌≡◌, Bool, Option, Some, List, [], ◌∷◌, length}
use Rattle.osc_word.specs.declared.settings.HeapKind.{HeapKind}
use Rattle.osc_slot.specs.declared.Block.{Block}
use Rattle.osc_slot.specs.Heap.{Heap, HeapAndFree, release}
use Rattle.osc_space.specs.Space.{Space, Closing}
use Rattle.osc_space.specs.Share.{Regions, shared_frames}
use Rattle.osc_space.specs.Agree.{AreApart, AllTaken}
use Rattle.osc_parts.specs.Frames.{FramesFit}
use Rattle.osc_parts.specs.Settled.{PartsFit}
use Rattle.osc_parts.specs.EndLaws.{AreHeld}
use Rattle.osc_settled.specs.Memory.{Returns}
use Rattle.osc_calls.specs.Kernel.{Process}

-- a call can return that gives this back: its return is that of a process whose parts fit then, and no
-- frame is free that is used, nor used twice
pub record CanReturn (closing : Closing) (s : Space) (free : List Bool) : Type 0 where
  pub few : length free ≤ 4096
  pub kind : HeapKind
  pub batch : ℕ
  pub regions : Regions
  pub returns : Returns kind batch regions closing s free
  pub frames : FramesFit s free

-- a process can end: its parts fit, and each frame of its regions has a holder for each of its pages
pub record CanEnd (regions : Regions) (s : Space) (free : List Bool) : Type 0 where
  pub few : length free ≤ 4096
  pub kind : HeapKind
  pub batch : ℕ
  pub fit : PartsFit kind batch regions s free
  pub held : AreHeld regions (shared_frames s.tables)

-- these frames are taken, and none stands twice
pub record CanGive (frames : List ℕ) (free : List Bool) : Type 0 where
  pub apart : AreApart frames
  pub taken : AllTaken free frames

abbrev pub heap_and_free : Heap → List Bool → HeapAndFree
heap_and_free heap free = record { heap = heap; free = free }

-- these blocks are released one after another
abbrev pub blocks_given : List Block → HeapAndFree → HeapAndFree
blocks_given [] r = r
blocks_given (block ∷ blocks) r = blocks_given blocks (release r.heap block r.free)

-- the user address of each has a number below 2 ^ 64
abbrev pub AreSmall : List Block → Type 0
AreSmall [] = Unit {0}
AreSmall (block ∷ blocks) = (block.start + 16 < 2 ^ 64) × AreSmall blocks

-- a process that has ended with this status
abbrev pub over : ℕ → Space → Process → Process
over status s p = record p { space = s; status = Some status }
