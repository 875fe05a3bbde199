-- What the calls of one process ask of its parts, in some machine. This project's own.
use Rattle.std.specs.Prelude.{ℕ, ◌≤◌, Bool, List, length}
use Rattle.osc_word.specs.declared.settings.HeapKind.{HeapKind}
use Rattle.osc_space.specs.Space.{Space}
use Rattle.osc_space.specs.Share.{Regions}
use Rattle.osc_parts.specs.Settled.{PartsFit}

-- the parts fit for some batch and regions, in a machine of at most 4096 frames
pub record HasParts (kind : HeapKind) (s : Space) (free : List Bool) : Type 0 where
  pub few : length free ≤ 4096
  pub batch : ℕ
  pub regions : Regions
  pub fit : PartsFit kind batch regions s free

-- the parts fit for this batch, and for some regions and free frames
pub record HasBatch (kind : HeapKind) (batch : ℕ) (s : Space) : Type 0 where
  pub free : List Bool
  pub few : length free ≤ 4096
  pub regions : Regions
  pub fit : PartsFit kind batch regions s free

-- the parts fit, whatever the heap is
pub record HasSomeParts (s : Space) (free : List Bool) : Type 0 where
  pub kind : HeapKind
  pub parts : HasParts kind s free

-- and for these regions
pub record HasRegions (regions : Regions) (s : Space) (free : List Bool) : Type 0 where
  pub few : length free ≤ 4096
  pub kind : HeapKind
  pub batch : ℕ
  pub fit : PartsFit kind batch regions s free
