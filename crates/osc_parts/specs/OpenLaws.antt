-- The law of the first memory: the topmost table alone, before any page is mapped.
use Rattle.std.specs.Prelude.{ℕ, ◌+◌, ◌≡◌, ◌<◌, ◌≤◌, Bool, false, Some, List, [], length, slice_get}
use Rattle.osc_word.specs.declared.settings.HeapKind.{HeapKind}
use Rattle.osc_word.specs.AddressMap.{first_shadow_page}
use Rattle.osc_word.specs.WaitingList.{most_waiting}
use Rattle.osc_slot.specs.Heap.{empty_heap}
use Rattle.osc_paging.specs.KeptTables.{closed}
use Rattle.osc_paging.specs.TableChanges.{opened}
use Rattle.osc_space.specs.Space.{Space}
use Rattle.osc_space.specs.Share.{no_regions}
use Rattle.osc_parts.specs.Settled.{shadows_end, PartsFit}

-- a memory of so many levels of tables in a machine of so many frames
abbrev pub opened_space : ℕ → ℕ → ℕ → ℕ → Space
opened_space levels frames shadows root = record {
  tables = opened root (closed levels frames (frames + shadows));
  objects = [];
  waiting = [];
  shadows = shadows;
  heap = empty_heap frames;
}

-- it fits where its root is taken
abbrev pub OpeningFits : Type 0
OpeningFits =
    (kind : HeapKind) (batch levels shadows root : ℕ) (free : List Bool)
    → 3 ≤ levels → 0 < batch → batch ≤ most_waiting → first_shadow_page + shadows ≤ shadows_end → slice_get free root ≡ Some false
    → PartsFit kind batch (no_regions (length free)) (opened_space levels (length free) shadows root) free
