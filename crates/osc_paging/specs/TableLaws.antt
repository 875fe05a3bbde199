-- The laws of tables, for any number of levels.
use Rattle.std.specs.Prelude.{ℕ, suc, ◌+◌, ◌-◌, ◌*◌, ◌/◌, ◌^◌, ◌≡◌, ◌≢◌, ◌<◌, ◌≤◌, ◌==◌, ◌&&◌, nat_lt, nat_le, Bool, false, List, Option, Some, None, slice_get, length, count_by, if◌then◌else◌}
use Rattle.osc_sv39.specs.declared.entries.Access.{Access}
use Rattle.osc_sv39.specs.declared.entries.Mapping.{Mapping}
use Rattle.osc_sv39.specs.Walk.{walk, frame_allowed, put_word, word_at}
use Rattle.osc_paging.specs.JobWords.{zeroed}
use Rattle.osc_paging.specs.KeptTables.{KeptTables, levels_of, root_of, mapping_at, mapping_of, piece_of, frame_of, need, closed}
use Rattle.osc_paging.specs.TableChanges.{Changed, map_page, map_pages, unmap_page, reclaim, give_leaves, opened}
use Rattle.osc_paging.specs.Agree.{Agrees, AgreesAfter, ReadsAsLeaf}

-- where the words agree, the walk gives the kept mapping, for each address and access
abbrev pub WalkGivesMapping : Type 0
WalkGivesMapping =
    (t : KeptTables) (free : List Bool) (words : List ℕ) (root address : ℕ) (access : Access)
    → Agrees t free words → root_of t ≡ Some root
    → walk words root (levels_of t) address access ≡ frame_allowed access (mapping_of t (address / 4096))

-- a root whose words are 0 agrees with no page
abbrev pub OpeningAgrees : Type 0
OpeningAgrees =
    (levels count room root : ℕ) (free : List Bool) (words : List ℕ)
    → length words ≡ length free * 512 → length free ≤ 4096 → slice_get free root ≡ Some false
    → ((i : ℕ) → i < 512 → word_at words root i ≡ 0)
    → Agrees (opened root (closed levels count room)) free words

-- the agreement after the jobs is kept by each change
abbrev pub MappingKeeps : Type 0
MappingKeeps =
    (entries : ℕ → ℕ → ℕ) (words : List ℕ) (c : Changed) (number : ℕ) (mapping : Mapping)
    → ReadsAsLeaf mapping → AgreesAfter entries words c
    → AgreesAfter entries words (map_page number mapping c)

abbrev pub UnmappingKeeps : Type 0
UnmappingKeeps =
    (entries : ℕ → ℕ → ℕ) (words : List ℕ) (c : Changed) (number : ℕ)
    → AgreesAfter entries words c → AgreesAfter entries words (unmap_page number c)

abbrev pub ReclaimingKeeps : Type 0
ReclaimingKeeps =
    (entries : ℕ → ℕ → ℕ) (words : List ℕ) (c : Changed) (leaf : ℕ)
    → 0 < c.tables.top → ((i : ℕ) → i < 512 → mapping_at c.tables.pages (leaf * 512 + i) ≡ None)
    → AgreesAfter entries words c → AgreesAfter entries words (reclaim leaf c)

abbrev pub GivingKeeps : Type 0
GivingKeeps =
    (entries : ℕ → ℕ → ℕ) (words : List ℕ) (c : Changed)
    → AgreesAfter entries words c → AgreesAfter entries words (give_leaves c)

-- the number of free frames
abbrev pub free_frames : List Bool → ℕ
free_frames free = count_by (λ b. b) free

-- a mapping takes as many frames as are needed, the topmost table stays, and no other page changes
pub record MapsPage (number : ℕ) (mapping : Mapping) (c d : Changed) : Type 0 where
  pub root : root_of d.tables ≡ root_of c.tables
  pub top : d.tables.top ≡ c.tables.top
  pub taken : free_frames d.free + need c.tables number 1 ≡ free_frames c.free
  pub pages : (q : ℕ) → mapping_at d.tables.pages q ≡ (if number == q then Some mapping else mapping_at c.tables.pages q)

abbrev pub MappingTakesNeed : Type 0
MappingTakesNeed =
    (number root : ℕ) (mapping : Mapping) (c : Changed)
    → root_of c.tables ≡ Some root → number < 512 ^ levels_of c.tables
    → need c.tables number 1 ≤ free_frames c.free
    → MapsPage number mapping c (map_page number mapping c)

-- ascending pages take what they need together
abbrev pub MappingsTakeNeed : Type 0
MappingsTakeNeed =
    (number root : ℕ) (mappings : List Mapping) (c : Changed)
    → root_of c.tables ≡ Some root → number + length mappings ≤ 512 ^ levels_of c.tables
    → need c.tables number (length mappings) ≤ free_frames c.free
    → free_frames (map_pages number mappings c).free + need c.tables number (length mappings) ≡ free_frames c.free

-- what ascending pages need is what the first one needs, and what the rest needs once it is mapped
abbrev pub NeedSplits : Type 0
NeedSplits =
    (number root more : ℕ) (mapping : Mapping) (c : Changed)
    → root_of c.tables ≡ Some root → number + more < 512 ^ levels_of c.tables
    → need c.tables number 1 ≤ free_frames c.free
    → need c.tables number (suc more) ≡ need c.tables number 1 + need (map_page number mapping c).tables (number + 1) more

-- the mapping that so many pages from a number on give the page q, or else what it had
abbrev pub mapped_among : ℕ → List Mapping → ℕ → Option Mapping → Option Mapping
mapped_among number mappings q was =
    if nat_le number q && nat_lt q (number + length mappings) then slice_get mappings (q - number) else was

-- each of the pages is mapped as asked, the topmost table stays, and no other page changes
pub record MapsPages (number : ℕ) (mappings : List Mapping) (c d : Changed) : Type 0 where
  pub root : root_of d.tables ≡ root_of c.tables
  pub top : d.tables.top ≡ c.tables.top
  pub pages : (q : ℕ) → mapping_at d.tables.pages q ≡ mapped_among number mappings q (mapping_at c.tables.pages q)

abbrev pub MappingsMapPages : Type 0
MappingsMapPages =
    (number root : ℕ) (mappings : List Mapping) (c : Changed)
    → root_of c.tables ≡ Some root → number + length mappings ≤ 512 ^ levels_of c.tables
    → need c.tables number (length mappings) ≤ free_frames c.free
    → MapsPages number mappings c (map_pages number mappings c)

-- a store in a frame that is no table, and the zeroing of one, change nothing
pub record KeepsElsewhere (t : KeptTables) (free : List Bool) (words : List ℕ) (frame : ℕ) : Type 0 where
  pub stored : (i value : ℕ) → i < 512 → Agrees t free (put_word words frame i value)
  pub zeroed : (i count : ℕ) → i + count ≤ 512 → Agrees t free (zeroed (frame * 512 + i) count words)

abbrev pub StoresElsewhereKeep : Type 0
StoresElsewhereKeep =
    (t : KeptTables) (free : List Bool) (words : List ℕ) (frame : ℕ)
    → Agrees t free words → piece_of t.tables frame ≡ None → piece_of t.aside frame ≡ None
    → KeepsElsewhere t free words frame

-- a mapped page has its leaf table, and each table below the topmost one is linked in another
pub record StandAbove (t : KeptTables) : Type 0 where
  pub pages : (n : ℕ) → mapping_at t.pages n ≢ None → frame_of t.tables 0 (n / 512) ≢ None
  pub tables : (l n : ℕ) → l < t.top → frame_of t.tables l n ≢ None → frame_of t.tables (suc l) (n / 512) ≢ None

abbrev pub TablesStandAbove : Type 0
TablesStandAbove =
    (t : KeptTables) (free : List Bool) (words : List ℕ) → Agrees t free words → StandAbove t
