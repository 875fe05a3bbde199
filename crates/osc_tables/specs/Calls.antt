-- What the calls of tables ask for and say. It is this project's own.
use Rattle.std.specs.Prelude.{ℕ, ◌+◌, ◌-◌, ◌*◌, ◌≡◌, ◌≢◌, ◌<◌, ◌≤◌, Bool, List, Option, Some, None, IsSome, IsTrue, All, length, slice_index, ◌==◌, if◌then◌else◌}
use Rattle.osc_frames.specs.Free.{IsTaken}
use Rattle.osc_word.specs.declared.job_list.Job.{Job}
use Rattle.osc_sv39.specs.declared.entries.Mapping.{Mapping}
use Rattle.osc_sv39.specs.Walk.{is_canonical, number_of}
use Rattle.osc_paging.specs.declared.Piece.{Piece}
use Rattle.osc_paging.specs.declared.TableFrame.{TableFrame}
use Rattle.osc_paging.specs.declared.Mapped.{Mapped}
use Rattle.osc_paging.specs.KeptTables.{KeptTables, levels_of, closed, root_of, mapping_of, piece_of, frame_of}
use Rattle.osc_paging.specs.TableChanges.{Changed}
use Rattle.osc_tables.specs.Inside.{IsTop, AscendFrom, InOrder}

abbrev pub changed : KeptTables → List Bool → List Job → Changed
changed tables free jobs = record { tables = tables; free = free; jobs = jobs }

-- there is a topmost table
abbrev pub IsOpen : KeptTables → Type 0
IsOpen t = IsSome (root_of t)

abbrev pub IsClosed : KeptTables → Type 0
IsClosed t = t ≡ closed (levels_of t) t.count t.room

-- how many more pages may be mapped
abbrev pub left : KeptTables → ℕ
left t = t.room - length t.pages

-- the frames are those of the machine, and all tables have taken theirs
abbrev pub AllTaken : List TableFrame → List Bool → Type 0
AllTaken tables free = (frame : ℕ) (p : Piece) → piece_of tables frame ≡ Some p → IsTaken free frame

pub record HasTaken (t : KeptTables) (free : List Bool) : Type 0 where
  pub count : length free ≡ t.count
  pub tables : AllTaken t.tables free
  pub aside : AllTaken t.aside free

-- with these levels `split` takes the address of each of these pages
abbrev pub AllCanonical : ℕ → ℕ → ℕ → Type 0
AllCanonical levels first count = (k : ℕ) → k < count → IsTrue (is_canonical levels (first + k))

-- the leaf table is linked and has no entry
pub record IsEmptyLeaf (t : KeptTables) (leaf : ℕ) : Type 0 where
  pub canonical : IsTrue (is_canonical (levels_of t) (leaf * 512))
  pub linked : IsSome (frame_of t.tables 0 (number_of t.top leaf))
  pub empty : (i : ℕ) → i < 512 → mapping_of t (leaf * 512 + i) ≡ None

-- there are three or four levels, the mapped pages ascend by their numbers, and the tables by level
-- and number
pub record IsOrdered (t : KeptTables) : Type 0 where
  pub range : IsTop t.top
  pub ascend : AscendFrom 0 t.pages
  pub tables : InOrder t.tables

-- the least mapped page at or above another
pub record IsNextPage (t : KeptTables) (from page : ℕ) : Type 0 where
  pub above : from ≤ page
  pub mapped : IsSome (mapping_of t page)
  pub least : (q : ℕ) → from ≤ q → IsSome (mapping_of t q) → page ≤ q

abbrev pub NoneFrom : KeptTables → ℕ → Type 0
NoneFrom t from = (q : ℕ) → from ≤ q → mapping_of t q ≡ None

-- all frames are those of the machine, and the names give different frames for different tables
pub record CanRename (t : KeptTables) (names : List ℕ) : Type 0 where
  pub size : length names ≡ t.count
  pub tables : All (λ (x : TableFrame). x.frame < t.count) t.tables
  pub pages : All (λ (m : Mapped). m.mapping.frame < t.count) t.pages
  pub different : (f g : ℕ) → piece_of t.tables f ≢ None → piece_of t.tables g ≢ None → slice_index names f ≡ slice_index names g → f ≡ g

-- a frame that no table has yet, and there may be one more
pub record IsFresh (t : KeptTables) (frame : ℕ) : Type 0 where
  pub no_table : piece_of t.tables frame ≡ None
  pub not_aside : piece_of t.aside frame ≡ None
  pub fits : length t.tables + length t.aside < t.count

-- the page maps to this and no other page changes
abbrev pub MapsTo : ℕ → Option Mapping → KeptTables → KeptTables → Type 0
MapsTo page mapping old new =
    (q : ℕ) → mapping_of new q ≡ (if page == q then mapping else mapping_of old q)
