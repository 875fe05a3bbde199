-- What the words of a process's tables show while the jobs of its call are pending. `old` are its tables at
-- the call's plan, and `t` those that the kernel keeps since. This project's own.
use Rattle.std.specs.Prelude.{ℕ, ◌+◌, ◌*◌, ◌≡◌, ◌≤◌, ◌<◌, ◌==◌, ◌⊎◌, Bool, true, false, ◌&&◌, ◌||◌, Some, None, List, [], ◌∷◌, length, slice_get}
use Rattle.std.specs.List.{list_any}
use Rattle.osc_word.specs.declared.job_list.Job.{Job}
use Rattle.osc_word.specs.declared.job_list.Job.TheVariants.{PutWord, ZeroWords, CopyWords, CopyPart, CopyTable, ClearBox, Tell, ToOut}
use Rattle.osc_sv39.specs.declared.entries.PteEntry.TheVariants.{Table}
use Rattle.osc_sv39.specs.declared.entries.Mapping.{Mapping}
use Rattle.osc_sv39.specs.Entries.{entry_of}
use Rattle.osc_sv39.specs.Walk.{word_at}
use Rattle.osc_paging.specs.declared.Piece.{Piece}
use Rattle.osc_paging.specs.KeptTables.{KeptTables, piece_of, mapping_at, kept_word}
use Rattle.osc_paging.specs.Agree.{Apart, ReadsAsLeaf}
use Rattle.osc_paging.specs.CopyLaws.{IsNoTable, IsTable}
use Rattle.osc_paging.specs.OtherLaws.{IsAnyTable}

-- ---- pending jobs
-- all words of this frame are still to be made
abbrev pub closes : Job → ℕ → Bool
closes (ZeroWords at count) frame = at.frame == frame
closes (CopyTable from to) frame = to == frame
closes job frame = false

abbrev pub is_closed : List Job → ℕ → Bool
is_closed [] frame = false
is_closed (job ∷ jobs) frame = closes job frame || is_closed jobs frame

-- this word is still to become 0 before any cache is cleared
abbrev pub is_wiped : List Job → ℕ → ℕ → Bool
is_wiped [] frame index = false
is_wiped (PutWord at value ∷ jobs) frame index =
    ((at.frame == frame) && (at.index == index) && (value == 0)) || is_wiped jobs frame index
is_wiped (ClearBox hart ∷ jobs) frame index = false
is_wiped (job ∷ jobs) frame index = is_wiped jobs frame index

-- the cache of a hart is still to be cleared
abbrev pub clears : ℕ → Job → Bool
clears hart (ClearBox other) = other == hart
clears hart job = false

-- those of so many harts are
abbrev pub AllDue : ℕ → List Job → Type 0
AllDue harts jobs = (hart : ℕ) → hart < harts → list_any (clears hart) jobs ≡ true

-- ---- what a job writes
-- into a table: what is kept there, or 0; a table that it links is made by then
pub record PutFits (t : KeptTables) (rest : List Job) (frame index value : ℕ) : Type 0 where
  pub kept : (value ≡ 0) ⊎ (value ≡ kept_word t frame index)
  pub opens : (to : ℕ) → entry_of value ≡ Table to → is_closed rest to ≡ false

-- all words of a table, which is none aside
pub record IsWhole (t : KeptTables) (frame index count : ℕ) : Type 0 where
  pub from : index ≡ 0
  pub all : count ≡ 512
  pub linked : piece_of t.aside frame ≡ None

abbrev pub JobFits : KeptTables → List Bool → List Job → Job → Type 0
JobFits t free rest (PutWord at value) =
    (slice_get free at.frame ≡ Some false) × (at.index < 512) × (IsNoTable t at.frame ⊎ PutFits t rest at.frame at.index value)
JobFits t free rest (ZeroWords at count) =
    (slice_get free at.frame ≡ Some false) × (at.index + count ≤ 512) × (IsNoTable t at.frame ⊎ IsWhole t at.frame at.index count)
JobFits t free rest (CopyWords from to count) = (slice_get free to.frame ≡ Some false) × (to.index + count ≤ 512) × IsNoTable t to.frame
JobFits t free rest (CopyPart from to bytes) = (slice_get free to.frame ≡ Some false) × (to.index < 512) × IsNoTable t to.frame
JobFits t free rest (CopyTable from to) = (slice_get free to ≡ Some false) × IsNoTable t to
JobFits t free rest (ClearBox hart) = Unit {0}
JobFits t free rest (Tell hart) = Unit {0}
JobFits t free rest (ToOut at first count) = Unit {0}

abbrev pub JobsFit : KeptTables → List Bool → List Job → Type 0
JobsFit t free [] = Unit {0}
JobsFit t free (job ∷ jobs) = JobFits t free jobs job × JobsFit t free jobs

-- ---- tables
-- the part of the agreement that no word has
pub record Tidy (t : KeptTables) (free : List Bool) : Type 0 where
  pub small : length free ≤ 4096
  pub apart : Apart t.tables
  pub taken : (f : ℕ) (p : Piece) → piece_of t.tables f ≡ Some p → slice_get free f ≡ Some false
  pub spare : (f : ℕ) (p : Piece) → piece_of t.aside f ≡ Some p → (piece_of t.tables f ≡ None) × (slice_get free f ≡ Some false)
  pub leaves : (n : ℕ) (m : Mapping) → mapping_at t.pages n ≡ Some m → ReadsAsLeaf m

-- an old table stays where it is, or it is a leaf table that stands aside; a new one is still to be made; and
-- each old entry that is not kept any more is still to become 0
pub record Turned (old t : KeptTables) (free : List Bool) (js : List Job) : Type 0 where
  pub tidy : Tidy t free
  pub olds : (f : ℕ) (p : Piece) → piece_of old.tables f ≡ Some p → (piece_of t.tables f ≡ Some p) ⊎ ((p.level ≡ 0) × (piece_of t.aside f ≡ Some p))
  pub news : (f : ℕ) → IsAnyTable t f → (is_closed js f ≡ true) ⊎ IsTable old f
  pub made : (f : ℕ) → IsTable old f → is_closed js f ≡ false
  pub kept : (f i : ℕ) → IsTable old f → i < 512
      → (kept_word t f i ≡ kept_word old f i) ⊎ ((kept_word old f i ≡ 0) ⊎ (is_wiped js f i ≡ true))
  pub jobs : JobsFit t free js

-- ---- words
-- a word is the kept one or 0, or the old one while it is to become 0 and each of so many caches is still to be
-- cleared
abbrev pub IsShown : ℕ → KeptTables → KeptTables → List Job → List ℕ → ℕ → ℕ → Type 0
IsShown harts old t js words f i =
    (word_at words f i ≡ kept_word t f i)
    ⊎ ((word_at words f i ≡ 0) ⊎ ((word_at words f i ≡ kept_word old f i) × (is_wiped js f i ≡ true) × AllDue harts js))

pub record Shows (harts : ℕ) (old t : KeptTables) (free : List Bool) (js : List Job) (words : List ℕ) : Type 0 where
  pub size : length words ≡ length free * 512
  pub tidy : Tidy t free
  pub olds : (f : ℕ) (p : Piece) → piece_of old.tables f ≡ Some p → (piece_of t.tables f ≡ Some p) ⊎ ((p.level ≡ 0) × (piece_of t.aside f ≡ Some p))
  pub made : (f : ℕ) → IsTable old f → is_closed js f ≡ false
  pub jobs : JobsFit t free js
  pub shown : (f i : ℕ) → i < 512 → IsAnyTable t f → is_closed js f ≡ false → IsShown harts old t js words f i
  -- a link that is shown leads to a table that is made
  pub links : (f i to : ℕ) → i < 512 → IsAnyTable t f → is_closed js f ≡ false → entry_of (word_at words f i) ≡ Table to
      → is_closed js to ≡ false

-- ---- jobs that write no table
-- a frame that is taken, and no table
abbrev pub IsPlain : KeptTables → List Bool → ℕ → Type 0
IsPlain t free frame = (slice_get free frame ≡ Some false) × IsNoTable t frame

-- each of these reads as what it is made of
abbrev pub AllRead : List Mapping → Type 0
AllRead [] = Unit {0}
AllRead (m ∷ ms) = ReadsAsLeaf m × AllRead ms

-- the job writes no table, and clears no cache
abbrev pub IsQuiet : KeptTables → Job → Type 0
IsQuiet t (CopyWords from to count) = Unit {0}
IsQuiet t (CopyPart from to bytes) = Unit {0}
IsQuiet t (CopyTable from to) = IsNoTable t to
IsQuiet t (Tell hart) = Unit {0}
IsQuiet t (ToOut at first count) = Unit {0}
IsQuiet t job = ⊥
