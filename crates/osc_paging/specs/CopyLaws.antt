-- The laws of copies: where jobs write no table of a process, its words still agree, and a child's
-- words agree once the jobs have copied its parent's tables. They hold for any number of levels.
use Rattle.std.specs.Prelude.{ℕ, ◌+◌, ◌≡◌, ◌≢◌, ◌<◌, ◌≤◌, ◌⊎◌, Bool, false, Some, None, List, [], ◌∷◌, Contains, slice_get, slice_index, length}
use Rattle.osc_word.specs.declared.job_list.Job.{Job}
use Rattle.osc_word.specs.declared.job_list.Job.TheVariants.{PutWord, ZeroWords, CopyWords, CopyPart, CopyTable, ClearBox, Tell, ToOut}
use Rattle.osc_sv39.specs.declared.entries.Mapping.{Mapping}
use Rattle.osc_paging.specs.JobWords.{words_after}
use Rattle.osc_paging.specs.KeptTables.{KeptTables, mapping_at, piece_of, kept_word}
use Rattle.osc_paging.specs.TableChanges.{renamed}
use Rattle.osc_paging.specs.Agree.{Agrees}

-- ---- jobs elsewhere
-- the frame is no table of these, and no leaf aside
abbrev pub IsNoTable : KeptTables → ℕ → Type 0
IsNoTable t frame = (piece_of t.tables frame ≡ None) × (piece_of t.aside frame ≡ None)

-- what the job writes lies in one frame that is no table of these
abbrev pub WritesElsewhere : KeptTables → Job → Type 0
WritesElsewhere t (PutWord at value) = (at.index < 512) × IsNoTable t at.frame
WritesElsewhere t (ZeroWords at count) = (at.index + count ≤ 512) × IsNoTable t at.frame
WritesElsewhere t (CopyWords from to count) = (to.index + count ≤ 512) × IsNoTable t to.frame
WritesElsewhere t (CopyPart from to bytes) = (to.index < 512) × IsNoTable t to.frame
WritesElsewhere t (CopyTable from to) = IsNoTable t to
WritesElsewhere t (ClearBox hart) = Unit {0}
WritesElsewhere t (Tell hart) = Unit {0}
WritesElsewhere t (ToOut at first count) = Unit {0}

abbrev pub AllElsewhere : KeptTables → List Job → Type 0
AllElsewhere t [] = Unit {0}
AllElsewhere t (job ∷ jobs) = WritesElsewhere t job × AllElsewhere t jobs

abbrev pub JobsElsewhereKeep : Type 0
JobsElsewhereKeep =
    (entries : ℕ → ℕ → ℕ) (t : KeptTables) (free : List Bool) (words : List ℕ) (jobs : List Job)
    → Agrees t free words → AllElsewhere t jobs → Agrees t free (words_after entries jobs words)

-- frames that were taken still are
pub record KeepsTaken (free after : List Bool) : Type 0 where
  pub size : length after ≡ length free
  pub taken : (frame : ℕ) → slice_get free frame ≡ Some false → slice_get after frame ≡ Some false

abbrev pub TakingKeeps : Type 0
TakingKeeps =
    (t : KeptTables) (free after : List Bool) (words : List ℕ)
    → Agrees t free words → KeepsTaken free after → Agrees t after words

-- ---- copies
abbrev pub IsTable : KeptTables → ℕ → Type 0
IsTable t frame = piece_of t.tables frame ≢ None

-- each table's frame has a name of its own, which is no table yet and is taken afterwards; the
-- names of mapped frames are frames of the machine
pub record CanCopy (t : KeptTables) (names : List ℕ) (free after : List Bool) : Type 0 where
  pub no_aside : t.aside ≡ []
  pub different : (f g : ℕ) → IsTable t f → IsTable t g → slice_index names f ≡ slice_index names g → f ≡ g
  pub new : (f : ℕ) → IsTable t f → piece_of t.tables (slice_index names f) ≡ None
  pub taken : (f : ℕ) → IsTable t f → slice_get after (slice_index names f) ≡ Some false
  pub frames : (n : ℕ) (m : Mapping) → mapping_at t.pages n ≡ Some m → slice_index names m.frame < length free
  pub keeps : KeepsTaken free after

-- the job copies a table of these into the frame of its name
pub record CopiesTable (t : KeptTables) (names : List ℕ) (job : Job) : Type 0 where
  pub from : ℕ
  pub table : IsTable t from
  pub copies : job ≡ CopyTable from (slice_index names from)

-- each job copies a table, or writes no table of the parent and none of the child
abbrev pub AllCopies : KeptTables → List ℕ → List Job → Type 0
AllCopies t names [] = Unit {0}
AllCopies t names (job ∷ jobs) =
    (CopiesTable t names job ⊎ (WritesElsewhere t job × WritesElsewhere (renamed names t) job)) × AllCopies t names jobs

-- `entries` tells the words that these tables have
abbrev pub TellsEntries : (ℕ → ℕ → ℕ) → KeptTables → Type 0
TellsEntries entries t = (f i : ℕ) → i < 512 → IsTable t f → entries f i ≡ kept_word t f i

-- afterwards the words agree with the parent's tables and with the child's
pub record CopyAgrees (t : KeptTables) (names : List ℕ) (after : List Bool) (words : List ℕ) : Type 0 where
  pub parent : Agrees t after words
  pub child : Agrees (renamed names t) after words

abbrev pub CopyingAgrees : Type 0
CopyingAgrees =
    (entries : ℕ → ℕ → ℕ) (t : KeptTables) (names : List ℕ) (free after : List Bool) (words : List ℕ) (jobs : List Job)
    → Agrees t free words → CanCopy t names free after → AllCopies t names jobs
    → ((f : ℕ) → IsTable t f → Contains jobs (CopyTable f (slice_index names f)))
    → TellsEntries entries (renamed names t)
    → CopyAgrees t names after (words_after entries jobs words)
