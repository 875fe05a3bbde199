-- The laws of what tables show. This project's own.
use Rattle.std.specs.Prelude.{ℕ, ◌+◌, ◌*◌, ◌≡◌, ◌<◌, ◌≤◌, ◌==◌, ◌⊎◌, Bool, false, true, None, List, [], ◌∷◌, ◌++◌, length}
use Rattle.std.specs.List.{list_any}
use Rattle.osc_word.specs.declared.job_list.WordAt.{WordAt}
use Rattle.osc_word.specs.declared.job_list.Job.{Job}
use Rattle.osc_word.specs.declared.job_list.Job.TheVariants.{PutWord, ZeroWords, ClearBox}
use Rattle.osc_sv39.specs.declared.entries.Mapping.{Mapping}
use Rattle.osc_sv39.specs.Walk.{word_at, put_word}
use Rattle.osc_paging.specs.KeptTables.{KeptTables, mapping_at}
use Rattle.osc_paging.specs.TableChanges.{Changed, map_pages}
use Rattle.osc_paging.specs.Agree.{Agrees}
use Rattle.osc_paging.specs.CopyLaws.{KeepsTaken}
use Rattle.osc_paging.specs.OtherLaws.{IsAnyTable}
use Rattle.osc_space.specs.Free.{unmap_all, reclaim_all, clear_jobs}
use Rattle.osc_parts.specs.Jobs.{AllWriteWhere}
use Rattle.osc_showing.specs.Showing.{is_closed, AllDue, Tidy, Turned, IsPlain, AllRead, Shows, IsQuiet}

-- ---- the changes of a call, one after another
-- the change as its tables, free frames and jobs turn the old tables into these
abbrev pub TurnedBy : KeptTables → Changed → Type 0
TurnedBy old c = Turned old c.tables c.free c.jobs

-- the leaf table over this number has no page
abbrev pub IsEmpty : KeptTables → ℕ → Type 0
IsEmpty t leaf = (i : ℕ) → i < 512 → mapping_at t.pages (leaf * 512 + i) ≡ None

pub record RulesTurn : Type 0 where
  -- from a rest on pages are unmapped, and then leaf tables without a page are given up
  pub leaving : (pages leaves : List ℕ) (t : KeptTables) (free : List Bool) → Tidy t free → t.aside ≡ []
      → ((leaf : ℕ) → list_any (λ x. x == leaf) leaves ≡ true → IsEmpty (unmap_all pages (record { tables = t; free = free; jobs = [] })).tables leaf)
      → TurnedBy t (reclaim_all leaves (unmap_all pages (record { tables = t; free = free; jobs = [] })))
  -- every cache is to be cleared after that
  pub clearing : (harts : ℕ) (old t : KeptTables) (free : List Bool) (js : List Job) → Turned old t free js → Turned old t free (js ++ clear_jobs harts)
  pub due : (harts : ℕ) (js : List Job) → AllDue harts (js ++ clear_jobs harts)
  -- frames are taken, and jobs write in frames that are taken and no tables
  pub elsewhere : (old t : KeptTables) (free after : List Bool) (js more : List Job) → KeepsTaken free after
      → AllWriteWhere (IsPlain t after) more → Turned old t free js → Turned old t after (js ++ more)
  -- and pages are mapped that were not
  pub mapping : (old : KeptTables) (n : ℕ) (mappings : List Mapping) (c : Changed) → AllRead mappings
      → ((q : ℕ) → n ≤ q → (mapping_at c.tables.pages q ≡ None) ⊎ (n + length mappings ≤ q)) → TurnedBy old c → TurnedBy old (map_pages n mappings c)

-- ---- what is shown
-- words that agree with the old tables show what the turn allows
abbrev pub TurnsShow : Type 0
TurnsShow =
    (harts : ℕ) (old t : KeptTables) (before free : List Bool) (js : List Job) (words : List ℕ)
    → Agrees old before words → Turned old t free js → length words ≡ length free * 512 → AllDue harts js → Shows harts old t free js words

-- and so do the words after each job, and while it is done
pub record JobsShow : Type 0 where
  pub same : (harts : ℕ) (old t : KeptTables) (free : List Bool) (js : List Job) (words now : List ℕ) → Shows harts old t free js words
      → length now ≡ length words
      → ((f i : ℕ) → i < 512 → IsAnyTable t f → is_closed js f ≡ false → word_at now f i ≡ word_at words f i) → Shows harts old t free js now
  pub put : (harts : ℕ) (old t : KeptTables) (free : List Bool) (at : WordAt) (value : ℕ) (rest : List Job) (words : List ℕ)
      → Shows harts old t free (PutWord at value ∷ rest) words → Shows harts old t free rest (put_word words at.frame at.index value)
  pub zero : (harts : ℕ) (old t : KeptTables) (free : List Bool) (at : WordAt) (count : ℕ) (rest : List Job) (words now : List ℕ)
      → Shows harts old t free (ZeroWords at count ∷ rest) words → length now ≡ length words
      → ((f i : ℕ) → i < 512 → (at.frame == f) ≡ false → word_at now f i ≡ word_at words f i)
      → ((i : ℕ) → i < 512 → IsAnyTable t at.frame → word_at now at.frame i ≡ 0) → Shows harts old t free rest now
  pub cleared : (harts : ℕ) (old t : KeptTables) (free : List Bool) (hart : ℕ) (rest : List Job) (words : List ℕ)
      → Shows harts old t free (ClearBox hart ∷ rest) words → Shows harts old t free rest words
  pub quiet : (harts : ℕ) (old t : KeptTables) (free : List Bool) (job : Job) (rest : List Job) (words : List ℕ) → IsQuiet t job
      → Shows harts old t free (job ∷ rest) words → Shows harts old t free rest words
