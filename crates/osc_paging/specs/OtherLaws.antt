-- The laws of several processes: a change of one process's tables keeps what agrees with another's.
use Rattle.std.specs.Prelude.{ℕ, ◌≢◌, ◌⊎◌, ◌++◌, None, List}
use Rattle.osc_word.specs.declared.job_list.Job.{Job}
use Rattle.osc_sv39.specs.declared.entries.Mapping.{Mapping}
use Rattle.osc_paging.specs.JobWords.{words_after}
use Rattle.osc_paging.specs.KeptTables.{KeptTables, piece_of}
use Rattle.osc_paging.specs.TableChanges.{Changed, map_page, unmap_page, reclaim, give_leaves}
use Rattle.osc_paging.specs.Agree.{Agrees, AgreesAfter}
use Rattle.osc_paging.specs.CopyLaws.{IsNoTable, IsTable, AllElsewhere}

-- a table, or a leaf aside
abbrev pub IsAnyTable : KeptTables → ℕ → Type 0
IsAnyTable t frame = IsTable t frame ⊎ (piece_of t.aside frame ≢ None)

-- no frame is a table of both
abbrev pub ShareNoTable : KeptTables → KeptTables → Type 0
ShareNoTable other t = (frame : ℕ) → IsAnyTable other frame → IsNoTable t frame

-- the other's words agree once the jobs are done, and no frame is a table of both
pub record OtherAgrees (entries : ℕ → ℕ → ℕ) (words : List ℕ) (other : KeptTables) (c : Changed) : Type 0 where
  pub apart : ShareNoTable other c.tables
  pub agrees : Agrees other c.free (words_after entries c.jobs words)

abbrev pub KeepsOther : (Changed → Changed) → Type 0
KeepsOther change =
    (entries : ℕ → ℕ → ℕ) (words : List ℕ) (other : KeptTables) (c : Changed)
    → OtherAgrees entries words other c → OtherAgrees entries words other (change c)

abbrev pub MappingKeepsOthers : Type 0
MappingKeepsOthers = (number : ℕ) (mapping : Mapping) → KeepsOther (map_page number mapping)

abbrev pub UnmappingKeepsOthers : Type 0
UnmappingKeepsOthers = (number : ℕ) → KeepsOther (unmap_page number)

abbrev pub ReclaimingKeepsOthers : Type 0
ReclaimingKeepsOthers = (leaf : ℕ) → KeepsOther (reclaim leaf)

abbrev pub GivingKeepsOthers : Type 0
GivingKeepsOthers = KeepsOther give_leaves

-- more jobs that write no table keep the agreement after the jobs
abbrev pub WorkElsewhereKeeps : Type 0
WorkElsewhereKeeps =
    (entries : ℕ → ℕ → ℕ) (words : List ℕ) (c : Changed) (more : List Job)
    → AgreesAfter entries words c → AllElsewhere c.tables more
    → AgreesAfter entries words (record c { jobs = c.jobs ++ more })
