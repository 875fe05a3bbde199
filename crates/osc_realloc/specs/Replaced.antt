-- What stands between the tables before an object is replaced and after: its pages are unmapped, and
-- then objects are let go. This project's own.
use Rattle.std.specs.Prelude.{ℕ, ◌≡◌, Bool, List}
use Rattle.osc_word.specs.declared.job_list.Job.{Job}
use Rattle.osc_paging.specs.KeptTables.{KeptTables}
use Rattle.osc_tables.specs.Calls.{changed}
use Rattle.osc_space.specs.declared.ObjectFact.{ObjectFact}
use Rattle.osc_space.specs.Free.{unmap_all}
use Rattle.osc_shadow.specs.Flushing.{flushed, leaves_over}

-- these pages were unmapped, and the dead leaf tables over the objects that are gone were given up
pub record Replaced (old new : KeptTables) (before after : List Job) (pages : List ℕ) (harts : ℕ) (objects gone : List ObjectFact) : Type 0 where
  pub tables : KeptTables
  pub jobs : List Job
  pub unmaps : (free : List Bool) → changed tables free jobs ≡ unmap_all pages (changed old free before)
  pub flushes : (free : List Bool) → changed new free after ≡ flushed harts (leaves_over tables objects gone) (changed tables free jobs)
