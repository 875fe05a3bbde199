-- Where no pending job writes a process's tables, their words are the kept ones already: so it is for every
-- process while no job is pending, and for each process but the one of the call while some are. This project's
-- own.
use Rattle.std.specs.Prelude.{ℕ, ◌≡◌, ◌≢◌, ◌<◌, Some, None, List}
use Rattle.osc_sv39.specs.Walk.{word_at}
use Rattle.osc_paging.specs.KeptTables.{KeptTables, kept_word}
use Rattle.osc_paging.specs.CopyLaws.{AllElsewhere}
use Rattle.osc_paging.specs.OtherLaws.{IsAnyTable}
use Rattle.osc_calls.specs.Kernel.{KernelState, Process, Committed, Returning, process_at}
use Rattle.osc_settled.specs.UnderWay.{made_by}
use Rattle.osc_settled.specs.KernelFits.{KernelFits}
use Rattle.osc_machine.specs.Parts.{State}
use Rattle.osc_machine.specs.Laws.{HasKernel}
use Rattle.osc_safe.specs.Standing.{Stands}
use Rattle.osc_caches.specs.Words.{WordsAgree}

-- each word of each table is the kept one
abbrev pub ShowsKept : KeptTables → List ℕ → Type 0
ShowsKept t words = (f i : ℕ) → i < 512 → IsAnyTable t f → word_at words f i ≡ kept_word t f i

pub record KeptShown : Type 0 where
  pub elsewhere : (s : State) (k : KernelState) (pid : ℕ) (p : Process) → Stands s → HasKernel s k → WordsAgree s s.words
      → process_at k pid ≡ Some p → p.status ≡ None → AllElsewhere p.space.tables k.jobs → ShowsKept p.space.tables s.words
  -- the jobs of a call write no table of another process
  pub others : (words : List ℕ) (k : KernelState) (done : Committed) (pid : ℕ) (p made : Process) → KernelFits words k → k.under_way ≡ Returning done
      → pid ≢ made_by done.effect done.calling.pid → process_at k pid ≡ Some p → p.status ≡ None
      → process_at k (made_by done.effect done.calling.pid) ≡ Some made → made.status ≡ None → AllElsewhere p.space.tables k.jobs
