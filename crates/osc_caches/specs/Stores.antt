-- A guest's store in a frame that is no table leaves the agreement of words and tables, whatever work is
-- pending, as long as nothing is copied into a table. This project's own.
use Rattle.std.specs.Prelude.{ℕ, ◌+◌, ◌≡◌, ◌<◌, ◌≤◌, Some, None, List, [], ◌∷◌}
use Rattle.osc_word.specs.declared.job_list.Job.{Job}
use Rattle.osc_word.specs.declared.job_list.Job.TheVariants.{CopyWords, CopyPart}
use Rattle.osc_sv39.specs.Walk.{put_word}
use Rattle.osc_paging.specs.KeptTables.{KeptTables}
use Rattle.osc_paging.specs.CopyLaws.{IsNoTable}
use Rattle.osc_calls.specs.Kernel.{KernelState, Process, Committed, Returning, process_at}
use Rattle.osc_settled.specs.UnderWay.{made_by}
use Rattle.osc_settled.specs.KernelFits.{KernelFits}
use Rattle.osc_machine.specs.Parts.{State}
use Rattle.osc_machine.specs.Laws.{HasKernel}
use Rattle.osc_safe.specs.Standing.{Stands}
use Rattle.osc_caches.specs.Words.{WordsAgree}
use Rattle.osc_caches.specs.DataFrames.{IsNobodysTable}
use Rattle.osc_caches.specs.HeapShows.{CallShows}

-- what a job copies goes to no table of these, and crosses no frame
abbrev pub CopiesElsewhere : KeptTables → Job → Type 0
CopiesElsewhere t (CopyWords from to count) = (to.index + count ≤ 512) × IsNoTable t to.frame
CopiesElsewhere t (CopyPart from to bytes) = (to.index < 512) × IsNoTable t to.frame
CopiesElsewhere t job = Unit {0}

abbrev pub AllCopyElsewhere : KeptTables → List Job → Type 0
AllCopyElsewhere t [] = Unit {0}
AllCopyElsewhere t (job ∷ jobs) = CopiesElsewhere t job × AllCopyElsewhere t jobs

-- so it is for the tables of each process that has not ended
abbrev pub CopiesFit : KernelState → Type 0
CopiesFit k = (pid : ℕ) (p : Process) → process_at k pid ≡ Some p → p.status ≡ None → AllCopyElsewhere p.space.tables k.jobs

-- the law
abbrev pub StoresLeave : Type 0
StoresLeave =
    (s : State) (k : KernelState) (frame index value : ℕ) → Stands s → HasKernel s k → CopiesFit k → IsNobodysTable k frame → index < 512
    → WordsAgree s s.words → WordsAgree s (put_word s.words frame index value)

-- in a call on the heap nothing is copied into a table
abbrev pub HeapCallsCopy : Type 0
HeapCallsCopy =
    (words now : List ℕ) (k : KernelState) (done : Committed)
    → KernelFits words k → k.under_way ≡ Returning done → made_by done.effect done.calling.pid ≡ done.calling.pid
    → CallShows k done.calling.pid now → CopiesFit k
