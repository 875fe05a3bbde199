-- What the words show of the tables of a process in a call on the heap while a job is under way, move by move.
-- This project's own.
use Rattle.std.specs.Prelude.{ℕ, ◌≡◌, ◌<◌, Option, Some, List, drop}
use Rattle.osc_sv39.specs.Walk.{put_word}
use Rattle.osc_paging.specs.Boxes.{BoxState}
use Rattle.osc_paging.specs.CopyLaws.{IsNoTable}
use Rattle.osc_calls.specs.Kernel.{KernelState, Process, process_at}
use Rattle.osc_calls.specs.JobDone.{job_done}
use Rattle.osc_calls.specs.Moves.{Move}
use Rattle.osc_machine.specs.Parts.{CallPlace, Working}
use Rattle.osc_machine.specs.Turns.{place_on, move_ask, StillAt, AllDone, moves_left}
use Rattle.osc_safe.specs.Standing.{WorksOn, StandsAt}
use Rattle.osc_caches.specs.Words.{words_then, Does}
use Rattle.osc_caches.specs.HeapShows.{CallShows}

-- the kernel without its next job
abbrev pub without_job : KernelState → KernelState
without_job k = record k { jobs = drop 1 k.jobs }

-- the words show what they may now, and will once the moves that are left are done
pub record WorkShows (k : KernelState) (pid : ℕ) (moves : List Move) (read : Option ℕ) (words : List ℕ) : Type 0 where
  pub now : CallShows k pid words
  pub then : CallShows (without_job k) pid (words_then moves read words)

abbrev pub ShowsAt : CallPlace → KernelState → ℕ → List ℕ → Type 0
ShowsAt (Working moves read) k pid words = WorkShows k pid moves read words
ShowsAt place k pid words = CallShows k pid words

-- the laws: where the call goes on; an action of the job; the job's last one; and a store elsewhere
pub record WorkKeepsShowing : Type 0 where
  pub on : (k : KernelState) (pid : ℕ) (words : List ℕ) (boxes : List (Option BoxState)) → CallShows k pid words → ShowsAt (place_on k boxes) k pid words
  pub moved : (k : KernelState) (pid word : ℕ) (moves left : List Move) (read then : Option ℕ) (words now : List ℕ) → WorksOn k moves → WorkShows k pid moves read words
      → Does (move_ask moves read) word words now → moves_left moves read word ≡ StillAt left then → WorkShows k pid left then now
  pub ended : (k : KernelState) (pid word : ℕ) (moves : List Move) (read : Option ℕ) (words now : List ℕ) → WorkShows k pid moves read words
      → Does (move_ask moves read) word words now → moves_left moves read word ≡ AllDone → CallShows (job_done word k).kernel pid now
  pub stored : (k : KernelState) (pid frame index value : ℕ) (place : CallPlace) (words : List ℕ) → StandsAt place k → ShowsAt place k pid words
      → ((p : Process) → process_at k pid ≡ Some p → IsNoTable p.space.tables frame) → index < 512 → ShowsAt place k pid (put_word words frame index value)
