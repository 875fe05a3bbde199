-- What the kernel knows of harts, and the spawned threads. This project's own.
use Rattle.std.specs.Prelude.{ℕ, ◌≡◌, ◌≢◌, ◌<◌, ◌==◌, ◌&&◌, Bool, true, false, Option, Some, None, is_none, List, length, slice_get}
use Rattle.osc_calls.specs.declared.Thread.{Thread}
use Rattle.osc_calls.specs.declared.HartRecord.{HartRecord}
use Rattle.osc_calls.specs.declared.HartRecord.TheVariants.{Runs, Stopped}
use Rattle.osc_calls.specs.Threads.{thread_at}
use Rattle.osc_calls.specs.Kernel.{Process, UnderWay, Returning, Effect, Ends}

-- there is such a process, and it has not ended
abbrev pub is_living : Option Process → Bool
is_living None = false
is_living (Some p) = is_none p.status

-- a spawned thread of this process that is not done
abbrev pub goes_on : ℕ → Option Thread → Bool
goes_on pid None = false
goes_on pid (Some t) = (t.pid == pid) && is_none t.value

-- a process's first thread has no number
abbrev pub is_at_work : List Thread → ℕ → Option ℕ → Bool
is_at_work threads pid None = true
is_at_work threads pid (Some number) = goes_on pid (thread_at threads number)

-- the process that the call under way ends
abbrev pub ends_by : ℕ → Effect → Option ℕ
ends_by pid (Ends status) = Some pid
ends_by pid _ = None

abbrev pub ending : UnderWay → Option ℕ
ending (Returning done) = ends_by done.calling.pid done.effect
ending _ = None

-- Each hart that runs a thread runs one of a process that has not ended and does not end, which is not
-- done, and no other hart runs that thread; a stopped hart is one of a process that has ended or ends.
pub record RecordsFit (processes : List Process) (threads : List Thread) (records : List HartRecord) (ends : Option ℕ) : Type 0 where
  pub lives : (hart pid : ℕ) (thread : Option ℕ) → slice_get records hart ≡ Some (Runs pid thread)
      → is_living (slice_get processes pid) ≡ true
  pub goes_on : (hart pid : ℕ) (thread : Option ℕ) → slice_get records hart ≡ Some (Runs pid thread)
      → ends ≢ Some pid
  pub works : (hart pid : ℕ) (thread : Option ℕ) → slice_get records hart ≡ Some (Runs pid thread)
      → is_at_work threads pid thread ≡ true
  pub alone : (a b pid : ℕ) (thread : Option ℕ) → slice_get records a ≡ Some (Runs pid thread) → slice_get records b ≡ Some (Runs pid thread)
      → a ≡ b
  pub known : (hart pid : ℕ) → slice_get records hart ≡ Some (Stopped pid) → pid < length processes
  pub stopped : (hart pid : ℕ) → slice_get records hart ≡ Some (Stopped pid) → is_living (slice_get processes pid) ≡ true
      → ends ≡ Some pid
  pub spawned : (place : ℕ) (t : Thread) → slice_get threads place ≡ Some t → t.pid < length processes

-- some hart runs a thread of the process
pub record IsManned (records : List HartRecord) (pid : ℕ) : Type 0 where
  pub hart : ℕ
  pub thread : Option ℕ
  pub at : slice_get records hart ≡ Some (Runs pid thread)

-- so it is for each process that has not ended and does not end
abbrev pub AllManned : List Process → List HartRecord → Option ℕ → Type 0
AllManned processes records ends =
    (pid : ℕ) → is_living (slice_get processes pid) ≡ true → ends ≢ Some pid → IsManned records pid
