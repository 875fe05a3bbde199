-- What holds of the call that the hart that has the kernel is about. This project's own.
use Rattle.std.specs.Prelude.{ℕ, ◌-◌, ◌≡◌, ◌≢◌, ◌<◌, ◌==◌, ◌⊎◌, Bool, true, false, if◌then◌else◌, Option, Some, None, [], length, slice_get}
use Rattle.osc_word.specs.declared.calls.Answer.{Answer}
use Rattle.osc_word.specs.declared.calls.Answer.TheVariants.{Ended}
use Rattle.osc_word.specs.declared.orders.Start.{Start}
use Rattle.osc_space.specs.Space.{Closing, Keeps}
use Rattle.osc_space.specs.Share.{Regions, holders, shared_frames}
use Rattle.osc_parts.specs.Frames.{among, frames_held}
use Rattle.osc_parts.specs.Jobs.{AllWriteWhere}
use Rattle.osc_calls.specs.declared.HartRecord.{HartRecord}
use Rattle.osc_calls.specs.declared.HartRecord.TheVariants.{Idle, Runs}
use Rattle.osc_calls.specs.Kernel.{KernelState, Process, Calling, Committed, UnderWay, Quiet, Retrying, Leaving, Waiting, Returning, Effect, Nothing, Clears, Starts, Ends, process_at, root, runs}
use Rattle.osc_calls.specs.Plan.{journal_entry}
use Rattle.osc_settled.specs.Records.{is_living}

-- ---- what the call under way will give back of a process
abbrev pub closing_for : ℕ → Committed → Closing
closing_for pid done = if done.calling.pid == pid then done.closing else Keeps

abbrev pub closing_of : UnderWay → ℕ → Closing
closing_of (Returning done) pid = closing_for pid done
closing_of _ pid = Keeps

-- ---- where the pending jobs write
-- no other process uses the frame
abbrev pub HasAlone : Regions → Option Process → ℕ → Type 0
HasAlone regions None frame = ⊥
HasAlone regions (Some p) frame =
    (0 < among frame (frames_held p.space)) ⊎ ((0 < among frame (shared_frames p.space.tables)) × (holders regions frame ≡ 1))

-- the process that a call's jobs make: the child of a fork, and else the caller
abbrev pub made_by : Effect → ℕ → ℕ
made_by (Starts hart start) pid = start.pid
made_by _ pid = pid

-- ---- the harts
abbrev pub is_end : Answer → Bool
is_end Ended = true
is_end _ = false

-- the record of the hart that called: idle where its thread is done
abbrev pub record_by : Bool → Calling → HartRecord
record_by true c = Idle
record_by false c = Runs c.pid c.thread

abbrev pub runs_at : ℕ → Option HartRecord → Bool
runs_at pid None = false
runs_at pid (Some kept) = runs pid kept

-- a thread begins on another hart, in the process and with the topmost table that its order names
pub record StartFits (k : KernelState) (caller hart : ℕ) (start : Start) : Type 0 where
  pub other : hart ≢ caller
  pub runs : runs_at start.pid (slice_get k.records hart) ≡ true
  pub root : start.root ≡ root k start.pid
  pub levels : start.levels ≡ k.config.levels
  pub frames : start.frames ≡ k.config.frames

-- a call that starts a thread or ends a process gives nothing back but at its end
abbrev pub EffectFits : KernelState → Calling → Closing → Effect → Type 0
EffectFits k c closing Nothing = closing ≡ Keeps
EffectFits k c closing Clears = Unit {0}
EffectFits k c closing (Starts hart start) = (closing ≡ Keeps) × StartFits k c.hart hart start
EffectFits k c closing (Ends status) = closing ≡ Keeps

-- ---- the call
-- a call that will commit: the journal has room for it
pub record WaitingFits (k : KernelState) (c : Calling) : Type 0 where
  pub jobs : k.jobs ≡ []
  pub room : length k.journal < k.config.journal
  pub caller : slice_get k.records c.hart ≡ Some (Runs c.pid c.thread)

-- a call that is committed: it is the journal's last, its process has not ended, and its jobs write in
-- frames that no other process uses
pub record ReturningFits (k : KernelState) (done : Committed) : Type 0 where
  pub last : slice_get k.journal (length k.journal - 1) ≡ Some (journal_entry done.calling done.answer)
  pub lives : is_living (process_at k done.calling.pid) ≡ true
  pub caller : slice_get k.records done.calling.hart ≡ Some (record_by (is_end done.answer) done.calling)
  pub jobs : AllWriteWhere (HasAlone k.regions (process_at k (made_by done.effect done.calling.pid))) k.jobs
  pub effect : EffectFits k done.calling done.closing done.effect

-- until a call is committed no job is pending
abbrev pub UnderWayFits : KernelState → UnderWay → Type 0
UnderWayFits k Quiet = k.jobs ≡ []
UnderWayFits k Retrying = k.jobs ≡ []
UnderWayFits k (Leaving hart) = k.jobs ≡ []
UnderWayFits k (Waiting c) = WaitingFits k c
UnderWayFits k (Returning done) = ReturningFits k done
