-- What the plan of a call asks for, and what it makes. This project's own.
use Rattle.std.specs.Prelude.{ℕ, ◌≡◌, ◌≤◌, Bool, true, false, Option, Some, None, List, [], length}
use Rattle.osc_space.specs.Space.{Keeps}
use Rattle.osc_calls.specs.declared.Thread.{Thread}
use Rattle.osc_calls.specs.Kernel.{Calling}
use Rattle.osc_calls.specs.Threads.{thread_done}
use Rattle.osc_calls.specs.Planned.{Planned}
use Rattle.osc_under_way.specs.Effects.{effect_of}
use Rattle.osc_ready.specs.Found.{CallerFits}
use Rattle.osc_kernel.specs.declared.state.State.{State}
use Rattle.osc_kernel.specs.declared.state.UnderWay.{UnderWay as Doing}
use Rattle.osc_kernel.specs.declared.state.UnderWay.TheVariants.{Waiting}
use Rattle.osc_kernel.specs.declared.commit.Made.{Made}
use Rattle.osc_kernel.specs.Inside.{kernel_of}
use Rattle.osc_kernel.specs.Sound.{HasRooms, ends_one}

-- a call can be planned: its process fits, no job is left, and nothing is to be given back yet
pub record CanPlan (s : State) (c : Calling) : Type 0 where
  pub caller : CallerFits (kernel_of s) c
  pub rooms : HasRooms 0 s
  pub keeps : s.closing ≡ Keeps
  pub pushed : s.jobs.pushed ≡ []
  pub done : s.done ≡ 0
  pub written : length s.output.items ≤ 4194304
  pub frames : length s.frames ≡ s.config.frames
  pub waits : s.under_way ≡ Waiting c

-- what the fields and the answer stand for before the call is entered
abbrev pub planned_by : State → Made → Planned
planned_by s made = record { kernel = kernel_of s; answer = made.answer; effect = effect_of made.effect; closing = s.closing }

-- the rooms once a plan has answered
abbrev pub RoomsAfter : State → Made → Type 0
RoomsAfter s made = HasRooms (ends_one (effect_of made.effect)) s

-- a spawned thread leaves its value; a process's first has no number
abbrev pub threads_left : Option ℕ → ℕ → List Thread → List Thread
threads_left None value threads = threads
threads_left (Some number) value threads = thread_done number value threads

-- no plan touches how many jobs are done, or what was let go
pub record IsBeside (s t : State) : Type 0 where
  pub done : t.done ≡ s.done
  pub freed : t.freed ≡ s.freed

-- a call waits to be planned
abbrev pub is_waiting : Doing → Bool
is_waiting (Waiting calling) = true
is_waiting _ = false
