-- What a return finds and shows. This project's own.
use Rattle.std.specs.Prelude.{ℕ, ◌-◌, ◌≡◌, ◌<◌, Bool, true, false, List, [], length, Option, Some, None}
use Rattle.osc_word.specs.declared.calls.Answer.{Answer}
use Rattle.osc_word.specs.declared.steps.Label.{Label}
use Rattle.osc_space.specs.Space.{Closing}
use Rattle.osc_calls.specs.Kernel.{KernelState, Process, Calling, Committed, UnderWay, Returning, process_at}
use Rattle.osc_calls.specs.Labels.{answer_shows}
use Rattle.osc_under_way.specs.declared.effects.Effect.{Effect}
use Rattle.osc_under_way.specs.Effects.{effect_of}
use Rattle.osc_process.specs.Returns.{CanEnd, CanReturn}
use Rattle.osc_kernel.specs.declared.state.State.{State}
use Rattle.osc_kernel.specs.declared.state.UnderWay.{UnderWay as Doing}
use Rattle.osc_kernel.specs.declared.state.UnderWay.TheVariants as doing
use Rattle.osc_kernel.specs.Inside.{kernel_of}
use Rattle.osc_kernel.specs.Sound.{HasRooms, ends_one}

-- what a return asks of the fields: the process of the call can return it, or end
pub record Settles (s : State) (pid : ℕ) (effect : Effect) : Type 0 where
  pub returns : ends_one (effect_of effect) ≡ 0 → (p : Process) → process_at (kernel_of s) pid ≡ Some p → CanReturn s.closing p.space s.frames
  pub ends : ends_one (effect_of effect) ≡ 1 → (p : Process) → process_at (kernel_of s) pid ≡ Some p → CanEnd s.regions p.space s.frames × (p.status ≡ None)
  pub within : pid < length s.processes.items
  pub rooms : HasRooms (ends_one (effect_of effect)) s

abbrev pub done_of : Calling → Answer → Effect → Closing → Committed
done_of calling answer effect closing = record { calling = calling; answer = answer; effect = effect_of effect; closing = closing }

-- what a return shows beside the objects that it lets go
abbrev pub shows_in : Committed → KernelState → Option Process → List Label
shows_in done k None = []
shows_in done k (Some p) = answer_shows done.calling.pid (length k.journal - 1) p.space.objects done.answer

abbrev pub shows_by : KernelState → UnderWay → List Label
shows_by k (Returning done) = shows_in done k (process_at k done.calling.pid)
shows_by k _ = []

abbrev pub label_shows : KernelState → List Label
label_shows k = shows_by k k.under_way

-- a hart that has the kernel asks again
abbrev pub asks_again : Doing → Bool
asks_again doing.Quiet = true
asks_again doing.Retrying = true
asks_again (doing.Leaving hart) = false
asks_again (doing.Waiting calling) = true
asks_again (doing.Returning calling answer effect) = false
