-- What is always true of where a hart is in a call, and of the kernel and the boxes in its hand.
use Rattle.std.specs.Prelude.{ℕ, ◌≡◌, ◌≢◌, ◌<◌, Option, Some, None, []}
use Rattle.osc_calls.specs.Kernel.{KernelState, Process, Calling, Committed, Quiet, Waiting, Returning, process_at, next_job}
use Rattle.osc_word.specs.declared.calls.Request.{Request}
use Rattle.osc_guest.specs.declared.places.Ask.TheVariants as guest
use Rattle.osc_guest.specs.Asks.{ask}
use Rattle.osc_guest.specs.User.{UserHart}
use Rattle.osc_calls.specs.declared.Begun.{Begun}
use Rattle.osc_calls.specs.declared.Begun.TheVariants as begun
use Rattle.osc_calls.specs.JobDone.{entries}
use Rattle.osc_calls.specs.Finish.{finish}
use Rattle.osc_machine.specs.Parts.{CallPlace}
use Rattle.osc_machine.specs.Parts as turn
use Rattle.osc_machine.specs.Views.{label_in}
use Rattle.osc_moves.specs.Standing.{Standing, IsEntry}
use Rattle.osc_turns.specs.declared.place.Place.{Place}
use Rattle.osc_turns.specs.declared.place.Place.TheVariants as at
use Rattle.osc_kernel.specs.Seen.{SeenKernel}

-- nobody has the kernel, and no job is left
pub record IsFree (harts : ℕ) (k : KernelState) : Type 0 where
  pub quiet : k.under_way ≡ Quiet
  pub jobs : k.jobs ≡ []
  pub counted : k.config.harts ≡ harts

-- a call waits for its boxes or its words
pub record Waits (k : KernelState) : Type 0 where
  pub calling : Calling
  pub process : Process
  pub waits : k.under_way ≡ Waiting calling
  pub there : process_at k calling.pid ≡ Some process

-- a call is committed
pub record Commits (k : KernelState) : Type 0 where
  pub done : Committed
  pub commits : k.under_way ≡ Returning done

abbrev pub WaitsIn : Option SeenKernel → Type 0
WaitsIn None = ⊥
WaitsIn (Some k) = Waits k.kernel

abbrev pub WorksIn : Standing → Option SeenKernel → Type 0
WorksIn p None = ⊥
WorksIn p (Some k) = (next_job k.kernel ≡ Some p.job) × Commits k.kernel

-- the word is the entry that the next move stores, where it stores one
abbrev pub EntryFor : Standing → Option SeenKernel → ℕ → Type 0
EntryFor p None word = Unit {0}
EntryFor p (Some k) word = IsEntry (entries k.kernel) p word

abbrev pub GivesIn : Option SeenKernel → Type 0
GivesIn None = ⊥
GivesIn (Some k) = (k.kernel.jobs ≡ []) × Commits k.kernel

abbrev pub CommitsKernel : Option KernelState → Type 0
CommitsKernel None = ⊥
CommitsKernel (Some k) = Commits k

abbrev pub ReturnsKernel : Option KernelState → Type 0
ReturnsKernel None = ⊥
ReturnsKernel (Some k) = (k.jobs ≡ []) × (k.under_way ≢ Quiet)

abbrev pub ReturnsIn : Option SeenKernel → Type 0
ReturnsIn None = ⊥
ReturnsIn (Some k) = (k.kernel.jobs ≡ []) × (k.kernel.under_way ≢ Quiet)

abbrev pub PlaceFits : ℕ → Place → Option SeenKernel → Type 0
PlaceFits harts at.Outside k = k ≡ None
PlaceFits harts (at.TakingBoxes next) k = (next < harts) × WaitsIn k
PlaceFits harts (at.FirstWord first second) k = WaitsIn k
PlaceFits harts (at.SecondWord found second) k = WaitsIn k
PlaceFits harts (at.Working p) k = WorksIn p k
PlaceFits harts (at.GivingBoxes next) k = (next < harts) × GivesIn k
PlaceFits harts (at.Returning full) k = ReturnsIn k
PlaceFits harts (at.Returned full resume label before) k =
    (k ≡ None) × (resume ≡ (finish before.value.kernel).resume) × (label ≡ label_in (finish before.value.kernel).shows)

-- what holds of a kernel that answered a begin so
abbrev pub BegunFits : Begun → KernelState → Type 0
BegunFits begun.Again k = (k.jobs ≡ []) × (k.under_way ≢ Quiet)
BegunFits begun.JournalFull k = (k.jobs ≡ []) × (k.under_way ≢ Quiet)
BegunFits begun.Gone k = (k.jobs ≡ []) × (k.under_way ≢ Quiet)
BegunFits begun.Boxes k = Waits k
BegunFits (begun.Header first second) k = Waits k
BegunFits begun.Planned k = Commits k

-- ---- the guest part
-- it asks for the kernel, and will hear what came of its request
pub record Calls (user : UserHart) : Type 0 where
  pub request : Request
  pub asks : ask user ≡ guest.Kernel request

-- as long as the hart is in a call
abbrev pub CallsIn : Place → UserHart → Type 0
CallsIn at.Outside user = Unit {0}
CallsIn (at.TakingBoxes next) user = Calls user
CallsIn (at.FirstWord first second) user = Calls user
CallsIn (at.SecondWord found second) user = Calls user
CallsIn (at.Working p) user = Calls user
CallsIn (at.GivingBoxes next) user = Calls user
CallsIn (at.Returning full) user = Calls user
CallsIn (at.Returned full resume label before) user = Calls user

-- the hart does a job
abbrev pub IsWorking : CallPlace → Type 0
IsWorking (turn.Working moves read) = Unit {0}
IsWorking _ = ⊥

-- the kernel in hand is that of a machine with so many harts
abbrev pub CountsIn : ℕ → Option SeenKernel → Type 0
CountsIn harts None = Unit {0}
CountsIn harts (Some k) = k.kernel.config.harts ≡ harts
