-- How far the call is for which a hart has the kernel, and that the kernel fits all along a run. This
-- project's own.
use Rattle.std.specs.Prelude.{ℕ, ◌≡◌, ◌≤◌, Bool, true, false, Some, None, Ok, List, [], ◌++◌, slice_get}
use Rattle.osc_word.specs.declared.settings.Config.{Config}
use Rattle.osc_word.specs.declared.job_list.Job.{Job}
use Rattle.osc_word.specs.Limits.{first_fault}
use Rattle.osc_image.specs.Image.{Image}
use Rattle.osc_image.specs.Frames.{needed_frames}
use Rattle.osc_image.specs.Form.{image_of}
use Rattle.osc_calls.specs.Kernel.{KernelState, Calling, Committed, UnderWay, Quiet, Retrying, Leaving, Waiting, Returning as CallReturning, next_job}
use Rattle.osc_calls.specs.Moves.{Move, moves_of}
use Rattle.osc_calls.specs.JobDone.{entries}
use Rattle.osc_settled.specs.KernelFits.{KernelFits}
use Rattle.osc_machine.specs.Parts.{CallPlace, Outside, TakingBoxes, FirstWord, SecondWord, Working, GivingBoxes, Returning, HartState, State}
use Rattle.osc_machine.specs.Turns.{return_of}
use Rattle.osc_machine.specs.Step.{step}
use Rattle.osc_machine.specs.Run.{run}
use Rattle.osc_machine.specs.Start.{start_of}
use Rattle.osc_safe.specs.Holding.{Holds}

-- ---- the kernel
-- The kernel fits with some words. That these are the machine's words is not said here: until a call's jobs
-- are done its words are on their way, and guests write in theirs meanwhile.
pub record FitsSome (k : KernelState) : Type 0 where
  pub words : List ℕ
  pub fits : KernelFits words k

-- what the kernel is about is for this hart
abbrev pub IsFor : ℕ → UnderWay → Type 0
IsFor n Quiet = ⊥
IsFor n Retrying = Unit {0}
IsFor n (Leaving hart) = hart ≡ n
IsFor n (Waiting c) = c.hart ≡ n
IsFor n (CallReturning done) = done.calling.hart ≡ n

-- ---- a call
abbrev pub Waits : KernelState → Type 0
Waits k = (c : Calling) × (k.under_way ≡ Waiting c)

abbrev pub IsCommitted : KernelState → Type 0
IsCommitted k = (done : Committed) × (k.under_way ≡ CallReturning done)

-- nothing is left to do of it, whether it was committed, is to be asked again, or leaves
abbrev pub is_decided : UnderWay → Bool
is_decided Quiet = false
is_decided Retrying = true
is_decided (Leaving hart) = true
is_decided (Waiting c) = false
is_decided (CallReturning done) = true

-- these moves are what is left of the kernel's next job
pub record WorksOn (k : KernelState) (moves : List Move) : Type 0 where
  pub job : Job
  pub next : next_job k ≡ Some job
  pub before : List Move
  pub rest : moves_of (entries k) job ≡ before ++ moves

-- how far the call is, by the place of the hart that has the kernel: it waits while boxes are taken and
-- header words are loaded; it is committed while its jobs are done and boxes are given, and these are given
-- after the jobs; and at the end the hart hears what came of it
abbrev pub StandsAt : CallPlace → KernelState → Type 0
StandsAt Outside k = ⊥
StandsAt (TakingBoxes next) k = Waits k
StandsAt (FirstWord first second) k = Waits k
StandsAt (SecondWord found second) k = Waits k
StandsAt (Working moves read) k = IsCommitted k × WorksOn k moves
StandsAt (GivingBoxes next) k = IsCommitted k × (k.jobs ≡ [])
StandsAt (Returning return) k = (is_decided k.under_way ≡ true) × (k.jobs ≡ []) × (return ≡ return_of return.full k)

-- ---- where the kernel is
pub record AtHome (k : KernelState) : Type 0 where
  pub fits : FitsSome k
  pub quiet : k.under_way ≡ Quiet

-- in the hand of hart n, which is at this place
pub record InHand (n : ℕ) (place : CallPlace) (k : KernelState) : Type 0 where
  pub fits : FitsSome k
  pub caller : IsFor n k.under_way
  pub stands : StandsAt place k

abbrev pub HandStands : ℕ → HartState → Type 0
HandStands n h = (k : KernelState) → h.kernel ≡ Some k → InHand n h.place k

pub record Stands (s : State) : Type 0 where
  pub home : (k : KernelState) → s.kernel ≡ Some k → AtHome k
  pub hand : (n : ℕ) (h : HartState) → slice_get s.harts n ≡ Some h → HandStands n h

-- ---- the laws
abbrev pub StepsStand : Type 0
StepsStand = (s : State) (n : ℕ) → Holds s → Stands s → Stands (step s n).state

-- in each run of a file's image that the frames hold, with a configuration in range
abbrev pub RunsStand : Type 0
RunsStand =
    (file : List ℕ) (image : Image) (config : Config) (picks : List ℕ)
    → first_fault config ≡ None → image_of file ≡ Ok image → needed_frames config.levels image ≤ config.frames
    → Stands (run (start_of image config) picks).state
