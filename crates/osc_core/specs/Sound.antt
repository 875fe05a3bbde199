-- What is always true of a machine and its harts, which each step needs and keeps.
use Rattle.std.specs.Prelude.{ℕ, ◌≡◌, ◌<◌, ◌≤◌, true, Option, Some, None, Ok, IfSome, is_some, List, [], ◌∷◌, length, slice_get, slice_index_or}
use Rattle.osc_word.specs.declared.job_list.Job.{Job}
use Rattle.osc_paging.specs.Boxes.{BoxState}
use Rattle.osc_guest.specs.declared.places.Place.{Place}
use Rattle.osc_guest.specs.declared.places.Place.TheVariants as at
use Rattle.osc_guest.specs.declared.places.Stage.{Stage}
use Rattle.osc_guest.specs.declared.places.Stage.TheVariants as stage
use Rattle.osc_guest.specs.Fits.{last_version}
use Rattle.osc_guest.specs.Hands as guest
use Rattle.osc_guest.specs.Ranges.{BoxIn, HartIn}
use Rattle.osc_calls.specs.Kernel.{KernelState, Calling, Quiet, Waiting}
use Rattle.osc_calls.specs.Finish.{finish}
use Rattle.osc_settled.specs.KernelFits.{KernelFits}
use Rattle.osc_machine.specs.Parts.{Gate, CallPlace, Outside, TakingBoxes, FirstWord, SecondWord, Working, GivingBoxes, Returning, Return, HartState, State}
use Rattle.osc_machine.specs.Laws.{HandAgrees}
use Rattle.osc_machine.specs.Step.{step}
use Rattle.osc_machine.specs.Run.{run}
use Rattle.osc_machine.specs.Start.{start_of}
use Rattle.osc_image.specs.Image.{Image}
use Rattle.osc_image.specs.Frames.{needed_frames}
use Rattle.osc_image.specs.Form.{image_of}
use Rattle.osc_word.specs.declared.settings.Config.{Config}
use Rattle.osc_word.specs.Limits.{first_fault}
use Rattle.osc_core.specs.Shared.{Shared, state_of}
use Rattle.osc_core.specs.Acting.{IsReady}

-- ---- the kernel
-- it is one of a machine of so many frames and harts, and fits with some words of memory
pub record KernelSound (frames harts : ℕ) (k : KernelState) : Type 0 where
  pub frames_in : k.config.frames ≡ frames
  pub harts_in : k.config.harts ≡ harts
  pub words : List ℕ
  pub fits : KernelFits words k

-- at home no hart is about anything in it
abbrev pub HomeSound : ℕ → ℕ → Option KernelState → Type 0
HomeSound frames harts None = Unit {0}
HomeSound frames harts (Some k) = KernelSound frames harts k × (k.under_way ≡ Quiet)

abbrev pub HandSound : ℕ → ℕ → Option KernelState → Type 0
HandSound frames harts None = Unit {0}
HandSound frames harts (Some k) = KernelSound frames harts k

-- ---- boxes
-- each that is there names only frames of the machine
abbrev pub AllBoxesIn : ℕ → List (Option BoxState) → Type 0
AllBoxesIn frames boxes = (n : ℕ) (held : Option BoxState) → slice_get boxes n ≡ Some held → IfSome held (BoxIn frames)

-- ---- where a hart is in a call, by the kernel and the boxes in its hand
pub record HasJob (k : KernelState) : Type 0 where
  pub job : Job
  pub jobs : List Job
  pub next : k.jobs ≡ job ∷ jobs

abbrev pub WaitsIn : Option KernelState → Type 0
WaitsIn None = Unit {0}
WaitsIn (Some k) = (c : Calling) × (k.under_way ≡ Waiting c)

abbrev pub WorksIn : Option KernelState → Type 0
WorksIn None = Unit {0}
WorksIn (Some k) = HasJob k

abbrev pub GivesIn : Option KernelState → Type 0
GivesIn None = Unit {0}
GivesIn (Some k) = k.jobs ≡ []

-- what it hears and shows once the kernel is given is that of its call
abbrev pub ReturnsIn : Return → Option KernelState → Type 0
ReturnsIn return None = Unit {0}
ReturnsIn return (Some k) = (k.jobs ≡ []) × (return.shows ≡ (finish k).shows)

abbrev pub PlaceSound : CallPlace → List (Option BoxState) → Option KernelState → Type 0
PlaceSound Outside boxes kernel = Unit {0}
PlaceSound (TakingBoxes next) boxes kernel = WaitsIn kernel
PlaceSound (FirstWord first second) boxes kernel = WaitsIn kernel
PlaceSound (SecondWord found second) boxes kernel = WaitsIn kernel
PlaceSound (Working moves read) boxes kernel = WorksIn kernel
PlaceSound (GivingBoxes next) boxes kernel = GivesIn kernel × (is_some (slice_index_or boxes next None) ≡ true)
PlaceSound (Returning return) boxes kernel = ReturnsIn return kernel

-- ---- a hart
-- a gate that it holds has a version that a gate can have
abbrev pub StageBelow : Stage → Type 0
StageBelow stage.Fetch = Unit {0}
StageBelow stage.Load = Unit {0}
StageBelow (stage.TakeGate only) = Unit {0}
StageBelow (stage.GatedLoad version) = version < last_version
StageBelow (stage.GatedStore version found) = version < last_version

abbrev pub VersionBelow : Place → Type 0
VersionBelow (at.Access access frame stage) = StageBelow stage
VersionBelow (at.OpenGate frame version) = version ≤ last_version
VersionBelow _ = Unit {0}

pub record HartSound (frames harts : ℕ) (h : HartState) : Type 0 where
  pub count : h.count ≡ harts
  pub box_held : guest.HandAgrees h.user
  pub range : HartIn frames h.user
  pub version : VersionBelow h.user.place
  pub kernel_held : HandAgrees h
  pub kernel : HandSound frames harts h.kernel
  pub boxes : AllBoxesIn frames h.boxes
  pub place : PlaceSound h.place h.boxes h.kernel

-- ---- the machine
-- of so many frames and harts
pub record SoundIn (frames harts : ℕ) (s : State) : Type 0 where
  pub home : HomeSound frames harts s.kernel
  pub gates : (n : ℕ) (gate : Gate) → slice_get s.gates n ≡ Some gate → gate.version ≤ last_version
  pub boxes : AllBoxesIn frames s.boxes
  pub each : (n : ℕ) (h : HartState) → slice_get s.harts n ≡ Some h → HartSound frames harts h

abbrev pub Sound : State → Type 0
Sound s = SoundIn (length s.gates) (length s.harts) s

-- ---- the laws
-- it gives what the step of a hart needs
abbrev pub SoundReady : Type 0
SoundReady =
    (n : ℕ) (m : Shared) (harts : List HartState) (h : HartState)
    → Sound (state_of m harts) → slice_get harts n ≡ Some h → IsReady m h

-- each step keeps it, and so do runs
abbrev pub StepsKeep : Type 0
StepsKeep = (s : State) (n : ℕ) → Sound s → Sound (step s n).state

abbrev pub RunsKeep : Type 0
RunsKeep = (s : State) (picks : List ℕ) → Sound s → Sound (run s picks).state

-- the machine begins so with the image of each file that is taken and needs no more frames than there are
abbrev pub StartsSound : Type 0
StartsSound =
    (file : List ℕ) (image : Image) (config : Config)
    → first_fault config ≡ None → image_of file ≡ Ok image → needed_frames config.levels image ≤ config.frames
    → Sound (start_of image config)
