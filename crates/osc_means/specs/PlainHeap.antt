-- The plain heap law: as long as the object run meets no error and the plain run is not stuck, both give the
-- same output and end with the same status. An event that does not fit is an error of the object run. This
-- project's own.
use Rattle.std.specs.Prelude.{ℕ, ◌≡◌, ◌≤◌, List, Some, None}
use Rattle.osc_word.specs.declared.steps.Event.{Event}
use Rattle.osc_word.specs.declared.settings.Config.{Config}
use Rattle.osc_image.specs.Image.{Image}
use Rattle.osc_world.specs.States.{status_of}
use Rattle.osc_world.specs.Offers.{Goes}
use Rattle.osc_world.specs.World.{World}
use Rattle.osc_world.specs.Events.{meaning}
use Rattle.osc_world.specs.Run.{object_run_of}
use Rattle.osc_world.specs.Knows.{Knows}
use Rattle.osc_world.specs.PlainWorld.{Plain}
use Rattle.osc_world.specs.PlainRun.{plain_meaning, plain_run_of}
use Rattle.osc_means.specs.Shown.{Shows, Kept, places}

-- an event that goes on in both runs keeps what is shown; the addresses are those that are given in the end
abbrev pub EventsAreShown : Type 0
EventsAreShown =
    (frames : ℕ) (place : ℕ → ℕ → ℕ) (world now : World) (plain then : Plain) (event : Event) → frames ≤ 4096 → Knows world
    → Shows frames place world plain → meaning world event ≡ Goes now → plain_meaning plain event ≡ Some then → Kept place then
    → Shows frames place now then

-- the plain state that a run reaches shows the world that the object run reaches
abbrev pub RunsAreShown : Type 0
RunsAreShown =
    (image : Image) (config : Config) (events : List Event) (plain : Plain) → config.frames ≤ 4096
    → (object_run_of image config events).error ≡ None → plain_run_of image config events ≡ Some plain
    → Shows config.frames (places plain) (object_run_of image config events).world plain

-- the bytes of output, and how process 0 ended
pub record Agrees (world : World) (plain : Plain) : Type 0 where
  pub output : plain.output ≡ world.output
  pub status : status_of plain ≡ status_of world

abbrev pub PlainHeapAgrees : Type 0
PlainHeapAgrees =
    (image : Image) (config : Config) (events : List Event) (plain : Plain) → config.frames ≤ 4096
    → (object_run_of image config events).error ≡ None → plain_run_of image config events ≡ Some plain
    → Agrees (object_run_of image config events).world plain
