use Rattle.std.proofs.Common.{◌≡◌, ◌<◌, ℕ, Some, slice_get}
use Rattle.std.specs.Vec.{vec_len}
use Rattle.osc_world.specs.World.{Page}
use Rattle.osc_memory.specs.Slots.{slot, StandBelow}
use Rattle.osc_memory.proofs.pages.places_of.Given as goal

abbrev pub invariant-loop-place : goal.invariant-loop-place
invariant-loop-place l =
    ((i : ℕ) (page : Page) → slice_get l.pages i ≡ Some page → slot page.number < vec_len l.places) × StandBelow l.place l.places.items l.pages
