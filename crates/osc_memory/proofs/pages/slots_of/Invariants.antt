use Rattle.std.proofs.Common.{◌≡◌, ◌<◌, ℕ, Some, slice_get}
use Rattle.osc_world.specs.World.{Page}
use Rattle.osc_memory.specs.Slots.{slot}
use Rattle.osc_memory.proofs.pages.slots_of.Given as goal

abbrev pub invariant-loop-page : goal.invariant-loop-page
invariant-loop-page l = (i : ℕ) (page : Page) → i < l.page-index → slice_get l.pages i ≡ Some page → slot page.number < l.count
