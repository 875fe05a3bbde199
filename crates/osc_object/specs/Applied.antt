-- That a state is the one after a deed.
use Rattle.std.specs.Prelude.{◌≡◌, ℕ, slice_get, Some}
use Rattle.osc_world.specs.declared.Value.{Value}
use Rattle.osc_world.specs.States.{Hart, Process}
use Rattle.osc_world.specs.World.{World, WorldDeed, Memory}
use Rattle.osc_world.specs.Deeds.{state_after}
use Rattle.osc_world.specs.Calls.{world_kind}
use Rattle.osc_object.specs.Turns.{turn_from}
use Rattle.osc_object.specs.Decisions.{deed_shown}
use Rattle.osc_object.specs.declared.decisions.Deed.{Deed}

-- `now` is the state after a deed of the hart of this number, which runs a thread of process `pid`
abbrev pub IsAfter : World → ℕ → ℕ → WorldDeed → World → Type 0
IsAfter state number pid deed now =
    (hart : Hart Value) → (process : Process Memory) → slice_get state.harts number ≡ Some hart → slice_get state.processes pid ≡ Some process
    → now ≡ state_after world_kind (turn_from state number hart pid process) deed

-- the same of a deed as the code has it, whose answer may hang on its process
abbrev pub IsApplied : World → ℕ → ℕ → Deed → World → Type 0
IsApplied state number pid deed now =
    (hart : Hart Value) → (process : Process Memory) → slice_get state.harts number ≡ Some hart → slice_get state.processes pid ≡ Some process
    → now ≡ state_after world_kind (turn_from state number hart pid process) (deed_shown (turn_from state number hart pid process) deed)
