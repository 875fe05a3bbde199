-- A spawn.
use Rattle.std.proofs.Common.{refl, sym, subst}
use Rattle.osc_kernel.specs.declared.state.State.{State}
use Rattle.osc_under_way.specs.Effects.{effect_of}
use Rattle.osc_kernel.specs.Sound.{HasRooms, ends_one}
use Rattle.osc_kernel.proofs.Rooms.{rooms_jobs}
use Rattle.osc_kernel.proofs.spawning.plan_spawn.Goals as goal

pub returns-in-Some-spawn-clause-rooms : goal.returns-in-Some-spawn-clause-rooms
returns-in-Some-spawn-clause-rooms c =
    subst (λ (x : State). HasRooms (ends_one (effect_of c.begin_thread.result.effect)) x) (sym c.begin_thread.ensures.state) (rooms_jobs c.args.state.now _ _ _ _ refl c.requires.can.rooms)
