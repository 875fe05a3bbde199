use Rattle.std.proofs.Common.{◌≡◌, ◌++◌, map, take, drop}
use Rattle.osc_world.specs.Deeds.{stopped}
use Rattle.osc_object.proofs.changes.stop.Given as goal

abbrev pub invariant-loop-hart : goal.invariant-loop-hart
invariant-loop-hart l = l.harts ≡ map (stopped l.pid) (take l.hart-index l.fn.harts) ++ drop l.hart-index l.fn.harts
