use Rattle.std.proofs.Common.{◌≡◌, ◌++◌, map, take, drop}
use Rattle.osc_world.specs.Accesses.{disturbed}
use Rattle.osc_object.proofs.changes.disturb.Given as goal

abbrev pub invariant-loop-hart : goal.invariant-loop-hart
invariant-loop-hart l = l.harts ≡ map (disturbed l.pid l.at) (take l.hart-index l.fn.harts) ++ drop l.hart-index l.fn.harts
