use Rattle.std.proofs.Common.{◌≡◌, drop}
use Rattle.osc_world.specs.Values.{are_parts}
use Rattle.osc_values.proofs.gather.are_parts.Given as goal

abbrev pub invariant-loop-index : goal.invariant-loop-index
invariant-loop-index l = are_parts l.object l.offset l.index (drop l.index l.bytes) ≡ are_parts l.object l.offset 0 l.bytes
