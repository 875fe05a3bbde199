use Rattle.std.proofs.Common.{◌≡◌, map, take}
use Rattle.osc_world.specs.declared.Byte.TheVariants.{Number}
use Rattle.osc_values.proofs.row.as_bytes.Given as goal

abbrev pub invariant-loop-number : goal.invariant-loop-number
invariant-loop-number l = l.bytes.items ≡ map Number (take l.number-index l.numbers)
