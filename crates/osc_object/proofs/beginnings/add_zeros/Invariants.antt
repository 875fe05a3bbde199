use Rattle.std.proofs.Common.{◌≡◌, ◌++◌, replicate}
use Rattle.osc_world.specs.Calls.{zeros}
use Rattle.osc_object.proofs.beginnings.add_zeros.Given as goal

abbrev pub invariant-loop : goal.invariant-loop
invariant-loop l = l.rows.items ≡ l.fn.rows.items ++ replicate l.counter (zeros l.size)
