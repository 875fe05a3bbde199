-- The laws are the lemmas on a list of which an element was changed.
use Rattle.std.proofs.Common.{arith}
use Rattle.std.proofs.lemmas.Bool.Decides.{nat_tests}
use Rattle.osc_world.specs.World.{killed}
use Rattle.osc_world.proofs.Lists.{slice_get-changed_at, length-changed_at}
use Rattle.osc_world.proofs.laws.objects.freed_objects_are_dead.Goals as goal

pub returns-clause-freed : goal.returns-clause-freed
returns-clause-freed c objects o bytes e = grind (arith, nat_tests, slice_get-changed_at killed objects o o)

pub returns-clause-others : goal.returns-clause-others
returns-clause-others c objects o q n = grind (arith, nat_tests, slice_get-changed_at killed objects o q)

pub returns-clause-count : goal.returns-clause-count
returns-clause-count c objects o = length-changed_at killed objects o
