use Rattle.std.proofs.Common.{ℕ, ◌≡◌, ◌<◌, ◌-◌, ◌/◌, Some}
use Rattle.osc_space.specs.declared.ObjectFact.{ObjectFact}
use Rattle.osc_space.specs.Objects.{fact}
use Rattle.osc_fork.specs.Names.{MarksMore, AreBacked, AreFound}
use Rattle.osc_fork.proofs.marking.mark_objects.Given as goal

-- the objects before this one are looked at
abbrev pub invariant-loop-object : goal.invariant-loop-object
invariant-loop-object l = record {
  more : MarksMore l.heap.pages l.fn.names l.names;
  found : (object : ℕ) (o : ObjectFact) → object < l.object → fact l.marks.objects object ≡ Some o
      → AreBacked l.heap.pages ((o.canon - 16) / 4096) o.pages → AreFound l.heap.pages ((o.canon - 16) / 4096) o.pages l.names;
}
