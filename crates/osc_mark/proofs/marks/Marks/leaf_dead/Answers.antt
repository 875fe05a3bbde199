-- A leaf that is granted is dead where no page of it has a live owner.
use Rattle.std.proofs.Common.{arith}
use Rattle.std.specs.Vec.{vec_capacity}
use Rattle.osc_mark.proofs.Changes.{dead_at}
use Rattle.osc_mark.proofs.marks.Marks.leaf_dead.Goals as goal

pub returns-clause-dead : goal.returns-clause-dead
returns-clause-dead c =
    rw (← c.self.view_is)
    (dead_at c.self.inside.objects.items c.self.inside.limit c.self.inside.live.items c.self.inside.granted (vec_capacity c.self.inside.objects) c.args.leaf c.index.result.now c.self.invariant
    c.if-leaf-lt-FIRST_LEAF.false (omega (arith, c.if-leaf-from.false, c.from.ensures)) c.index.ensures)
