-- Each object has a page of its own.
use Rattle.std.proofs.Common.{arith, length, ◌<◌}
use Rattle.std.specs.Vec.{vec_capacity}
use Rattle.osc_mark.proofs.Changes.{few}
use Rattle.osc_mark.proofs.marks.Marks.object_at.Goals as goal

pub overflow_cast-result : goal.overflow_cast-result
overflow_cast-result c =
    let f = few c.self.inside.objects.items c.self.inside.limit c.self.inside.live.items c.self.inside.granted (vec_capacity c.self.inside.objects) c.self.invariant in
    let inside : c.in_ok-object.object < length c.self.inside.objects.items = rw c.deref.ensures.value at c.in_ok-object.ensures.within in
    omega (arith, f.0, f.1, f.2)
