-- The child has room for as many objects.
use Rattle.std.proofs.Common.{◌≡◌, ◌∙◌, sym, ap, arith}
use Rattle.std.specs.Vec.{vec_capacity}
use Rattle.osc_mark.specs.Grants.{Grants}
use Rattle.osc_mark.proofs.Changes.{few}
use Rattle.osc_mark.proofs.marks.Marks.copy_to.Goals as goal

pub copy_objects-requires-clause-room : goal.copy_objects-requires-clause-room
copy_objects-requires-clause-room c =
    let same : c.child.inside.limit ≡ c.self.inside.limit = ap (λ (g : Grants). g.limit) (c.child.view_is ∙ c.requires) ∙ sym (ap (λ (g : Grants). g.limit) c.self.view_is) in
    let f = few c.self.inside.objects.items c.self.inside.limit c.self.inside.live.items c.self.inside.granted (vec_capacity c.self.inside.objects) c.self.invariant in
    let room = c.child.invariant.has_room in
    rw c.deref-2.ensures.value (omega (arith, f.0, f.1))
