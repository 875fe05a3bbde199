-- The pages of the new object enter the counts.
use Rattle.std.proofs.Common.{◌≡◌, ◌∙◌, ◌+◌, ◌<◌, ◌≤◌, arith, rules, length, subst, sym}
use Rattle.std.specs.Vec.{vec_len, vec_capacity, with_items}
use Rattle.std.proofs.lemmas.List.{with_items_is}
use Rattle.osc_space.specs.Objects.{grant}
use Rattle.osc_mark.specs.Leaves.{AreParts}
use Rattle.osc_mark.proofs.Changes.{counts_small, few, after_grant}
use Rattle.osc_mark.proofs.marks.Marks.grant.Goals as goal

pub add_pages-requires-clause-small : goal.add_pages-requires-clause-small
add_pages-requires-clause-small c =
    rw c.deref_mut.ensures.value
    (counts_small c.self.inside.objects.items c.self.inside.limit c.self.inside.live.items c.self.inside.granted (vec_capacity c.self.inside.objects) c.self.invariant)

pub unwrap-requires : goal.unwrap-requires
unwrap-requires c =
    let len : vec_len c.self.inside.objects ≡ length c.self.inside.objects.items = search rules in
    let f = few c.self.inside.objects.items c.self.inside.limit c.self.inside.live.items c.self.inside.granted (vec_capacity c.self.inside.objects) c.self.invariant in
    let is = c.self.invariant.is_mark in
    let has = c.self.invariant.has_room in
    let some = c.requires.some in
    let fits = rw (← c.self.view_is) at c.requires.left in
    let room : vec_len c.self.inside.objects < vec_capacity c.self.inside.objects = omega (arith, f.0, f.1) in
    search rules

after : (c : goal.After-self-2-1) → AreParts c.push.new.self.items c.self.inside.limit (with_items c.self.inside.live c.add_pages.new.counts).items (c.self.inside.granted + c.args.pages) (vec_capacity c.push.new.self)
after c =
    let first = rw (← c.self.view_is) at c.next_page-first.ensures.page in
    let items : c.push.new.self.items ≡ grant c.args.pages c.args.size c.args.canon c.self.inside.objects.items = search rules in
    let capacity : vec_capacity c.self.inside.objects ≤ vec_capacity c.push.new.self = search rules in
    let live : (with_items c.self.inside.live c.add_pages.new.counts).items ≡ c.add_pages.new.counts = with_items_is c.self.inside.live c.add_pages.new.counts (c.add_pages.ensures.size ∙ c.deref_mut.ensures.len) in
    subst (λ os. AreParts os c.self.inside.limit (with_items c.self.inside.live c.add_pages.new.counts).items (c.self.inside.granted + c.args.pages) (vec_capacity c.push.new.self)) (sym items)
    (subst (λ live. AreParts (grant c.args.pages c.args.size c.args.canon c.self.inside.objects.items) c.self.inside.limit live (c.self.inside.granted + c.args.pages) (vec_capacity c.push.new.self)) (sym live)
    (after_grant c.self.inside.objects.items c.self.inside.limit c.self.inside.live.items c.add_pages.new.counts c.self.inside.granted (vec_capacity c.self.inside.objects) (vec_capacity c.push.new.self) c.args.pages c.args.size c.args.canon
    c.self.invariant c.requires.some (rw (← c.self.view_is) at c.requires.left) (rw (c.deref_mut.ensures.value, first) at c.add_pages.ensures) capacity))

pub invariant_of-self : goal.invariant_of-self
invariant_of-self c = after c

pub returns-clause-valid : goal.returns-clause-valid
returns-clause-valid c = (after c).are_marked
