-- The pages of the object leave the counts.
use Rattle.std.proofs.Common.{◌≡◌, ◌∙◌, sym, ap, rules, length, set}
use Rattle.std.specs.Vec.{vec_len, vec_capacity, with_items}
use Rattle.std.proofs.lemmas.List.{with_items_is}
use Rattle.osc_space.specs.Objects.{kill, killed}
use Rattle.osc_mark.specs.Grants.{grants_of}
use Rattle.osc_mark.specs.Leaves.{AreParts}
use Rattle.osc_mark.proofs.Changes.{kill_within, kill_held, lives-within, after_kill, kill-set}
use Rattle.osc_mark.proofs.marks.Marks.kill.Goals as goal

pub drop_pages-requires-clause-low : goal.drop_pages-requires-clause-low
drop_pages-requires-clause-low c =
    (rw (← c.index.ensures) at (kill_within c.self.inside.objects.items c.self.inside.limit c.self.inside.live.items c.self.inside.granted (vec_capacity c.self.inside.objects) c.args.object c.index.result.now c.self.invariant (rw (← c.self.view_is) at c.requires))).0

pub drop_pages-requires-clause-high : goal.drop_pages-requires-clause-high
drop_pages-requires-clause-high c =
    rw c.deref_mut.ensures.value
    ((rw (← c.index.ensures) at (kill_within c.self.inside.objects.items c.self.inside.limit c.self.inside.live.items c.self.inside.granted (vec_capacity c.self.inside.objects) c.args.object c.index.result.now c.self.invariant (rw (← c.self.view_is) at c.requires))).1)

pub drop_pages-requires-clause-held : goal.drop_pages-requires-clause-held
drop_pages-requires-clause-held c =
    rw c.deref_mut.ensures.value
    (rw (← c.index.ensures) at (kill_held c.self.inside.objects.items c.self.inside.limit c.self.inside.live.items c.self.inside.granted (vec_capacity c.self.inside.objects) c.args.object c.index.result.now c.self.invariant (rw (← c.self.view_is) at c.requires)))

pub index_mut-requires : goal.index_mut-requires
index_mut-requires c =
    let len : vec_len c.self.inside.objects ≡ length c.self.inside.objects.items = search rules in
    rw len (lives-within c.args.object c.self.inside.objects.items (rw (← c.self.view_is) at c.requires))

killed_items : (c : goal.After-self-2-1) → kill c.args.object c.args.call c.self.inside.objects.items ≡ set c.self.inside.objects.items c.args.object (killed c.args.call c.index_mut.result.now)
killed_items c =
    let within = lives-within c.args.object c.self.inside.objects.items (rw (← c.self.view_is) at c.requires) in
    kill-set c.args.object c.args.call c.self.inside.objects.items c.index_mut.result.now within
    ∙ ap (λ o. set c.self.inside.objects.items c.args.object (killed c.args.call o)) (sym c.index_mut.ensures.value)

after : (c : goal.After-self-2-1) → AreParts (set c.self.inside.objects.items c.args.object (killed c.args.call c.index_mut.result.now)) c.self.inside.limit (with_items c.self.inside.live c.drop_pages.new.counts).items c.self.inside.granted (vec_capacity c.self.inside.objects)
after c =
    rw (← killed_items c, with_items_is c.self.inside.live c.drop_pages.new.counts (c.drop_pages.ensures.size ∙ c.deref_mut.ensures.len))
    (after_kill c.self.inside.objects.items c.self.inside.limit c.self.inside.live.items c.drop_pages.new.counts c.self.inside.granted (vec_capacity c.self.inside.objects) c.args.object c.args.call c.index.result.now
    c.self.invariant (rw (← c.self.view_is) at c.requires) c.index.ensures (rw c.deref_mut.ensures.value at c.drop_pages.ensures))

pub invariant_of-self : goal.invariant_of-self
invariant_of-self c = after c

pub returns-clause-grants : goal.returns-clause-grants
returns-clause-grants c = rw (← c.self.view_is) (ap (λ os. grants_of os c.self.inside.limit) (sym (killed_items c)))

pub returns-clause-valid : goal.returns-clause-valid
returns-clause-valid c = (after c).are_marked
