-- One leaf table more.
use Rattle.std.proofs.Common.{arith, refl, ◌+◌}
use Rattle.osc_shadow.proofs.GivenUp.{giving_none, giving_more, giving_all, over_is_low}
use Rattle.osc_shadow.proofs.leaves.give_leaves_up.Goals as goal

pub loop-leaf-init : goal.loop-leaf-init
loop-leaf-init c = giving_none c.args.tables.now c.args.marks.now c.args.gone.now c.args.jobs.now

pub overflow_add-from : goal.overflow_add-from
overflow_add-from c =
    let low = over_is_low c.args.marks.now c.args.gone.now c.loop-leaf.from c.in-Some.leaf c.requires.marked c.requires.known c.in-Some.ensures in
    omega arith

pub loop-leaf-smaller : goal.loop-leaf-smaller
loop-leaf-smaller c =
    let low = over_is_low c.args.marks.now c.args.gone.now c.loop-leaf.from c.in-Some.leaf c.requires.marked c.requires.known c.in-Some.ensures in
    let above = c.in-Some.ensures.above in
    omega arith

pub loop-leaf-preserved : goal.loop-leaf-preserved
loop-leaf-preserved c =
    giving_more c.args.tables.now c.loop-leaf.tables c.give_up.new.tables c.args.marks.now c.args.gone.now c.args.jobs.now c.loop-leaf.jobs c.give_up.new.jobs c.loop-leaf.from c.in-Some.leaf (c.in-Some.leaf + 1)
    c.requires.order c.loop-leaf.invariant c.in-Some.ensures refl c.give_up.ensures.next c.give_up.ensures.room

pub returns-clause-next : goal.returns-clause-next
returns-clause-next c = giving_all c.args.tables.now c.loop-leaf.tables c.args.marks.now c.args.gone.now c.args.jobs.now c.loop-leaf.jobs c.loop-leaf.from c.loop-leaf.invariant c.in_default.ensures
