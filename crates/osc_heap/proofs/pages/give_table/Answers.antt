-- The entry at the loop's place is the next that is given back.
use Rattle.std.proofs.Common.{◌+◌, Some, None, [], sym, ◌∙◌}
use Rattle.osc_slot.specs.Areas.{first_page}
use Rattle.osc_slot.specs.Heap.{give_back}
use Rattle.osc_heap.specs.Layout.{pages_from}
use Rattle.osc_heap.proofs.Held.{give_next, can_give_next, give_ends}
use Rattle.osc_heap.proofs.pages.give_table.Goals as goal
use Rattle.osc_heap.proofs.pages.give_table.Goals.{in-Some, in-None}

pub give-requires : goal.give-requires
give-requires c = can_give_next c.loop-at.at c.in-Some.frame c.args.table.now c.loop-at.frames (rw c.len-at-end.ensures at c.loop-at-test.true) (sym c.get.ensures ∙ c.in-Some.is) c.loop-at.invariant.taken

pub loop-at-preserved : goal.loop-at-preserved
loop-at-preserved c =
    elim c.match-get.branch [
      | in-Some w ↦ (let r = give_next c.loop-at.at c.args.table.now (Some w.in-Some.frame) c.loop-at.frames c.match-get.frames (give_back (pages_from first_page c.args.table.now []) c.args.frames.now) (rw c.len-at-end.ensures at c.loop-at-test.true) (sym c.get.ensures ∙ w.in-Some.is) (w.frames-is ∙ w.give.ensures) c.loop-at.invariant.given c.loop-at.invariant.taken in record { given = r.0; taken = r.1 })
      | in-None w ↦ (let r = give_next c.loop-at.at c.args.table.now None c.loop-at.frames c.match-get.frames (give_back (pages_from first_page c.args.table.now []) c.args.frames.now) (rw c.len-at-end.ensures at c.loop-at-test.true) (sym c.get.ensures ∙ w.in-None.is) w.frames-is c.loop-at.invariant.given c.loop-at.invariant.taken in record { given = r.0; taken = r.1 })
    ]

pub returns : goal.returns
returns c =
    let past = rw c.len-at-end.ensures at c.loop-at-test.false in
    sym (c.loop-at.invariant.given ∙ give_ends (first_page + c.loop-at.at) c.loop-at.at c.args.table.now c.loop-at.frames past)
