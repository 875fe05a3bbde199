-- The page at the loop's place is the first of those that are left.
use Rattle.std.proofs.Common.{◌+◌, sym, ap, ◌∙◌, drop}
use Rattle.osc_slot.specs.Heap.{give_back}
use Rattle.osc_heap.proofs.Scans.{give_back-drop, can_give-drop}
use Rattle.osc_heap.proofs.rest.give_all.Goals as goal

pub give-requires : goal.give-requires
give-requires c = (can_give-drop c.args.pages.now c.loop-page.page-index (record { page = 0; frame = 0 }) c.loop-page.frames c.loop-page-test.true c.loop-page.invariant.taken).0

pub loop-page-preserved : goal.loop-page-preserved
loop-page-preserved c = record {
  given = c.loop-page.invariant.given ∙ give_back-drop c.args.pages.now c.loop-page.page-index (record { page = 0; frame = 0 }) c.loop-page.frames c.loop-page-test.true
      ∙ ap (give_back (drop (c.loop-page.page-index + 1) c.args.pages.now)) (sym c.give.ensures);
  taken = rw c.give.ensures (can_give-drop c.args.pages.now c.loop-page.page-index (record { page = 0; frame = 0 }) c.loop-page.frames c.loop-page-test.true c.loop-page.invariant.taken).1;
}
