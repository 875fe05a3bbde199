-- A word that is not 0 shows the least number, and one that is 0 shows that none of its numbers is one.
use Rattle.std.proofs.Common.{◌<◌, ◌≤◌, ◌+◌, arith, sym, ◌∙◌}
use Rattle.osc_heap.specs.Layout.{has_as}
use Rattle.osc_heap.proofs.Scans.{least_end}
use Rattle.osc_heap.proofs.SlotBits.{shown_below, least_past, least_shown}
use Rattle.osc_heap.proofs.slot_bits.least_as.Goals as goal

pub overflow_add-result : goal.overflow_add-result
overflow_add-result c =
    let at = c.loop-at.invariant.at in
    let some : 0 < c.window-found.result = omega (arith, c.if-found-ne0.true) in
    let below = shown_below (has_as c.args.words.now c.args.wanted) c.loop-at.at c.min-part.result c.window-found.result some c.window-found.type_inv c.window-found.ensures in
    let part = c.min-part.ensures in
    let fits = c.requires.fits in
    omega arith

pub returns-then-found-ne0 : goal.returns-then-found-ne0
returns-then-found-ne0 c =
    let at = c.loop-at.invariant.at in
    let part = c.min-part.ensures in
    let some : 0 < c.window-found.result = omega (arith, c.if-found-ne0.true) in
    sym (c.loop-at.invariant.left ∙ least_shown (has_as c.args.words.now c.args.wanted) c.loop-at.at (c.args.first + c.args.count) c.min-part.result c.window-found.result (omega arith) (omega arith) some c.window-found.type_inv c.window-found.ensures)

pub loop-at-preserved : goal.loop-at-preserved
loop-at-preserved c =
    let at = c.loop-at.invariant.at in
    let part = c.min-part.ensures in
    let within : c.loop-at.at + c.min-part.result ≤ c.args.first + c.args.count = omega arith in
    record {
      at = within;
      left = c.loop-at.invariant.left ∙ least_past (has_as c.args.words.now c.args.wanted) c.loop-at.at (c.args.first + c.args.count) c.min-part.result c.window-found.result (omega arith) within (omega (arith, c.if-found-ne0.false)) c.window-found.ensures;
    }

pub returns : goal.returns
returns c = sym (c.loop-at.invariant.left ∙ least_end (has_as c.args.words.now c.args.wanted) c.loop-at.at (c.args.first + c.args.count) c.loop-at-test.false)
