-- One page more is looked at.
use Rattle.std.proofs.Common.{◌∙◌, sym, arith}
use Rattle.osc_write.proofs.Reading.{page_read, page_not_read}
use Rattle.osc_write.proofs.first_unreadable.Goals as goal

pub returns-then-is_unreadable : goal.returns-then-is_unreadable
returns-then-is_unreadable c =
    sym (page_not_read c.args.tables.now c.args.buf c.loop-done.done c.args.count c.loop-done-test.true (sym c.is_unreadable.ensures ∙ c.if-is_unreadable.true))
    ∙ c.loop-done.invariant.left

pub loop-done-preserved : goal.loop-done-preserved
loop-done-preserved c = record {
  left =
      sym (page_read c.args.tables.now c.args.buf c.loop-done.done c.args.count (sym c.is_unreadable.ensures ∙ c.if-is_unreadable.false))
      ∙ c.loop-done.invariant.left;
  few = omega (arith, c.loop-done-test.true, c.requires);
}
