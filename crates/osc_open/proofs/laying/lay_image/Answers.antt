-- One page more is laid.
use Rattle.std.proofs.Common.{◌+◌, ◌∙◌, ap, drop, sym}
use Rattle.osc_calls.specs.Open.{lay_all}
use Rattle.osc_tables.specs.Calls.{changed}
use Rattle.osc_open.specs.Laying.{pages_of}
use Rattle.osc_open.specs.Row.{with_stack}
use Rattle.osc_open.proofs.Rows.{image_can, next_of_image}
use Rattle.osc_open.proofs.laying.lay_image.Goals as goal

pub lay-requires-clause-can : goal.lay-requires-clause-can
lay-requires-clause-can c = record {
  rest = with_stack (pages_of (drop (c.loop-page.page-index + 1) c.args.pages.now));
  can = image_can c.args.count c.args.pages.now c.loop-page.page-index c.loop-page.tables c.loop-page.frames c.loop-page.jobs c.loop-page-test.true c.loop-page.invariant.can;
}

pub loop-page-preserved : goal.loop-page-preserved
loop-page-preserved c =
    let i = c.loop-page.page-index in
    let rest = pages_of (drop (i + 1) c.args.pages.now) in
    record {
      can = c.lay.ensures.rest (with_stack rest) (image_can c.args.count c.args.pages.now i c.loop-page.tables c.loop-page.frames c.loop-page.jobs c.loop-page-test.true c.loop-page.invariant.can);
      left =
          ap (λ d. lay_all rest d) c.lay.ensures.next
          ∙ (sym (ap (λ ps. lay_all ps (changed c.loop-page.tables c.loop-page.frames c.loop-page.jobs.pushed)) (next_of_image c.args.pages.now i c.loop-page-test.true)) ∙ c.loop-page.invariant.left);
      room = c.lay.ensures.room ∙ c.loop-page.invariant.room;
    }
