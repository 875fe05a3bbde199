-- One page more is laid.
use Rattle.std.proofs.Common.{◌+◌, ◌-◌, ◌∙◌, ap, sym, subst}
use Rattle.osc_calls.specs.Open.{lay_all}
use Rattle.osc_tables.specs.Calls.{changed}
use Rattle.osc_open.specs.Row.{CanLay, alike}
use Rattle.osc_open.proofs.Rows.{next_alike, none_alike}
use Rattle.osc_open.proofs.laying.lay_alike.Goals as goal

pub lay-requires-clause-can : goal.lay-requires-clause-can
lay-requires-clause-can c = record {
  rest = alike (c.loop-page.page + 1) (c.args.end - (c.loop-page.page + 1)) c.args.bits;
  can = subst (λ ps. CanLay c.args.count ps c.loop-page.tables c.loop-page.frames c.loop-page.jobs) (next_alike c.loop-page.page c.args.end c.args.bits c.loop-page-test.true) c.loop-page.invariant.can;
}

pub loop-page-preserved : goal.loop-page-preserved
loop-page-preserved c =
    let page = c.loop-page.page in
    let rest = alike (page + 1) (c.args.end - (page + 1)) c.args.bits in
    let next = next_alike page c.args.end c.args.bits c.loop-page-test.true in
    record {
      can = c.lay.ensures.rest rest (subst (λ ps. CanLay c.args.count ps c.loop-page.tables c.loop-page.frames c.loop-page.jobs) next c.loop-page.invariant.can);
      left =
          ap (λ d. lay_all rest d) c.lay.ensures.next
          ∙ (sym (ap (λ ps. lay_all ps (changed c.loop-page.tables c.loop-page.frames c.loop-page.jobs.pushed)) next) ∙ c.loop-page.invariant.left);
      room = c.lay.ensures.room ∙ c.loop-page.invariant.room;
    }

pub returns-clause-next : goal.returns-clause-next
returns-clause-next c =
    sym (ap (λ ps. lay_all ps (changed c.loop-page.tables c.loop-page.frames c.loop-page.jobs.pushed)) (none_alike c.loop-page.page c.args.end c.args.bits c.loop-page-test.false))
    ∙ c.loop-page.invariant.left

pub returns-clause-last : goal.returns-clause-last
returns-clause-last c =
    subst (λ ps. CanLay c.args.count ps c.loop-page.tables c.loop-page.frames c.loop-page.jobs) (none_alike c.loop-page.page c.args.end c.args.bits c.loop-page-test.false) c.loop-page.invariant.can
