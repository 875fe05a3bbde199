use Rattle.std.proofs.Common.{refl, ◌∙◌}
use Rattle.std.proofs.lemmas.Result.{err_from_is_err_and}
use Rattle.osc_top.proofs.Sinks.{Sent-none, Sent-line, Sent-line-part, Sent-all, lines-end}
use Rattle.osc_top.proofs.delivery.write_reports.Goals as goal

pub loop-report-init : goal.loop-report-init
loop-report-init g c = record { sent = Sent-none _ _; kept = refl }

pub returns-in_err-write_report-clause-part : goal.returns-in_err-write_report-clause-part
returns-in_err-write_report-clause-part g c =
    let back = c.from_residual in
    let p = err_from_is_err_and back.result back.ensures.1 in
    let l = c.loop-report in
    rw p.1 (Sent-line-part _ _ _ l.report-index c.args.reports.now _ _ c.loop-report-test.true l.invariant.sent c.in_err-write_report.ensures.part)

pub loop-report-preserved : goal.loop-report-preserved
loop-report-preserved g c =
    let l = c.loop-report in
    record {
      sent = Sent-line _ _ _ l.report-index c.args.reports.now _ _ c.loop-report-test.true l.invariant.sent c.in_ok-write_report.ensures.all;
      kept = c.in_ok-write_report.ensures.done ∙ l.invariant.kept;
    }

pub returns-clause-all : goal.returns-clause-all
returns-clause-all g c =
    Sent-all _ _ _ (rw (lines-end c.loop-report.report-index c.args.reports.now c.loop-report-test.false) at c.loop-report.invariant.sent)
