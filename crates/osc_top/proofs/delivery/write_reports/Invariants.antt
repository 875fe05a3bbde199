use Rattle.std.proofs.Common.{◌≡◌, drop}
use Rattle.osc_machine.specs.Due.{report_lines}
use Rattle.osc_top.proofs.Sinks.{Sent}
use Rattle.osc_top.proofs.delivery.write_reports.Given as goal

abbrev pub invariant-loop-report : goal.invariant-loop-report
invariant-loop-report g l =
    record {
      sent : Sent (g.K.Sink.holds l.fn.sink) (g.K.Sink.holds l.sink) (report_lines (drop l.report-index l.reports)) (report_lines l.reports);
      kept : g.K.Sink.faults l.sink ≡ g.K.Sink.faults l.fn.sink;
    }
