use Rattle.std.proofs.Common.{refl}
use Rattle.std.specs.Fmt.{digits}
use Rattle.osc_calls.specs.Lines.{report_line}
use Rattle.osc_calls.proofs.laws.report_lines.Goals as goal

pub returns-clause-dead : goal.returns-clause-dead
unfolding digits report_line
returns-clause-dead c = refl

pub returns-clause-live : goal.returns-clause-live
unfolding digits report_line
returns-clause-live c = refl

pub returns-clause-nowhere : goal.returns-clause-nowhere
unfolding digits report_line
returns-clause-nowhere c = refl

pub returns-clause-double : goal.returns-clause-double
unfolding digits report_line
returns-clause-double c = refl

pub returns-clause-bad : goal.returns-clause-bad
unfolding digits report_line
returns-clause-bad c = refl

pub returns-clause-header : goal.returns-clause-header
unfolding digits report_line
returns-clause-header c = refl

pub returns-clause-unknown : goal.returns-clause-unknown
unfolding digits report_line
returns-clause-unknown c = refl
