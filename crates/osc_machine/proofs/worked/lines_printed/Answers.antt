-- The lines, computed.
use Rattle.std.proofs.Common.{refl}
use Rattle.std.specs.Fmt.{digits}
use Rattle.osc_calls.specs.Lines.{report_line}
use Rattle.osc_machine.specs.Due.{summary_line}
use Rattle.osc_machine.proofs.worked.lines_printed.Goals as goal

pub returns : goal.returns
unfolding digits report_line summary_line
returns c = record { exit = refl; deeper = refl; malloc = refl; dead = refl }
