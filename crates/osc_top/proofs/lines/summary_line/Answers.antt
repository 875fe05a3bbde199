use Rattle.std.proofs.Common.{[], ap}
use Rattle.osc_machine.specs.Due.{ended_line, summary_line, summary_text}
use Rattle.osc_top.proofs.Pieces.{all_appended}
use Rattle.osc_top.proofs.lines.summary_line.Goals as goal

pub returns : goal.returns
unfolding summary_line
returns c =
    rw (c.text.ensures.after, c.decimal-8.ensures.after, c.decimal-7.ensures.after, c.decimal-6.ensures.after, c.decimal-5.ensures.after, c.decimal-4.ensures.after, c.decimal-3.ensures.after, c.decimal-2.ensures.after, c.decimal.ensures.after, c.clear.ensures, c.from.ensures, c.from-2.ensures)
    (ap ended_line (all_appended [] (summary_text c.args.picks c.args.counts.now)))
