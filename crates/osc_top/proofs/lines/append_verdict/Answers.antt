use Rattle.osc_top.specs.declared.outcome.Verdict.TheVariants.{Error}
use Rattle.osc_top.specs.Due.{verdict_text}
use Rattle.osc_top.proofs.Pieces.{all_appended}
use Rattle.osc_top.proofs.lines.append_verdict.Goals as goal

pub returns-in-Error-clause-after : goal.returns-in-Error-clause-after
returns-in-Error-clause-after c =
    rw (c.text-in-Error-2.ensures.after, c.text-in-Error.ensures.after, c.decimal.ensures.after, c.as_bytes.ensures.value, c.object_text.ensures.text, c.in-Error.is)
    (all_appended c.args.into.now (verdict_text (Error c.in-Error.error)))
