use Rattle.osc_top.specs.Due.{option_text}
use Rattle.osc_top.proofs.Pieces.{all_appended}
use Rattle.osc_top.proofs.lines.append_option.Goals as goal

pub returns-clause-after : goal.returns-clause-after
returns-clause-after c =
    rw (c.text-2.ensures.after, c.text.ensures.after, c.as_bytes.ensures.value, c.option_name.ensures)
    (all_appended c.args.into.now (option_text c.args.place))
