use Rattle.std.proofs.Common.{refl, append_assoc}
use Rattle.osc_top.specs.declared.outcome.Outcome.TheVariants.{NoRoom, Spent}
use Rattle.osc_top.specs.Due.{refusal_text}
use Rattle.osc_top.proofs.Pieces.{all_appended}
use Rattle.osc_top.proofs.lines.append_refusal.Goals as goal

pub returns-in-BadImage-clause-after : goal.returns-in-BadImage-clause-after
returns-in-BadImage-clause-after c =
    rw (c.append_fault.ensures.after, c.text-in-BadImage.ensures.after, c.in-BadImage.is) (append_assoc c.args.into.now _ _)

pub returns-in-NoRoom-clause-after : goal.returns-in-NoRoom-clause-after
returns-in-NoRoom-clause-after c =
    rw (c.decimal-in-NoRoom.ensures.after, c.decimal.ensures.after, c.in-NoRoom.is, c.from.ensures)
    (all_appended c.args.into.now (refusal_text (NoRoom c.in-NoRoom.needed c.in-NoRoom.frames)))

pub returns-in-SourceFault-clause-after : goal.returns-in-SourceFault-clause-after
returns-in-SourceFault-clause-after c = rw (c.text-in-SourceFault.ensures.after, c.in-SourceFault.is) refl

pub returns-in-NoMemory-clause-after : goal.returns-in-NoMemory-clause-after
returns-in-NoMemory-clause-after c = rw (c.text-in-NoMemory.ensures.after, c.in-NoMemory.is) refl

pub returns-in-Spent-clause-after : goal.returns-in-Spent-clause-after
returns-in-Spent-clause-after c =
    rw (c.decimal-in-Spent.ensures.after, c.in-Spent.is) (all_appended c.args.into.now (refusal_text (Spent c.in-Spent.picks)))

pub returns-in-BadText-clause-after : goal.returns-in-BadText-clause-after
returns-in-BadText-clause-after c =
    rw (c.append_text_fault.ensures.after, c.text-in-BadText.ensures.after, c.in-BadText.is) (append_assoc c.args.into.now _ _)
