use Rattle.osc_report.proofs.Pieces.{three, six}
use Rattle.osc_report.proofs.text.append_fault.Goals as goal

pub returns-in-DoubleFree-clause-after : goal.returns-in-DoubleFree-clause-after
returns-in-DoubleFree-clause-after c =
    rw (c.decimal-in-DoubleFree-2.ensures.after, c.decimal-in-DoubleFree.ensures.after, c.hexadecimal-in-DoubleFree.ensures.after, c.in-DoubleFree.is, c.from-in-DoubleFree.ensures, c.from-in-DoubleFree-2.ensures)
    (six c.args.into.now _ _ _ _ _ _)

pub returns-in-BadFree-clause-after : goal.returns-in-BadFree-clause-after
returns-in-BadFree-clause-after c = rw (c.text-in-BadFree.ensures.after, c.hexadecimal-in-BadFree.ensures.after, c.in-BadFree.is) (three c.args.into.now _ _ _)

pub returns-in-Header-clause-after : goal.returns-in-Header-clause-after
returns-in-Header-clause-after c =
    rw (c.hexadecimal-in-Header-2.ensures.after, c.hexadecimal-in-Header.ensures.after, c.decimal-in-Header.ensures.after, c.in-Header.is, c.from-in-Header.ensures)
    (six c.args.into.now _ _ _ _ _ _)
