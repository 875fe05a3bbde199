-- A job that changes a box has one move.
use Rattle.std.proofs.Common.{◌≡◌, arith, ◌∙◌}
use Rattle.osc_moves.proofs.Moving.{boxes, past_first}
use Rattle.osc_moves.proofs.progress.Progress.box_changed.Goals as goal

pub returns-then-self-gt0 : goal.returns-then-self-gt0
returns-then-self-gt0 c entries = rw (← c.self.view_is) (past_first entries c.self.inside.job c.self.inside.done (omega (arith, c.if-self-gt0.true)))

pub returns : goal.returns
returns c entries =
    let none : c.self.inside.done ≡ 0 = omega (arith, c.if-self-gt0.false) in
    rw (← c.self.view_is, none) (c.box_of.ensures ∙ boxes entries c.self.inside.job)
