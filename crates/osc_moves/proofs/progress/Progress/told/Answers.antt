-- What is left of a row of moves.
use Rattle.std.proofs.Common.{◌≡◌, true, false, arith, sym, ◌∙◌, subst}
use Rattle.osc_moves.specs.Standing.{loads_first}
use Rattle.osc_moves.proofs.Moving.{copy_loaded, last, more}
use Rattle.osc_moves.proofs.progress.Progress.told.Goals as goal

pub returns-then-loads_first-clause-left : goal.returns-then-loads_first-clause-left
returns-then-loads_first-clause-left c entries =
    rw (← c.self.view_is)
    (copy_loaded entries c.self.inside.job c.self.inside.done c.self.inside.read c.args.word (subst (λ s. loads_first s ≡ true) (sym c.self.view_is) (sym c.loads_first.ensures ∙ c.if-loads_first.true))
    (omega (arith, c.count_of.ensures entries, c.saturating_sub-left.ensures, c.if-left-eq0.false)))

pub returns-then-left-eq1-clause-left : goal.returns-then-left-eq1-clause-left
returns-then-left-eq1-clause-left c entries =
    rw (← c.self.view_is)
    (last entries c.self.inside.job c.self.inside.done c.self.inside.read c.args.word (subst (λ s. loads_first s ≡ false) (sym c.self.view_is) (sym c.loads_first.ensures ∙ c.if-loads_first.false))
    (omega (arith, c.count_of.ensures entries, c.saturating_sub-left.ensures, c.if-left-eq1.true)))

pub returns-else-left-eq1-clause-left : goal.returns-else-left-eq1-clause-left
returns-else-left-eq1-clause-left c entries =
    rw (← c.self.view_is)
    (more entries c.self.inside.job c.self.inside.done c.self.inside.read c.args.word (subst (λ s. loads_first s ≡ false) (sym c.self.view_is) (sym c.loads_first.ensures ∙ c.if-loads_first.false))
    (omega (arith, c.count_of.ensures entries, c.saturating_sub-left.ensures, c.if-left-eq0.false, c.if-left-eq1.false)))
