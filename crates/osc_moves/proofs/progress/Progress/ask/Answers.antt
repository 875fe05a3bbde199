-- The first of a row of moves.
use Rattle.std.proofs.Common.{arith, sym, subst}
use Rattle.osc_moves.specs.Standing.{IsEntry}
use Rattle.osc_moves.proofs.Moving.{zeros_fit, copies_fit, zeros_ask, copies_ask, table_asks}
use Rattle.osc_moves.proofs.progress.Progress.ask.Goals as goal

pub after-requires : goal.after-requires
after-requires c = zeros_fit c.self.inside.job c.in-ZeroWords.at c.in-ZeroWords.count c.self.inside.done c.in-ZeroWords.is c.self.invariant (omega (arith, c.count_of.ensures (λ a b. 0), c.if-done-count_of.false))

pub after-requires-in-CopyWords : goal.after-requires-in-CopyWords
after-requires-in-CopyWords c =
    (copies_fit c.self.inside.job c.in-CopyWords.from c.in-CopyWords.to c.in-CopyWords.count c.self.inside.done c.in-CopyWords.is c.self.invariant (omega (arith, c.count_of.ensures (λ a b. 0), c.if-done-count_of.false))).0

pub after-requires-in-CopyWords-2 : goal.after-requires-in-CopyWords-2
after-requires-in-CopyWords-2 c =
    (copies_fit c.self.inside.job c.in-CopyWords.from c.in-CopyWords.to c.in-CopyWords.count c.self.inside.done c.in-CopyWords.is c.self.invariant (omega (arith, c.count_of.ensures (λ a b. 0), c.if-done-count_of.false))).1

pub returns-in-ZeroWords : goal.returns-in-ZeroWords
returns-in-ZeroWords c entries entry =
    rw (← c.self.view_is, c.after.ensures)
    (zeros_ask entries c.self.inside.job c.in-ZeroWords.at c.in-ZeroWords.count c.self.inside.done c.self.inside.read c.in-ZeroWords.is (omega (arith, c.count_of.ensures entries, c.if-done-count_of.false)))

pub returns-in-CopyWords : goal.returns-in-CopyWords
returns-in-CopyWords c entries entry =
    rw (← c.self.view_is, c.copy_ask.ensures, c.after-in-CopyWords.ensures, c.after-in-CopyWords-2.ensures)
    (copies_ask entries c.self.inside.job c.in-CopyWords.from c.in-CopyWords.to c.in-CopyWords.count c.self.inside.done c.self.inside.read c.in-CopyWords.is (omega (arith, c.count_of.ensures entries, c.if-done-count_of.false)))

pub returns-in-CopyTable : goal.returns-in-CopyTable
returns-in-CopyTable c entries entry =
    rw (← c.self.view_is)
    (table_asks entries c.self.inside.job c.in-CopyTable.from c.in-CopyTable.to c.self.inside.done c.args.entry c.self.inside.read c.in-CopyTable.is (subst (λ s. IsEntry entries s c.args.entry) (sym c.self.view_is) entry) (omega (arith, c.count_of.ensures entries, c.if-done-count_of.false)))
