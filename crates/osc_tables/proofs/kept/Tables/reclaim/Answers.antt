-- The topmost table is no leaf table.
use Rattle.std.proofs.Common.{◌≡◌, ◌==◌, ◌∙◌, false, ap, refl, arith}
use Rattle.std.proofs.lemmas.Bool.Decides.{nat_tests}
use Rattle.osc_paging.specs.KeptTables.{KeptTables, root_of}
use Rattle.osc_paging.proofs.TableLists.{frame_of-without_table}
use Rattle.osc_tables.specs.Inside.{IsTop}
use Rattle.osc_tables.proofs.kept.Tables.reclaim.Goals as goal

pub returns-in-Some-frame_of-clause-root : goal.returns-in-Some-frame_of-clause-root
returns-in-Some-frame_of-clause-root c =
    let t = c.args.self.now in
    let range : IsTop t.top = rw (← c.self.view_is) c.self.invariant.0.range in
    let other : (0 == t.top) ≡ false = grind (arith, nat_tests, range.0) in
    ap (λ (t : KeptTables). root_of t) c.set_aside.ensures.next ∙ frame_of-without_table t.tables 0 _ t.top 0 ∙ rw other refl
