-- There are four levels where there are not three.
use Rattle.std.proofs.Common.{◌≡◌, arith}
use Rattle.std.proofs.lemmas.Bool.Decides.{nat_tests}
use Rattle.std.proofs.lemmas.Nat.{and_mask}
use Rattle.osc_tables.proofs.numbers.leaf_number.Goals as goal

pub returns-else-top-eq2 : goal.returns-else-top-eq2
returns-else-top-eq2 c =
    let four : c.args.top ≡ 3 = grind (arith, nat_tests, c.requires, c.if-top-eq2.false) in
    rw four (and_mask c.args.leaf 27)
