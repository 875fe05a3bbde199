-- 512 to the number of levels is a power of two.
use Rattle.std.proofs.Common.{◌*◌, ◌%◌, ◌^◌, ◌<◌, arith, ap, ◌∙◌}
use Rattle.std.proofs.Math.Nat.{mod-eq_of_lt}
use Rattle.std.proofs.Math.Pow.{pow-lt}
use Rattle.osc_hart.proofs.Powers.{number_beyond, number_within}
use Rattle.osc_hart.proofs.pages.number_of.Goals as goal

pub returns-then-levels-ge-ALL_LEVELS : goal.returns-then-levels-ge-ALL_LEVELS
returns-then-levels-ge-ALL_LEVELS c =
    number_beyond c.args.levels c.args.page c.if-levels-ge-ALL_LEVELS.true c.requires

pub returns : goal.returns
returns c =
    rw c.from.ensures
    (let low : 2 ^ (9 * c.args.levels) < 2 ^ 64 = pow-lt {i = 9 * c.args.levels} {j = 64} (omega arith) in
    ap (λ n. c.args.page % n) (mod-eq_of_lt (omega arith) ∙ omega arith) ∙ number_within c.args.levels c.args.page)
