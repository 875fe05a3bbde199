-- No level is left.
use Rattle.std.proofs.Common.{◌≡◌, arith}
use Rattle.osc_tables.proofs.Pieces.{need-zero}
use Rattle.osc_tables.proofs.needs.need_below.Goals as goal

pub returns : goal.returns
returns c =
    let none : c.loop-level.level ≡ 0 = omega arith in
    let all = rw (none, need-zero) at c.loop-level.invariant.left in
    omega arith
