-- No piece is left.
use Rattle.std.proofs.Common.{◌≡◌, ◌-◌, arith}
use Rattle.osc_tables.proofs.Pieces.{missing-none}
use Rattle.osc_tables.proofs.needs.missing.Goals as goal

pub returns-clause-missing : goal.returns-clause-missing
returns-clause-missing c =
    let none : c.args.count - c.loop-i.i ≡ 0 = omega arith in
    let all = rw (none, missing-none) at c.loop-i.invariant.left in
    omega arith
