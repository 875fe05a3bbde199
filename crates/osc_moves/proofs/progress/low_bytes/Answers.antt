-- Eight bytes are the whole word.
use Rattle.std.proofs.Common.{◌*◌, ◌^◌, ◌≤◌, arith, sym}
use Rattle.std.proofs.Math.Nat.{mod-eq_of_lt}
use Rattle.std.proofs.Math.Pow.{pow_mono}
use Rattle.osc_moves.proofs.progress.low_bytes.Goals as goal

pub returns-else-bytes-lt-WORD : goal.returns-else-bytes-lt-WORD
returns-else-bytes-lt-WORD c =
    let high : 2 ^ 64 ≤ 2 ^ (8 * c.args.bytes) = pow_mono {i = 64} {j = 8 * c.args.bytes} (omega (arith, c.if-bytes-lt-WORD.false)) in
    sym (mod-eq_of_lt (omega (arith, high, c.ranges.word.fits)))
