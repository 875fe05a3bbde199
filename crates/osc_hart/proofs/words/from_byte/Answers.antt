-- Nothing is lost above: the bytes of a word stay within it.
use Rattle.std.proofs.Common.{◌*◌, ◌^◌, arith}
use Rattle.std.proofs.Math.Nat.{mod-eq_of_lt, div-mul-le_self}
use Rattle.osc_hart.proofs.Powers.{pow_of_pow}
use Rattle.osc_hart.proofs.words.from_byte.Goals as goal

pub returns : goal.returns
returns c =
    rw (pow_of_pow 8 c.args.byte)
    (mod-eq_of_lt (omega (arith, c.ranges.word.fits, div-mul-le_self c.args.word (2 ^ (8 * c.args.byte)))))
