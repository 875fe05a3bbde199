-- The power of a byte is below that of the word.
use Rattle.std.proofs.Common.{◌*◌, ◌%◌, ◌^◌, ◌<◌, arith, ap, sym, ◌∙◌}
use Rattle.std.proofs.Math.Nat.{mod-eq_of_lt}
use Rattle.std.proofs.Math.Pow.{pow-lt}
use Rattle.osc_hart.proofs.Powers.{pow_of_pow}
use Rattle.osc_hart.proofs.words.below_byte.Goals as goal

pub returns : goal.returns
returns c =
    let low : 2 ^ (8 * c.args.byte) < 2 ^ 64 = pow-lt {i = 8 * c.args.byte} {j = 64} (omega (arith, c.requires)) in
    ap (λ n. c.args.word % n) (mod-eq_of_lt (omega arith) ∙ omega arith ∙ sym (pow_of_pow 8 c.args.byte))
