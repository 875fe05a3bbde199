use Rattle.std.proofs.Common.{arith}
use Rattle.std.proofs.lemmas.Bool.Decides.{nat_tests}
use Rattle.osc_frames.proofs.Bits.{bit_at_set, bit_at_clear}
use Rattle.osc_frames.proofs.words.with_bit.Goals as goal

pub returns-then-value : goal.returns-then-value
returns-then-value c = λ j l. let e = bit_at_set c.args.word c.args.i c.requires j in grind (arith, nat_tests, e)

pub returns-else-value : goal.returns-else-value
returns-else-value c = λ j l. let e = bit_at_clear c.args.word c.args.i c.requires j l in grind (arith, nat_tests, e)
