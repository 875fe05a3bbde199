use Rattle.std.proofs.Common.{arith}
use Rattle.std.proofs.lemmas.Bool.Decides.{nat_tests}
use Rattle.std.proofs.Common.{min}
use Rattle.osc_frames.proofs.Bits.{bit_at_low}
use Rattle.osc_frames.proofs.words.low_ones.Goals as goal

pub returns : goal.returns
returns c = λ j l. let e = bit_at_low (min c.args.count 64) (omega arith) j in grind (arith, nat_tests, e)
