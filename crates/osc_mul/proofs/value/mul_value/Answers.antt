use Rattle.std.proofs.Common.{◌∙◌, sym}
use Rattle.osc_mul.proofs.Whole.{low_signed, word_wrapped}
use Rattle.osc_mul.proofs.value.mul_value.Goals as goal

pub returns-in-Mul : goal.returns-in-Mul
returns-in-Mul c = rw c.in-Mul.is (sym (low_signed c.args.a c.args.b c.ranges.a.fits c.ranges.b.fits))

pub returns-in-Mulw : goal.returns-in-Mulw
returns-in-Mulw c = rw c.in-Mulw.is (c.word.ensures ∙ word_wrapped c.args.a c.args.b)
