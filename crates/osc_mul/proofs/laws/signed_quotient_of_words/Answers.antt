use Rattle.osc_mul.proofs.Division.{words_divided}
use Rattle.osc_mul.proofs.laws.signed_quotient_of_words.Goals as goal

pub returns : goal.returns
returns c = words_divided c.args.a c.args.b c.requires.divisor c.requires.fits
