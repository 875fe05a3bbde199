use Rattle.osc_mul.proofs.Division.{signed_divided}
use Rattle.osc_mul.proofs.laws.signed_quotient.Goals as goal

pub returns : goal.returns
returns c =
    signed_divided c.args.a c.args.b c.ranges.a.fits c.ranges.b.fits c.requires.divisor c.requires.fits
