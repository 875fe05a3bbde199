use Rattle.std.proofs.Common.{◌^◌, ◌∙◌, sym, ap, pos, ◌+ℤ◌, ◌*ℤ◌}
use Rattle.osc_isa.specs.Numbers.{signed}
use Rattle.osc_isa.specs.Multiply.{high_bits}
use Rattle.osc_mul.proofs.Whole.{joined, joined_unsigned, signed_product, mixed_product, low_signed, low_mixed, word_product}
use Rattle.osc_mul.proofs.laws.halves_of_a_product.Goals as goal

pub returns-clause-signed : goal.returns-clause-signed
returns-clause-signed c =
    joined (signed c.args.a *ℤ signed c.args.b)
    (signed_product c.args.a c.args.b c.ranges.a.fits c.ranges.b.fits).sfits

pub returns-clause-mixed : goal.returns-clause-mixed
returns-clause-mixed c =
    let whole = joined (signed c.args.a *ℤ pos c.args.b)
    (mixed_product c.args.a c.args.b c.ranges.a.fits c.ranges.b.fits).sfits in
    ap (λ low. signed (high_bits (signed c.args.a *ℤ pos c.args.b)) *ℤ pos (2 ^ 64) +ℤ pos low)
    (sym (low_mixed c.args.a c.args.b c.ranges.b.fits)) ∙ whole

pub returns-clause-unsigned : goal.returns-clause-unsigned
returns-clause-unsigned c =
    rw (low_signed c.args.a c.args.b c.ranges.a.fits c.ranges.b.fits)
    (joined_unsigned c.args.a c.args.b c.ranges.a.fits c.ranges.b.fits)

pub returns-clause-words : goal.returns-clause-words
returns-clause-words c = word_product c.args.a c.args.b
