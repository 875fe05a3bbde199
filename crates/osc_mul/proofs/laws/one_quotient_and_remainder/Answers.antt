use Rattle.osc_mul.proofs.Unique.{unique}
use Rattle.osc_mul.proofs.laws.one_quotient_and_remainder.Goals as goal

pub returns : goal.returns
returns c = unique
