-- What an atomic memory operation stores has its width.
use Rattle.std.proofs.Common.{◌≡◌}
use Rattle.osc_isa.specs.Atomic.{width_of}
use Rattle.osc_hart.proofs.Combined.{amo_within}
use Rattle.osc_hart.proofs.accesses.number_stored.Goals as goal

pub returns-in-Amo-clause-fits : goal.returns-in-Amo-clause-fits
returns-in-Amo-clause-fits c =
    let fits : c.args.width ≡ width_of c.in-Amo.width = rw c.in-Amo.is at c.requires.what in
    rw (c.amo.ensures, fits) (amo_within c.in-Amo.op c.in-Amo.width c.args.found c.in-Amo.operand)
