-- A sum of two numbers of one width, after it was cut to 64 bits or not.
use Rattle.std.proofs.Common.{◌≡◌, ℕ, ◌%◌, arith}
use Rattle.osc_rv.specs.declared.instr.Width.{Width}
use Rattle.osc_rv.specs.declared.instr.Width.TheVariants.{W, D}
use Rattle.osc_isa.specs.Atomic.{narrowed}

pub low_wrapped : (width : Width) (number : ℕ) → narrowed width (number % 18446744073709551616) ≡ narrowed width number
low_wrapped W number = omega arith
low_wrapped D number = omega arith
