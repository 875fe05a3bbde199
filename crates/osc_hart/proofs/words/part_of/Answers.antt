-- A byte has eight bits.
use Rattle.std.proofs.Common.{◌%◌, refl}
use Rattle.osc_hart.proofs.Powers.{pow_of_pow}
use Rattle.osc_hart.proofs.words.part_of.Goals as goal

pub returns : goal.returns
returns c = rw (c.low_bytes.ensures, c.bits_below.ensures, pow_of_pow 8 (c.args.address % 8)) refl
