-- What an atomic memory operation stores has its width.
use Rattle.std.proofs.Common.{ℕ, ◌^◌, ◌<◌, Bool, true, false, cond, arith}
use Rattle.std.proofs.lemmas.Nat.{or_lt, xor_lt, and_le_l}
use Rattle.osc_rv.specs.declared.instr.AmoOp.{AmoOp}
use Rattle.osc_rv.specs.declared.instr.AmoOp.TheVariants.{Add, Swap, Xor, Or, And, Min, Max, Minu, Maxu}
use Rattle.osc_rv.specs.declared.instr.Width.{Width}
use Rattle.osc_rv.specs.declared.instr.Width.TheVariants.{W, D}
use Rattle.osc_isa.specs.Atomic.{width_of, narrowed, combined, amo_of}

bits_of : Width → ℕ
bits_of W = 32
bits_of D = 64

narrow : (width : Width) (number : ℕ) → narrowed width number < 2 ^ bits_of width
unfolding bits_of
narrow W number = omega arith
narrow D number = omega arith

either : (test : Bool) (a b most : ℕ) → a < most → b < most → cond test a b < most
either true a b most p q = p
either false a b most p q = q

within : (op : AmoOp) (width : Width) (a b : ℕ) → a < 2 ^ bits_of width → b < 2 ^ bits_of width → combined op width a b < 2 ^ bits_of width
within Add width a b p q = narrow width _
within Swap width a b p q = q
within Xor width a b p q = xor_lt (bits_of width) a b p q
within Or width a b p q = or_lt (bits_of width) a b p q
within And width a b p q = omega (arith, and_le_l a b)
within Min width a b p q = either _ b a _ q p
within Max width a b p q = either _ b a _ q p
within Minu width a b p q = either _ b a _ q p
within Maxu width a b p q = either _ b a _ q p

-- 256 to the bytes is 2 to the bits
pub amo_within : (op : AmoOp) (width : Width) (old operand : ℕ) → amo_of op width old operand < 256 ^ width_of width
unfolding bits_of
amo_within op W old operand = within op W _ _ (narrow W old) (narrow W operand)
amo_within op D old operand = within op D _ _ (narrow D old) (narrow D operand)
