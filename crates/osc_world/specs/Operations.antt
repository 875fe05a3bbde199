-- What an operation gives for values. Numbers are those of the RISC-V Unprivileged manual, "RV64I Base
-- Integer Instruction Set", "M Standard Extension for Integer Multiplication and Division" and "A Extension
-- for Atomic Instructions"; the rows with pointers are this project's own, and there are no others. None: a
-- pointer is used where no row allows it.
use Rattle.std.specs.Prelude.{ℕ, ◌+◌, Bool, true, false, not, ◌&&◌, ◌==◌, nat_lt, nat_le, if◌then◌else◌, List, length, slice_get, Option, Some, None, bit_and}
use Rattle.std.specs.Option.{option_map}
use Rattle.osc_rv.specs.declared.instr.RegOp.{RegOp}
use Rattle.osc_rv.specs.declared.instr.RegOp.TheVariants.{Add, Sub, Sltu}
use Rattle.osc_rv.specs.declared.instr.ImmOp.{ImmOp}
use Rattle.osc_rv.specs.declared.instr.ImmOp.TheVariants.{Addi, Sltiu, Andi}
use Rattle.osc_rv.specs.declared.instr.BranchKind.{BranchKind}
use Rattle.osc_rv.specs.declared.instr.BranchKind.TheVariants.{Beq, Bne, Bltu, Bgeu}
use Rattle.osc_rv.specs.declared.instr.MulOp.{MulOp}
use Rattle.osc_rv.specs.declared.instr.AmoOp.{AmoOp}
use Rattle.osc_rv.specs.declared.instr.AmoOp.TheVariants.{Swap}
use Rattle.osc_rv.specs.declared.instr.Width.{Width}
use Rattle.osc_rv.specs.declared.instr.Width.TheVariants.{D}
use Rattle.osc_isa.specs.Numbers.{wrapped, one_if}
use Rattle.osc_isa.specs.Integer.{operate, op_of_imm, is_taken}
use Rattle.osc_isa.specs.Multiply.{muldiv}
use Rattle.osc_isa.specs.Atomic.{amo_of}
use Rattle.osc_world.specs.declared.Value.{Value}
use Rattle.osc_world.specs.declared.Value.TheVariants.{Num, Ptr}
use Rattle.osc_world.specs.World.{Object, Live, Dead, object_size}

abbrev pub is_offset_of : ℕ → Option Object → Bool
is_offset_of offset None = false
is_offset_of offset (Some object) = nat_le offset (object_size object)

abbrev pub is_offset_of_live : ℕ → Option Object → Bool
is_offset_of_live offset (Some (Live bytes)) = nat_le offset (length bytes)
is_offset_of_live offset (Some (Dead size)) = false
is_offset_of_live offset None = false

-- the offset is from 0 to the object's size, whether it lives or not
abbrev pub has_offset : List Object → ℕ → ℕ → Bool
has_offset objects object offset = is_offset_of offset (slice_get objects object)

-- the object lives, and the offset is from 0 to its size
abbrev pub has_live_offset : List Object → ℕ → ℕ → Bool
has_live_offset objects object offset = is_offset_of_live offset (slice_get objects object)

abbrev pub only_if : {T : Type 0} → Bool → T → Option T
only_if test value = if test then Some value else None

-- whether two values are equal: pointers to one object by their offsets; pointers to two live objects are
-- different, and so are a pointer and 0, as long as no offset is past its object's end
abbrev pub are_equal : List Object → Value → Value → Option Bool
are_equal objects (Num a) (Num b) = Some (a == b)
are_equal objects (Ptr o k) (Ptr q j) =
    if o == q then Some (k == j) else only_if (has_live_offset objects o k && has_live_offset objects q j) false
are_equal objects (Ptr o k) (Num b) = only_if (b == 0 && has_offset objects o k) false
are_equal objects (Num a) (Ptr q j) = only_if (a == 0 && has_offset objects q j) false

-- whether a pointer is below another to the same object, both from the object's start to its end
abbrev pub is_below : List Object → ℕ → ℕ → ℕ → ℕ → Option Bool
is_below objects o k q j =
    only_if ((o == q) && (has_offset objects o k && has_offset objects o j)) (nat_lt k j)

abbrev pub number_if : Bool → Value
number_if test = Num (one_if test)

-- what an operation gives for two registers
abbrev pub operated : List Object → RegOp → Value → Value → Option Value
operated objects op (Num a) (Num b) = Some (Num (operate op a b))
operated objects Add (Ptr o k) (Num b) = Some (Ptr o (wrapped (k + b)))
operated objects Add (Num a) (Ptr q j) = Some (Ptr q (wrapped (a + j)))
operated objects Sub (Ptr o k) (Num b) = Some (Ptr o (operate Sub k b))
operated objects Sub (Ptr o k) (Ptr q j) = only_if (o == q) (Num (operate Sub k j))
operated objects Sltu (Num a) (Ptr q j) = only_if (a == 0 && has_offset objects q j) (number_if true)
operated objects Sltu (Ptr o k) (Ptr q j) = option_map number_if (is_below objects o k q j)
operated objects _ _ _ = None

-- what an operation gives for a register and an immediate
abbrev pub operated_imm : List Object → ImmOp → Value → ℕ → Option Value
operated_imm objects op (Num a) imm = Some (Num (operate (op_of_imm op) a imm))
operated_imm objects Addi (Ptr o k) imm = Some (Ptr o (wrapped (k + imm)))
operated_imm objects Andi (Ptr o k) imm = only_if (nat_lt imm 16) (Num (bit_and k imm))
operated_imm objects Sltiu (Ptr o k) imm = only_if (imm == 1 && has_offset objects o k) (number_if false)
operated_imm objects _ _ _ = None

-- what a multiplication or division gives: numbers alone
abbrev pub multiplied : MulOp → Value → Value → Option Value
multiplied op (Num a) (Num b) = Some (Num (muldiv op a b))
multiplied op _ _ = None

-- whether a branch is taken
abbrev pub is_taken_for : List Object → BranchKind → Value → Value → Option Bool
is_taken_for objects kind (Num a) (Num b) = Some (is_taken kind a b)
is_taken_for objects Beq v w = are_equal objects v w
is_taken_for objects Bne v w = option_map not (are_equal objects v w)
is_taken_for objects Bltu (Ptr o k) (Ptr q j) = is_below objects o k q j
is_taken_for objects Bgeu (Ptr o k) (Ptr q j) = option_map not (is_below objects o k q j)
is_taken_for objects _ _ _ = None

-- whether the register of an atomic memory operation may hold this value
abbrev pub is_amo_operand : AmoOp → Width → Value → Bool
is_amo_operand op width (Num b) = true
is_amo_operand Swap D (Ptr q j) = true
is_amo_operand _ _ _ = false

-- what an atomic memory operation stores, by what was in memory and what the register holds
abbrev pub amo_value : AmoOp → Width → Value → Value → Option Value
amo_value op width (Num a) (Num b) = Some (Num (amo_of op width a b))
amo_value Swap D v w = Some w
amo_value _ _ _ _ = None
