-- Why an instruction traps before it touches memory: RISC-V Privileged manual, "Machine Cause Register".
-- A load or a store whose address is not divisible by its width always traps, which is this project's
-- own choice of the two that the Unprivileged manual allows.
use Rattle.std.specs.Prelude.{ℕ, ◌%◌, ◌==◌, if◌then◌else◌, Option, Some, None}
use Rattle.osc_isa.specs.declared.IntDone.{IntDone}
use Rattle.osc_isa.specs.declared.IntDone.TheVariants.{Set, Go, Load, Store, Atomic, Call, Break, BadTarget}
use Rattle.osc_isa.specs.Integer.{load_width}

pub record Trap : Type 0 where
  pub cause : ℕ
  pub address : ℕ

abbrev pub misaligned_target : ℕ
misaligned_target = 0

abbrev pub illegal_instruction : ℕ
illegal_instruction = 2

abbrev pub breakpoint : ℕ
breakpoint = 3

abbrev pub misaligned_load : ℕ
misaligned_load = 4

abbrev pub misaligned_store : ℕ
misaligned_store = 6

abbrev pub unless_aligned : ℕ → ℕ → ℕ → Option Trap
unless_aligned cause width address =
    if address % width == 0 then None else Some (record { cause = cause; address = address })

-- the trap of the word of no instruction, at pc
abbrev pub illegal_at : ℕ → Trap
illegal_at pc = record { cause = illegal_instruction; address = pc }

-- the trap of the instruction at pc, if it has one; that of an atomic instruction goes by its width
abbrev pub trap_of : IntDone → ℕ → Option Trap
trap_of (Set rd value target) pc = None
trap_of (Go target) pc = None
trap_of (Load rd kind address) pc = unless_aligned misaligned_load (load_width kind) address
trap_of (Store width address value) pc = unless_aligned misaligned_store width address
trap_of (Atomic address operand) pc = None
trap_of Call pc = None
trap_of Break pc = Some (record { cause = breakpoint; address = pc })
trap_of (BadTarget target) pc = Some (record { cause = misaligned_target; address = target })
