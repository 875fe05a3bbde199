-- How lui and addi put a number into a register: RISC-V Unprivileged manual, "Integer
-- Register-Immediate Instructions", and RISC-V ELF psABI, "Absolute Addresses", for the two parts of
-- the number. addi extends its part by the sign, so the part of lui is rounded up where bit 11 is set.
use Rattle.std.specs.Prelude.{◌≡◌, ℕ, ◌+◌, ◌/◌, ◌%◌, ◌<◌, List, length}
use Rattle.osc_rv.specs.declared.instr.Instr.{Instr}
use Rattle.osc_rv.specs.declared.instr.Instr.TheVariants.{Upper, Imm}
use Rattle.osc_rv.specs.declared.instr.UpperOp.TheVariants.{Lui}
use Rattle.osc_rv.specs.declared.instr.ImmOp.TheVariants.{Addi}
use Rattle.osc_word.specs.Registers.{with_register}
use Rattle.osc_isa.specs.declared.IntDone.{IntDone}
use Rattle.osc_isa.specs.declared.IntDone.TheVariants as done
use Rattle.osc_isa.specs.Integer.{done_of}

-- %hi, of 20 bits, and %lo, of 12
abbrev pub high_part : ℕ → ℕ
high_part number = (number + 2048) / 4096 % 1048576

abbrev pub low_part : ℕ → ℕ
low_part number = number % 4096

abbrev pub lui_of : ℕ → ℕ → Instr
lui_of rd number = Upper Lui rd (high_part number)

abbrev pub addi_of : ℕ → ℕ → Instr
addi_of rd number = Imm Addi rd rd (low_part number)

-- the registers after an instruction that sets at most one
abbrev pub registers_after : IntDone → List ℕ → List ℕ
registers_after (done.Set rd value pc) regs = with_register regs rd value
registers_after done regs = regs

-- the registers after lui and addi, the first of them at pc
abbrev pub after_both : ℕ → ℕ → List ℕ → ℕ → List ℕ
after_both rd number regs pc =
    let regs_between = registers_after (done_of (lui_of rd number) regs pc) regs in
    registers_after (done_of (addi_of rd number) regs_between (pc + 4)) regs_between

-- lui and addi leave the number in a register other than x0, and change no other register
abbrev pub Loads : ℕ → ℕ → Type 0
Loads rd number =
    (regs : List ℕ) (pc : ℕ) → length regs ≡ 32 → 0 < rd → rd < 32
    → after_both rd number regs pc ≡ with_register regs rd number
