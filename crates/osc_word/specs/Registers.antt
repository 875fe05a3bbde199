-- The integer registers: RISC-V Unprivileged manual, "Programmers' Model for Base Integer ISA".
-- Register x0 is hardwired with all bits equal to 0.
use Rattle.std.specs.Prelude.{ℕ, ◌==◌, List, slice_index, slice_set, if◌then◌else◌}

-- what a register holds
abbrev pub register : List ℕ → ℕ → ℕ
register regs number = if number == 0 then 0 else slice_index regs number

-- the registers once a register was written
abbrev pub with_register : List ℕ → ℕ → ℕ → List ℕ
with_register regs number value = if number == 0 then regs else slice_set regs number value
