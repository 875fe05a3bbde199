-- The environment calls: which call a number names, and the numbers that all layers share. This
-- project's own.
use Rattle.std.specs.Prelude.{ℕ, ◌-◌, ◌^◌, ◌==◌, if◌then◌else◌, List}
use Rattle.osc_word.specs.declared.calls.Call.{Call}
use Rattle.osc_word.specs.declared.calls.Call.TheVariants.{Exit, Write, Malloc, Free, Realloc, Fork, Spawn, Join, Done, Share, Wait, Unknown}
use Rattle.osc_word.specs.Registers.{register}

-- -1, which is what many refusals answer
abbrev pub minus_one : ℕ
minus_one = 2 ^ 64 - 1

-- the bytes that the output of all processes holds: 4 MiB
abbrev pub output_limit : ℕ
output_limit = 4194304

-- the threads that are ever spawned
abbrev pub thread_limit : ℕ
thread_limit = 4096

-- the status of a process that ended by a fault
abbrev pub fault_status : ℕ
fault_status = 70

-- the register a0, in which the answer comes
abbrev pub answer_register : ℕ
answer_register = 10

-- the call of a number, with its arguments
abbrev pub call_numbered : ℕ → ℕ → ℕ → ℕ → Call
call_numbered number a0 a1 a2 =
    if number == 1 then Exit a0
    else if number == 2 then Write a0 a1
    else if number == 3 then Malloc a0
    else if number == 4 then Free a0
    else if number == 5 then Realloc a0 a1
    else if number == 6 then Fork
    else if number == 7 then Spawn a0 a1 a2
    else if number == 8 then Join a0
    else if number == 9 then Done a0
    else if number == 10 then Share a0
    else if number == 11 then Wait a0
    else Unknown number

-- the call of an ecall: the number stands in a7, and the arguments in a0, a1 and a2, which are the
-- registers x17, x10, x11 and x12
unfoldable pub call_of : List ℕ → Call
call_of regs = call_numbered (register regs 17) (register regs 10) (register regs 11) (register regs 12)
