-- Small programs for the laws that compute. Registers: a0 is x10, a7 is x17, t0 is x5, t1 is x6, t2 is x7,
-- s0 is x8, s1 is x9 and s2 is x18.
use Rattle.std.specs.Prelude.{ℕ, ◌+◌, ◌-◌, true, false, List, [], ◌∷◌, ◌++◌, length, replicate, slice_get, slice_index, Option, Some}
use Rattle.std.specs.Option.{option_map, option_and_then}
use Rattle.std.specs.List.{flat_map}
use Rattle.byteorder.specs.Endian.{little_bytes}
use Rattle.osc_word.specs.declared.settings.Config.{Config}
use Rattle.osc_word.specs.declared.settings.HeapKind.TheVariants.{Oscar}
use Rattle.osc_word.specs.declared.steps.Choice.{Choice}
use Rattle.osc_word.specs.declared.steps.Choice.TheVariants.{Plain, Given, Refused, Started}
use Rattle.osc_word.specs.declared.steps.Event.{Event}
use Rattle.osc_rv.specs.declared.instr.Instr.{Instr}
use Rattle.osc_rv.specs.declared.instr.Instr.TheVariants as instr
use Rattle.osc_rv.specs.declared.instr.ImmOp.TheVariants.{Addi}
use Rattle.osc_rv.specs.declared.instr.RegOp.TheVariants.{Add}
use Rattle.osc_rv.specs.declared.instr.MulOp.TheVariants as mul_op
use Rattle.osc_rv.specs.declared.instr.BranchKind.TheVariants.{Bne}
use Rattle.osc_rv.specs.declared.instr.UpperOp.TheVariants.{Lui}
use Rattle.osc_rv.specs.declared.instr.LoadKind.TheVariants.{Lb, Ld}
use Rattle.osc_rv.specs.declared.instr.StoreKind.TheVariants.{Sb, Sd}
use Rattle.osc_rv.specs.declared.instr.Width.TheVariants.{D}
use Rattle.osc_rv.specs.Instr.{word_of}
use Rattle.osc_image.specs.Image.{Image}
use Rattle.osc_world.specs.declared.Value.{Value}
use Rattle.osc_world.specs.States.{status_of, first_state}
use Rattle.osc_world.specs.Run.{ObjectRun, begins, boot_with, object_run}
use Rattle.osc_world.specs.PlainWorld as plain
use Rattle.osc_world.specs.PlainRun.{plain_run, flat_of}

abbrev pub addi : ℕ → ℕ → ℕ → Instr
addi rd rs1 imm = instr.Imm Addi rd rs1 imm

abbrev pub add : ℕ → ℕ → ℕ → Instr
add rd rs1 rs2 = instr.Op Add rd rs1 rs2

abbrev pub ld : ℕ → ℕ → ℕ → Instr
ld rd rs1 imm = instr.Load Ld rd rs1 imm

abbrev pub sd : ℕ → ℕ → ℕ → Instr
sd rs2 rs1 imm = instr.Store Sd rs1 rs2 imm

-- a branch so many instructions further on
abbrev pub bne_over : ℕ → ℕ → ℕ → Instr
bne_over rs1 rs2 count = instr.Branch Bne rs1 rs2 (count + count)

abbrev pub call : ℕ → List Instr
call number = addi 17 0 number ∷ instr.Ecall ∷ []

-- an immediate of 12 bits that stands for a number below 0
abbrev pub minus : ℕ → ℕ
minus number = 4096 - number

-- the file's bytes of a program
abbrev pub code_of : List Instr → List ℕ
code_of program = flat_map (λ i. little_bytes 4 (word_of i)) program

-- a program at 0x10000, in pages that are read and executed
abbrev pub image_with : List ℕ → Image
image_with bytes =
    record {
      entry = 0x10000;
      segments =
          record { address = 0x10000; size = length bytes; bytes = bytes; readable = true; writable = false; executable = true }
          ∷ [];
    }

abbrev pub image_of_program : List Instr → Image
image_of_program program = image_with (code_of program)

abbrev pub config_of : ℕ → Config
config_of harts = record { heap = Oscar; harts = harts; processes = 16; frames = 1024; shadows = 65536; journal = 65536; levels = 3; batch = 1 }

abbrev pub event : ℕ → Choice → Event
event hart choice = record { hart = hart; choice = choice }

-- so many instructions of a hart that leave nothing open
abbrev pub steps : ℕ → ℕ → List Event
steps hart count = replicate count (event hart Plain)

-- a call of a hart, with its choice, after the instruction that sets its number
abbrev pub chooses : ℕ → Choice → List Event
chooses hart choice = event hart Plain ∷ event hart choice ∷ []

-- the object run of a program of one page
abbrev pub run_of : ℕ → List Instr → List Event → ObjectRun
run_of harts program events = object_run (begins (boot_with (image_of_program program) (16 ∷ []) harts)) events

-- the plain run of a program, in a machine of 1024 frames
abbrev pub plain_run_over : ℕ → List Instr → List Event → Option plain.Plain
plain_run_over harts program events =
    plain_run (Some (first_state (λ n. n) (flat_of (image_of_program program) 1024) 0x10000 (harts - 1))) events

abbrev pub plain_register : Option plain.Plain → ℕ → Option ℕ
plain_register state number =
    option_and_then (λ now. option_map (λ hart. slice_index hart.regs number) (slice_get now.harts 0)) state

abbrev pub plain_status : Option plain.Plain → Option ℕ
plain_status state = option_and_then (λ now. status_of now) state

-- ---- objects

-- malloc of a size, its pointer in s0
abbrev pub code_of_malloc : ℕ → List Instr
code_of_malloc size = (addi 10 0 size ∷ call 3) ++ addi 8 10 0 ∷ []

abbrev pub malloc_events : List Event
malloc_events = steps 0 1 ++ chooses 0 Given ++ steps 0 1

-- free of what s0 points to
abbrev pub code_of_free : List Instr
code_of_free = addi 10 8 0 ∷ call 4

abbrev pub free_events : List Event
free_events = steps 0 3

-- malloc(24), a store of 9, a load, free, exit with the answer of free
abbrev pub stores_and_frees : List Instr
stores_and_frees = code_of_malloc 24 ++ (addi 5 0 9 ∷ sd 5 8 0 ∷ ld 6 8 0 ∷ []) ++ code_of_free ++ call 1

abbrev pub stores_and_frees_events : List Event
stores_and_frees_events = malloc_events ++ steps 0 3 ++ free_events ++ steps 0 2

-- malloc(0), and a load from it
abbrev pub loads_from_nothing : List Instr
loads_from_nothing = (addi 10 0 0 ∷ call 3) ++ (ld 5 10 0 ∷ addi 10 0 0 ∷ call 1)

-- malloc(24), free, and a load at offset 8
abbrev pub loads_after_free : List Instr
loads_after_free = code_of_malloc 24 ++ code_of_free ++ ld 6 8 8 ∷ []

-- malloc(24), free, free
abbrev pub frees_twice : List Instr
frees_twice = code_of_malloc 24 ++ code_of_free ++ code_of_free

-- malloc(24), free of the pointer plus 16
abbrev pub frees_inside : List Instr
frees_inside = code_of_malloc 24 ++ (addi 10 8 16 ∷ call 4)

-- malloc(24), and a store into its header
abbrev pub stores_before : List Instr
stores_before = code_of_malloc 24 ++ (addi 5 0 9 ∷ sd 5 8 (minus 8) ∷ [])

-- realloc of what s0 points to, its pointer in s0
abbrev pub code_of_realloc : ℕ → List Instr
code_of_realloc size = (addi 10 8 0 ∷ addi 11 0 size ∷ call 5) ++ addi 8 10 0 ∷ []

abbrev pub realloc_events : List Event
realloc_events = steps 0 2 ++ chooses 0 Given ++ steps 0 1

-- malloc(24), the pointer also in s1, a store of 9, realloc to 30 and to 10, and exit with what it holds
abbrev pub moves : List Instr
moves = code_of_malloc 24 ++ (addi 9 8 0 ∷ addi 5 0 9 ∷ sd 5 8 0 ∷ []) ++ code_of_realloc 30 ++ code_of_realloc 10 ++ (ld 10 8 0 ∷ call 1)

abbrev pub moves_events : List Event
moves_events = malloc_events ++ steps 0 3 ++ realloc_events ++ realloc_events ++ steps 0 3

-- the same, and a load through the first pointer
abbrev pub loads_after_move : List Instr
loads_after_move = code_of_malloc 24 ++ (addi 9 8 0 ∷ addi 5 0 9 ∷ sd 5 8 0 ∷ []) ++ code_of_realloc 30 ++ ld 6 9 0 ∷ []

-- malloc(24), a pointer stored in it, and a load of one byte of that
abbrev pub loads_a_part : List Instr
loads_a_part = code_of_malloc 24 ++ (sd 8 8 0 ∷ ld 9 8 0 ∷ instr.Load Lb 5 8 3 ∷ [])

-- 6 times 7, and exit with the product
abbrev pub multiplies : List Instr
multiplies = (addi 5 0 6 ∷ addi 6 0 7 ∷ instr.Mul mul_op.Mul 10 5 6 ∷ []) ++ call 1

-- malloc(24), and its pointer multiplied by 7
abbrev pub multiplies_pointer : List Instr
multiplies_pointer = code_of_malloc 24 ++ (addi 6 0 7 ∷ instr.Mul mul_op.Mul 5 8 6 ∷ [])

-- ---- harts and processes

-- malloc(8), load-reserved and twice store-conditional
abbrev pub reserves_once : List Instr
reserves_once = code_of_malloc 8 ++ (instr.Lr D 5 8 false false ∷ instr.Sc D 6 8 0 false false ∷ instr.Sc D 7 8 0 false false ∷ [])

-- malloc(8), a thread that stores there, a load-reserved and a store-conditional
abbrev pub reserves_beside : List Instr
reserves_beside =
    code_of_malloc 8 ++ (instr.Upper Lui 10 16 ∷ addi 10 10 48 ∷ addi 11 0 0 ∷ addi 12 8 0 ∷ call 7)
    ++ (instr.Lr D 5 8 false false ∷ instr.Sc D 6 8 0 false false ∷ sd 0 10 0 ∷ [])

-- up to the load-reserved
abbrev pub until_reserved : List Event
until_reserved = malloc_events ++ steps 0 4 ++ chooses 0 (Started 1) ++ steps 0 1

-- share(1) in s0; malloc(8) in s1, which holds 5; fork. The child stores 6 there and 7 in the region, and
-- exits with 6. The parent waits for it, adds both numbers to the answer, and exits with the sum.
abbrev pub shares_and_forks : List Instr
shares_and_forks =
    (addi 10 0 1 ∷ call 10) ++ (addi 8 10 0 ∷ addi 10 0 8 ∷ call 3)
    ++ (addi 9 10 0 ∷ addi 5 0 5 ∷ sd 5 9 0 ∷ call 6)
    ++ (bne_over 10 0 8 ∷ addi 5 0 6 ∷ sd 5 9 0 ∷ addi 5 0 7 ∷ sd 5 8 0 ∷ addi 10 0 6 ∷ call 1)
    ++ call 11 ++ (ld 5 9 0 ∷ ld 6 8 0 ∷ add 10 10 5 ∷ add 10 10 6 ∷ call 1)

-- up to the parent's wait, while the child has still to exit
abbrev pub before_the_exit : List Event
before_the_exit =
    steps 0 1 ++ chooses 0 Given ++ steps 0 2 ++ chooses 0 Given ++ steps 0 3 ++ chooses 0 (Started 1) ++ steps 0 1 ++ steps 1 7

abbrev pub shares_and_forks_events : List Event
shares_and_forks_events = before_the_exit ++ steps 1 1 ++ steps 0 8

-- ---- threads and output

-- a thread that adds 2 to its argument, 5, and leaves the sum; main joins it and exits with its value
abbrev pub spawns_and_joins : List Instr
spawns_and_joins =
    (instr.Upper Lui 10 16 ∷ addi 10 10 40 ∷ addi 11 0 0 ∷ addi 12 0 5 ∷ call 7) ++ call 8 ++ call 1
    ++ (addi 10 10 2 ∷ call 9)

-- main up to its join, and the thread but for its last call
abbrev pub before_thread_is_done : List Event
before_thread_is_done = steps 0 4 ++ chooses 0 (Started 1) ++ steps 0 1 ++ steps 1 2

abbrev pub until_thread_is_done : List Event
until_thread_is_done = before_thread_is_done ++ steps 1 1

-- malloc(24), bytes h and i, a write of both, free, and a write of no bytes of the dead object
abbrev pub writes_two_bytes : List Instr
writes_two_bytes =
    code_of_malloc 24 ++ (addi 5 0 104 ∷ instr.Store Sb 8 5 0 ∷ addi 5 0 105 ∷ instr.Store Sb 8 5 1 ∷ [])
    ++ (addi 10 8 0 ∷ addi 11 0 2 ∷ call 2) ++ code_of_free ++ (addi 10 8 0 ∷ addi 11 0 0 ∷ call 2)

abbrev pub writes_events : List Event
writes_events = malloc_events ++ steps 0 8 ++ free_events ++ steps 0 4

-- fork, spawn, join(9), wait(9) and share(0), where nothing is idle and nothing is there
abbrev pub asks_in_vain : List Instr
asks_in_vain =
    call 6 ++ (addi 18 10 0 ∷ call 7) ++ (addi 19 10 0 ∷ addi 10 0 9 ∷ call 8)
    ++ (addi 20 10 0 ∷ addi 10 0 9 ∷ call 11) ++ (addi 21 10 0 ∷ addi 10 0 0 ∷ call 10)

abbrev pub asks_in_vain_events : List Event
asks_in_vain_events =
    chooses 0 Refused ++ steps 0 1 ++ chooses 0 Refused ++ steps 0 4 ++ steps 0 4 ++ steps 0 2 ++ chooses 0 Refused

-- what a register of hart 0 holds after a run
abbrev pub register_after : ObjectRun → ℕ → Option Value
register_after run number = option_and_then (λ hart. slice_get hart.regs number) (slice_get run.world.harts 0)

abbrev pub plain_output : Option plain.Plain → Option (List ℕ)
plain_output state = option_map (λ now. now.output) state

-- ---- the plain heap

-- twice malloc(24), the pointers in s0 and s1, a store of 9 at offset 8 of the first, its free, and exit
-- with what stands there then
abbrev pub uses_after_free : List Instr
uses_after_free =
    code_of_malloc 24 ++ (addi 10 0 24 ∷ call 3) ++ (addi 9 10 0 ∷ addi 5 0 9 ∷ sd 5 8 8 ∷ []) ++ code_of_free ++ (ld 10 8 8 ∷ call 1)

-- its events but for the last one, the exit
abbrev pub events_before_exit : List Event
events_before_exit = malloc_events ++ steps 0 1 ++ chooses 0 Given ++ steps 0 3 ++ free_events ++ steps 0 2
