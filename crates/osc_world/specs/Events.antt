-- What an event of a world means, and when it fits. RISC-V Unprivileged manual for the instructions; events
-- are this project's own.
use Rattle.std.specs.Prelude.{◌+◌, ◌*◌, Bool, true, false, Option, Some, None, Result, Ok, Err}
use Rattle.osc_word.specs.declared.steps.Choice.{Choice}
use Rattle.osc_word.specs.declared.steps.Event.{Event}
use Rattle.osc_sv39.specs.declared.entries.Access.TheVariants as access
use Rattle.osc_rv.specs.declared.instr.Instr.{Instr}
use Rattle.osc_rv.specs.declared.instr.Instr.TheVariants as instr
use Rattle.osc_rv.specs.declared.instr.UpperOp.TheVariants.{Lui, Auipc}
use Rattle.osc_rv.specs.Instr.{instr_of}
use Rattle.osc_isa.specs.Numbers.{wrapped, extended}
use Rattle.osc_isa.specs.Integer.{op_of_shift, op_of_shift_w, store_width}
use Rattle.osc_world.specs.declared.Value.{Value}
use Rattle.osc_world.specs.declared.Value.TheVariants.{Num, Ptr}
use Rattle.osc_world.specs.declared.ObjectWhy.{ObjectWhy}
use Rattle.osc_world.specs.declared.ObjectWhy.TheVariants.{Trap}
use Rattle.osc_world.specs.Values.{advanced}
use Rattle.osc_world.specs.States.{turn_of}
use Rattle.osc_world.specs.Deeds.{Steps, sets, state_after}
use Rattle.osc_world.specs.Offers.{Meaning, Goes, Errs, Unfit, Only, chosen, then_try}
use Rattle.osc_world.specs.World.{World, WorldTurn, WorldStep, WorldDeed, WorldOffer}
use Rattle.osc_world.specs.Operations.{operated, operated_imm, multiplied, is_taken_for}
use Rattle.osc_world.specs.Accesses.{aimed, value_at}
use Rattle.osc_world.specs.Instructions.{register_of, objects_of, sets_if, passes, jumps, jumps_by, branches, load_step, store_step, amo_step, reserve_step, conditional}
use Rattle.osc_world.specs.Calls.{calls, world_kind}

-- a step that leaves nothing to choose
abbrev pub only_step : Result WorldStep ObjectWhy → Result WorldOffer ObjectWhy
only_step step = then_try step (λ s. Ok (Only (Steps s)))

-- what an instruction does, up to what it leaves to choose, or the first error that it meets
unfoldable pub offered : WorldTurn → Instr → Result WorldOffer ObjectWhy
offered turn (instr.Upper Lui rd imm) = only_step (Ok (sets turn rd (Num (extended 32 (imm * 4096)))))
offered turn (instr.Upper Auipc rd imm) =
    only_step (Ok (sets turn rd (Num (wrapped (turn.hart.pc + extended 32 (imm * 4096))))))
offered turn (instr.Jal rd half) = only_step (jumps turn rd (wrapped (turn.hart.pc + extended 21 (half * 2))))
offered turn (instr.Jalr rd rs1 imm) = only_step (jumps_by turn rd (advanced (register_of turn rs1) (extended 12 imm)))
offered turn (instr.Branch kind rs1 rs2 half) =
    only_step (branches turn (wrapped (turn.hart.pc + extended 13 (half * 2)))
    (is_taken_for (objects_of turn) kind (register_of turn rs1) (register_of turn rs2)))
offered turn (instr.Load kind rd rs1 imm) =
    only_step (load_step turn kind rd (advanced (register_of turn rs1) (extended 12 imm)))
offered turn (instr.Store kind rs1 rs2 imm) =
    only_step (store_step turn (store_width kind) (advanced (register_of turn rs1) (extended 12 imm)) (register_of turn rs2))
offered turn (instr.Imm op rd rs1 imm) =
    only_step (sets_if turn rd (operated_imm (objects_of turn) op (register_of turn rs1) (extended 12 imm)))
offered turn (instr.Shift op rd rs1 amount) =
    only_step (sets_if turn rd (operated (objects_of turn) (op_of_shift op) (register_of turn rs1) (Num amount)))
offered turn (instr.ShiftW op rd rs1 amount) =
    only_step (sets_if turn rd (operated (objects_of turn) (op_of_shift_w op) (register_of turn rs1) (Num amount)))
offered turn (instr.Op op rd rs1 rs2) =
    only_step (sets_if turn rd (operated (objects_of turn) op (register_of turn rs1) (register_of turn rs2)))
offered turn (instr.Mul op rd rs1 rs2) =
    only_step (sets_if turn rd (multiplied op (register_of turn rs1) (register_of turn rs2)))
offered turn (instr.Fence bits) = only_step (Ok (passes turn))
offered turn (instr.FenceI bits) = only_step (Ok (passes turn))
offered turn instr.Ecall = calls turn
offered turn instr.Ebreak = Err Trap
offered turn (instr.Amo op width rd rs1 rs2 aq rl) =
    only_step (amo_step turn op width rd (register_of turn rs1) (register_of turn rs2))
offered turn (instr.Lr width rd rs1 aq rl) = only_step (reserve_step turn width rd (register_of turn rs1))
offered turn (instr.Sc width rd rs1 rs2 aq rl) =
    conditional turn width rd (register_of turn rs1) (register_of turn rs2)

-- ---- what a choice makes of it

abbrev pub meaning_of : WorldTurn → Meaning WorldDeed ObjectWhy → Meaning World ObjectWhy
meaning_of turn (Goes deed) = Goes (state_after world_kind turn deed)
meaning_of turn (Errs why) = Errs why
meaning_of turn Unfit = Unfit

-- an error fits every choice
abbrev pub meaning_by : WorldTurn → Choice → Result WorldOffer ObjectWhy → Meaning World ObjectWhy
meaning_by turn c (Ok offer) = meaning_of turn (chosen turn.state.harts offer c)
meaning_by turn c (Err why) = Errs why

-- an instruction
abbrev pub does : WorldTurn → Choice → Instr → Meaning World ObjectWhy
does turn c i = meaning_by turn c (offered turn i)

-- the instruction is no store-conditional
abbrev pub IsNoConditional : Instr → Type 0
IsNoConditional (instr.Sc width rd rs1 rs2 aq rl) = ⊥
IsNoConditional _ = Unit {0}

-- the instruction is neither a store-conditional nor a call
abbrev pub LeavesNothingOpen : Instr → Type 0
LeavesNothingOpen (instr.Sc width rd rs1 rs2 aq rl) = ⊥
LeavesNothingOpen instr.Ecall = ⊥
LeavesNothingOpen _ = Unit {0}

-- ---- events

-- the word of no instruction, and a pc from which nothing can be fetched, are a trap
abbrev pub does_if : WorldTurn → Choice → Option Instr → Meaning World ObjectWhy
does_if turn c None = Errs Trap
does_if turn c (Some i) = does turn c i

abbrev pub instr_in : Result Value ObjectWhy → Option Instr
instr_in (Ok (Num word)) = instr_of word
instr_in (Ok (Ptr object offset)) = None
instr_in (Err why) = None

-- the instruction at the hart's pc, which has to be divisible by 4
unfoldable pub instr_at : WorldTurn → Option Instr
instr_at turn = instr_in (then_try (aimed turn access.Fetch 4 (Num turn.hart.pc) true) (λ at. value_at turn at 4))

abbrev pub meaning_in : Choice → Option WorldTurn → Meaning World ObjectWhy
meaning_in c None = Unfit
meaning_in c (Some turn) = does_if turn c (instr_at turn)

-- what an event means; one of a hart that runs no thread does not fit
unfoldable pub meaning : World → Event → Meaning World ObjectWhy
meaning world event = meaning_in event.choice (turn_of world event.hart)

-- an event fits where its hart runs a thread, its choice is one of the instruction's, and a join or wait
-- looks at something that has ended or is unknown; and where it errs
abbrev pub is_meaning : {D E : Type 0} → Meaning D E → Bool
is_meaning (Goes next) = true
is_meaning (Errs why) = true
is_meaning Unfit = false

abbrev pub fits : World → Event → Bool
fits world event = is_meaning (meaning world event)
