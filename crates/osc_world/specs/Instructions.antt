-- What an instruction that is no call does in a world, or the first error that it meets. RISC-V
-- Unprivileged manual, "RV64I Base Integer Instruction Set" and "A Extension for Atomic Instructions"; what
-- it does with pointers is this project's own. Errors are looked for in this order: what traps whatever
-- memory holds; an operand in a register; where the access goes; what stands there; an operand from memory;
-- a pointer into a shared region.
use Rattle.std.specs.Prelude.{ℕ, ◌%◌, ◌==◌, Bool, true, false, ◌&&◌, if◌then◌else◌, List, Option, Some, None, ok_or, Result, Ok, Err}
use Rattle.osc_sv39.specs.declared.entries.Access.TheVariants as access
use Rattle.osc_rv.specs.declared.instr.LoadKind.{LoadKind}
use Rattle.osc_rv.specs.declared.instr.AmoOp.{AmoOp}
use Rattle.osc_rv.specs.declared.instr.Width.{Width}
use Rattle.osc_rv.specs.declared.instr.Width.TheVariants.{W, D}
use Rattle.osc_isa.specs.Integer.{next, load_width, loaded, without_bit_0}
use Rattle.osc_isa.specs.Atomic.{width_of, widened, sc_success, sc_failure}
use Rattle.osc_world.specs.declared.Value.{Value}
use Rattle.osc_world.specs.declared.Value.TheVariants.{Num, Ptr}
use Rattle.osc_world.specs.declared.ObjectWhy.{ObjectWhy}
use Rattle.osc_world.specs.declared.ObjectWhy.TheVariants.{Trap, PointerUse}
use Rattle.osc_world.specs.declared.Place.{Place}
use Rattle.osc_world.specs.declared.Reservation.{Reservation}
use Rattle.osc_world.specs.States.{value_in}
use Rattle.osc_world.specs.Deeds.{Steps, sets}
use Rattle.osc_world.specs.Offers.{Meaning, Goes, Errs, Unfit, Conditional, then_try, provided}
use Rattle.osc_world.specs.World.{WorldTurn, WorldPut, WorldStep, WorldDeed, WorldOffer, Object}
use Rattle.osc_world.specs.Operations.{is_amo_operand, amo_value}
use Rattle.osc_world.specs.Accesses.{aimed, is_same_place, value_at, puts, is_storable}

abbrev pub register_of : WorldTurn → ℕ → Value
register_of turn number = value_in (Num 0) turn.hart.regs number

abbrev pub objects_of : WorldTurn → List Object
objects_of turn = turn.process.memory.objects

-- ---- registers and jumps

-- a register gets a value, if there is one
abbrev pub sets_if : WorldTurn → ℕ → Option Value → Result WorldStep ObjectWhy
sets_if turn rd None = Err PointerUse
sets_if turn rd (Some value) = Ok (sets turn rd value)

-- no register is set
abbrev pub passes : WorldTurn → WorldStep
passes turn = sets turn 0 (Num 0)

-- a step that goes on at a target, which has to be divisible by 4
abbrev pub goes_to : ℕ → WorldStep → Result WorldStep ObjectWhy
goes_to target step = provided (target % 4 == 0) Trap (Ok (record step { pc = target }))

-- a jump, which leaves the address to come back to in a register
abbrev pub jumps : WorldTurn → ℕ → ℕ → Result WorldStep ObjectWhy
jumps turn rd target = goes_to target (sets turn rd (Num (next turn.hart.pc)))

-- a jump to a value; there is no code in objects
abbrev pub jumps_by : WorldTurn → ℕ → Value → Result WorldStep ObjectWhy
jumps_by turn rd (Num address) = jumps turn rd (without_bit_0 address)
jumps_by turn rd (Ptr object offset) = Err PointerUse

-- a branch; one that is not taken may have any target
abbrev pub branches : WorldTurn → ℕ → Option Bool → Result WorldStep ObjectWhy
branches turn target None = Err PointerUse
branches turn target (Some taken) = if taken then goes_to target (passes turn) else Ok (passes turn)

-- ---- loads and stores

-- what a load puts into its register for the value in its bytes; a pointer comes from all eight alone
abbrev pub loaded_value : LoadKind → Value → Value
loaded_value kind (Num number) = Num (loaded kind number)
loaded_value kind (Ptr object offset) = Ptr object offset

-- a load
abbrev pub load_step : WorldTurn → LoadKind → ℕ → Value → Result WorldStep ObjectWhy
load_step turn kind rd address =
    then_try (aimed turn access.Load (load_width kind) address true) (λ at.
    then_try (value_at turn at (load_width kind)) (λ value.
    Ok (sets turn rd (loaded_value kind value))))

-- a step after the store of a value
abbrev pub after_put : Place → ℕ → Value → WorldStep → Result WorldStep ObjectWhy
after_put at width value step = then_try (puts at width value) (λ put. Ok (record step { put = Some put }))

-- a store
abbrev pub store_step : WorldTurn → ℕ → Value → Value → Result WorldStep ObjectWhy
store_step turn width address value =
    then_try (aimed turn access.Store width address (is_storable width value)) (λ at.
    after_put at width value (passes turn))

-- ---- atomics

-- what an atomic instruction puts into its register for the value that it read
abbrev pub widened_value : Width → Value → Value
widened_value width (Num number) = Num (widened width number)
widened_value width (Ptr object offset) = Ptr object offset

-- an atomic memory operation: a load, then a store of what it makes of both
abbrev pub amo_step : WorldTurn → AmoOp → Width → ℕ → Value → Value → Result WorldStep ObjectWhy
amo_step turn op width rd address operand =
    then_try (aimed turn access.Store (width_of width) address (is_amo_operand op width operand)) (λ at.
    then_try (value_at turn at (width_of width)) (λ old.
    then_try (ok_or (amo_value op width old operand) PointerUse) (λ value.
    after_put at (width_of width) value (sets turn rd (widened_value width old)))))

-- a load-reserved
abbrev pub reserve_step : WorldTurn → Width → ℕ → Value → Result WorldStep ObjectWhy
reserve_step turn width rd address =
    then_try (aimed turn access.Load (width_of width) address true) (λ at.
    then_try (value_at turn at (width_of width)) (λ value.
    Ok (record (sets turn rd (widened_value width value)) { reservation = Some (record { place = at; width = width }) })))

abbrev pub is_width : Width → Width → Bool
is_width W W = true
is_width D D = true
is_width _ _ = false

-- whether the last load-reserved of the hart was here, with this width, and nothing came between
abbrev pub holds_reservation : Option Reservation → Place → Width → Bool
holds_reservation None at width = false
holds_reservation (Some reservation) at width =
    is_same_place reservation.place at && is_width reservation.width width

-- a store-conditional leaves no reservation
abbrev pub conditional_step : WorldTurn → ℕ → ℕ → WorldStep
conditional_step turn rd answer = record (sets turn rd (Num answer)) { reservation = None }

-- a success stores, and fits only where the hart's reservation is still there; a pointer that would go into
-- a shared region is an error before that
abbrev pub succeeds : WorldTurn → ℕ → Bool → Result WorldPut ObjectWhy → Meaning WorldDeed ObjectWhy
succeeds turn rd reserved (Err why) = Errs why
succeeds turn rd reserved (Ok put) =
    if reserved then Goes (Steps (record (conditional_step turn rd sc_success) { put = Some put })) else Unfit

-- a store-conditional; a failure always fits
abbrev pub conditional : WorldTurn → Width → ℕ → Value → Value → Result WorldOffer ObjectWhy
conditional turn width rd address value =
    then_try (aimed turn access.Store (width_of width) address (is_storable (width_of width) value)) (λ at.
    Ok (Conditional
    (succeeds turn rd (holds_reservation turn.hart.reservation at width) (puts at (width_of width) value))
    (Steps (conditional_step turn rd sc_failure))))
