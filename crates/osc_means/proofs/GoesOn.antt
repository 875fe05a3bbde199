-- The plain run is stuck exactly where a call that is given memory has no place for it.
use Rattle.std.proofs.Common.{ℕ, ◌≡◌, ◌==◌, ◌+◌, ◌*◌, ◌%◌, Bool, true, false, cond, not, ◌||◌, List, [], ◌∷◌, ◌++◌, Option, Some, None, is_some, arith, refl, ap, sym, ◌∙◌, length, slice_get}
use Rattle.std.proofs.lemmas.Bool.Decides.{nat_tests}
use Rattle.std.specs.Prelude.{nat_lt, nat_le}
use Rattle.osc_word.specs.AddressMap.{first_shared_page, first_shadow_page}
use Rattle.osc_word.specs.Environment.{call_of}
use Rattle.osc_word.specs.declared.calls.Call.{Call}
use Rattle.osc_word.specs.declared.calls.Call.TheVariants as calls
use Rattle.osc_word.specs.declared.steps.Choice.{Choice}
use Rattle.osc_word.specs.declared.steps.Choice.TheVariants as choice
use Rattle.osc_word.specs.declared.steps.Event.{Event}
use Rattle.osc_word.specs.declared.settings.Config.{Config}
use Rattle.osc_class.specs.Rooms.{room_of}
use Rattle.osc_slot.specs.declared.Block.{Block}
use Rattle.osc_slot.specs.Slots.{is_room}
use Rattle.osc_slot.specs.Heap.{block_of_user}
use Rattle.osc_rv.specs.declared.instr.Instr.{Instr}
use Rattle.osc_rv.specs.declared.instr.Instr.TheVariants as instr
use Rattle.osc_isa.specs.declared.IntDone.{IntDone}
use Rattle.osc_isa.specs.declared.IntDone.TheVariants as done
use Rattle.osc_rv.specs.declared.instr.UpperOp.TheVariants.{Lui, Auipc}
use Rattle.osc_word.specs.Registers.{register}
use Rattle.osc_isa.specs.Numbers.{wrapped, extended}
use Rattle.osc_isa.specs.Integer.{next, done_of, is_taken, jumped, branched, without_bit_0, offset_from}
use Rattle.osc_isa.specs.Traps.{trap_of}
use Rattle.osc_image.specs.Image.{Image}
use Rattle.osc_world.specs.States.{turn_of}
use Rattle.osc_world.specs.Deeds.{Heaps, Shares, answers}
use Rattle.osc_world.specs.Offers.{Goes, Errs, Unfit, Only, Grants, Starts, Conditional, Never, is_idle, chosen, answers_if, thread_value, thread_at, child_value, shares}
use Rattle.osc_world.specs.PlainWorld.{Flat, Plain, PlainTurn, PlainDeed, PlainOffer, BlockDeed, Places, Stays, Moves, NoAddress, next_start, grants_block, plain_malloc, plain_replace, plain_realloc, plain_shares, plain_serves, plain_atomic, atomic_width, plain_offer, plain_offered}
use Rattle.osc_world.specs.PlainRun.{plain_chosen, plain_done, plain_does, plain_instr, plain_meaning_in, plain_meaning, plain_run, plain_boot, plain_run_of}
use Rattle.osc_world.proofs.Folds.{plain_run-append, stuck_stays}
use Rattle.osc_means.specs.NotStuck.{has_slot, has_to_move, takes_slot, has_addresses, has_place, place_for, place_in, is_placed, AllPlaced}

-- ---- offers

-- what an offer gives has its place
abbrev is_given : PlainOffer → Bool
is_given (Grants (Errs want) refused) = false
is_given offer = true

-- a store goes on
abbrev is_store : PlainOffer → Bool
is_store (Conditional (Errs want) failure) = false
is_store offer = true

abbrev goes : PlainTurn → Choice → PlainOffer → Bool
goes turn c offer = is_some (plain_done turn (plain_chosen turn c offer))

-- a test that counts where the choice is that memory was given
abbrev if_given : Choice → Bool → Bool
if_given choice.Given test = test
if_given c test = true

always : (c : Choice) → if_given c true ≡ true
always choice.Plain = refl
always choice.Given = refl
always choice.Refused = refl
always (choice.Started hart) = refl
always choice.Success = refl
always choice.Fail = refl

started-goes : (turn : PlainTurn) (deed : PlainDeed) (t : Bool) → is_some (plain_done turn (cond t (Goes deed) Unfit)) ≡ true
started-goes turn deed false = refl
started-goes turn deed true = refl

offer-goes : (turn : PlainTurn) (c : Choice) (offer : PlainOffer) → is_store offer ≡ true → goes turn c offer ≡ if_given c (is_given offer)
unfolding chosen
offer-goes turn c (Only deed) e = sym (always c)
offer-goes turn choice.Plain (Grants given refused) e = refl
offer-goes turn choice.Given (Grants (Goes deed) refused) e = refl
offer-goes turn choice.Given (Grants (Errs want) refused) e = refl
offer-goes turn choice.Given (Grants Unfit refused) e = refl
offer-goes turn choice.Refused (Grants given refused) e = refl
offer-goes turn (choice.Started hart) (Grants given refused) e = refl
offer-goes turn choice.Success (Grants given refused) e = refl
offer-goes turn choice.Fail (Grants given refused) e = refl
offer-goes turn choice.Plain (Starts deed refused) e = refl
offer-goes turn choice.Given (Starts deed refused) e = refl
offer-goes turn choice.Refused (Starts deed refused) e = refl
offer-goes turn (choice.Started hart) (Starts deed refused) e = started-goes turn (deed hart) (is_idle (slice_get turn.state.harts hart))
offer-goes turn choice.Success (Starts deed refused) e = refl
offer-goes turn choice.Fail (Starts deed refused) e = refl
offer-goes turn c (Conditional (Errs want) failure) e = absurd (cc)
offer-goes turn choice.Plain (Conditional success failure) e = refl
offer-goes turn choice.Given (Conditional success failure) e = refl
offer-goes turn choice.Refused (Conditional success failure) e = refl
offer-goes turn (choice.Started hart) (Conditional success failure) e = refl
offer-goes turn choice.Success (Conditional (Goes deed) failure) e = refl
offer-goes turn choice.Success (Conditional Unfit failure) e = refl
offer-goes turn choice.Fail (Conditional success failure) e = refl
offer-goes turn choice.Plain Never e = refl
offer-goes turn choice.Given Never e = refl
offer-goes turn choice.Refused Never e = refl
offer-goes turn (choice.Started hart) Never e = refl
offer-goes turn choice.Success Never e = refl
offer-goes turn choice.Fail Never e = refl

-- ---- calls

-- an offer whose store goes on, and which gives where a test holds
abbrev Gives : PlainOffer → Bool → Type 0
Gives offer test = (is_store offer ≡ true) × (is_given offer ≡ test)

block-gives : (turn : PlainTurn) (deed : ℕ → BlockDeed) (found : Option ℕ) → Gives (grants_block turn deed found) (is_some found)
block-gives turn deed None = (refl, refl)
block-gives turn deed (Some start) = (refl, refl)

answer-gives : (turn : PlainTurn) (value : Option ℕ) → Gives (answers_if turn value) true
answer-gives turn None = (refl, refl)
answer-gives turn (Some value) = (refl, refl)

realloc-gives : (turn : PlainTurn) (flat : Flat) (user size : ℕ) → Gives (plain_realloc turn flat user size) (not (takes_slot flat user size) || has_slot flat size)
realloc-gives turn flat user size = of_nothing (user == 0)
  where
    moved : (block : Block) (t : Bool)
        → Gives (cond t (Grants (Goes (Heaps (Stays user size) user)) (answers turn 0)) (grants_block turn (Moves block user size) (next_start flat size))) (not (not t) || has_slot flat size)
    moved block true = (refl, refl)
    moved block false = block-gives turn (Moves block user size) (next_start flat size)

    held : (found : Option Block) → Gives (plain_replace turn flat user size found) (not (has_to_move (room_of size) found) || has_slot flat size)
    held None = (refl, refl)
    held (Some block) = moved block (is_room block.room (room_of size))

    of_nothing : (t : Bool) → Gives (cond t (plain_malloc turn flat size) (plain_replace turn flat user size (block_of_user flat.held user))) (not (t || has_to_move (room_of size) (block_of_user flat.held user)) || has_slot flat size)
    of_nothing true = block-gives turn (Places size) (next_start flat size)
    of_nothing false = held (block_of_user flat.held user)

share-gives : (turn : PlainTurn) (count : ℕ) → Gives (Grants (plain_shares turn count) (answers turn 0)) (has_addresses turn.process count)
share-gives turn count = by (nat_lt first_shadow_page (first_shared_page + (length turn.process.shared + count))) refl
  where
    some : (t : Bool) → is_given (Grants (cond t (Goes (Shares count)) Unfit) (answers turn 0)) ≡ true
    some false = refl
    some true = refl

    by : (t : Bool) → nat_lt first_shadow_page (first_shared_page + (length turn.process.shared + count)) ≡ t → Gives (Grants (cond t (Errs NoAddress) (shares count)) (answers turn 0)) (has_addresses turn.process count)
    by true e = (refl, let past : nat_le (first_shared_page + (length turn.process.shared + count)) first_shadow_page ≡ false = grind (arith, nat_tests, e) in sym past)
    by false e = (refl, let fit : nat_le (first_shared_page + (length turn.process.shared + count)) first_shadow_page ≡ true = grind (arith, nat_tests, e) in some (nat_lt 0 count) ∙ sym fit)

call-gives : (turn : PlainTurn) (call : Call) → Gives (plain_serves turn call) (has_place turn.process call)
unfolding plain_serves
call-gives turn (calls.Exit status) = (refl, refl)
call-gives turn (calls.Write buffer asked) = (refl, refl)
call-gives turn (calls.Malloc size) = block-gives turn (Places size) (next_start turn.process.memory size)
call-gives turn (calls.Free user) = (refl, refl)
call-gives turn (calls.Realloc user size) = realloc-gives turn turn.process.memory user size
call-gives turn calls.Fork = (refl, refl)
call-gives turn (calls.Spawn pc sp arg) = (refl, refl)
call-gives turn (calls.Join thread) = answer-gives turn (thread_value (λ n. n) turn.pid (thread_at turn.state.threads thread))
call-gives turn (calls.Done value) = (refl, refl)
call-gives turn (calls.Share count) = share-gives turn count
call-gives turn (calls.Wait child) = answer-gives turn (child_value (λ n. n) turn.pid (slice_get turn.state.processes child))
call-gives turn (calls.Unknown number) = (refl, refl)
call-gives turn (calls.End fault) = (refl, refl)

-- ---- instructions

abbrev is_call : IntDone → Bool
is_call done.Call = true
is_call what = false

abbrev is_ecall : Instr → Bool
is_ecall instr.Ecall = true
is_ecall i = false

jumped-no_call : (rd pc target : ℕ) → is_call (jumped rd pc target) ≡ false
jumped-no_call rd pc target = by (target % 4 == 0)
  where
    by : (t : Bool) → is_call (cond t (done.Set rd (next pc) target) (done.BadTarget target)) ≡ false
    by false = refl
    by true = refl

branched-no_call : (taken : Bool) (pc target : ℕ) → is_call (branched taken pc target) ≡ false
branched-no_call taken pc target = grind (arith)

done-no_call : (i : Instr) (regs : List ℕ) (pc : ℕ) → is_ecall i ≡ false → is_call (done_of i regs pc) ≡ false
done-no_call (instr.Upper Lui rd imm) regs pc e = refl
done-no_call (instr.Upper Auipc rd imm) regs pc e = refl
done-no_call (instr.Jal rd half) regs pc e = jumped-no_call rd pc (wrapped (pc + extended 21 (half * 2)))
done-no_call (instr.Jalr rd rs1 imm) regs pc e = jumped-no_call rd pc (without_bit_0 (offset_from regs rs1 imm))
done-no_call (instr.Branch kind rs1 rs2 half) regs pc e = branched-no_call (is_taken kind (register regs rs1) (register regs rs2)) pc (wrapped (pc + extended 13 (half * 2)))
done-no_call (instr.Load kind rd rs1 imm) regs pc e = refl
done-no_call (instr.Store kind rs1 rs2 imm) regs pc e = refl
done-no_call (instr.Imm op rd rs1 imm) regs pc e = refl
done-no_call (instr.Shift op rd rs1 amount) regs pc e = refl
done-no_call (instr.ShiftW op rd rs1 amount) regs pc e = refl
done-no_call (instr.Op op rd rs1 rs2) regs pc e = refl
done-no_call (instr.Mul op rd rs1 rs2) regs pc e = refl
done-no_call (instr.Fence bits) regs pc e = refl
done-no_call (instr.FenceI bits) regs pc e = refl
done-no_call instr.Ecall regs pc e = absurd (cc)
done-no_call instr.Ebreak regs pc e = refl
done-no_call (instr.Amo op width rd rs1 rs2 aq rl) regs pc e = refl
done-no_call (instr.Lr width rd rs1 aq rl) regs pc e = refl
done-no_call (instr.Sc width rd rs1 rs2 aq rl) regs pc e = refl

atomic-gives : (turn : PlainTurn) (i : Instr) (address operand : ℕ) → Gives (plain_atomic turn i address operand) true
atomic-gives turn (instr.Amo op width rd rs1 rs2 aq rl) address operand = (refl, refl)
atomic-gives turn (instr.Lr width rd rs1 aq rl) address operand = (refl, refl)
atomic-gives turn (instr.Sc width rd rs1 rs2 aq rl) address operand = (refl, refl)
atomic-gives turn i address operand = (refl, refl)

what-gives : (turn : PlainTurn) (i : Instr) (what : IntDone) → is_call what ≡ false → Gives (plain_offer turn i what) true
what-gives turn i (done.Set rd value pc) e = (refl, refl)
what-gives turn i (done.Go pc) e = (refl, refl)
what-gives turn i (done.Load rd kind address) e = (refl, refl)
what-gives turn i (done.Store width address value) e = (refl, refl)
what-gives turn i (done.Atomic address operand) e = by (address % atomic_width i == 0)
  where
    by : (t : Bool) → Gives (cond t (plain_atomic turn i address operand) Never) true
    by false = (refl, refl)
    by true = atomic-gives turn i address operand
what-gives turn i done.Call e = absurd (cc)
what-gives turn i done.Break e = (refl, refl)
what-gives turn i (done.BadTarget target) e = (refl, refl)

other-gives : (turn : PlainTurn) (i : Instr) → is_ecall i ≡ false → Gives (plain_offered turn i) true
unfolding plain_offered
other-gives turn i e = by (is_some (trap_of (done_of i turn.hart.regs turn.hart.pc) turn.hart.pc))
  where
    by : (t : Bool) → Gives (cond t Never (plain_offer turn i (done_of i turn.hart.regs turn.hart.pc))) true
    by true = (refl, refl)
    by false = what-gives turn i (done_of i turn.hart.regs turn.hart.pc) (done-no_call i turn.hart.regs turn.hart.pc e)

ecall-goes : (turn : PlainTurn) (c : Choice) → goes turn c (plain_offered turn instr.Ecall) ≡ place_for turn c (Some instr.Ecall)
unfolding plain_offered
ecall-goes turn c =
    let g = call-gives turn (call_of turn.hart.regs) in
    offer-goes turn c (plain_serves turn (call_of turn.hart.regs)) g.0 ∙ ap (if_given c) g.1 ∙ call c
  where
    call : (c : Choice) → if_given c (has_place turn.process (call_of turn.hart.regs)) ≡ place_for turn c (Some instr.Ecall)
    call choice.Plain = refl
    call choice.Given = refl
    call choice.Refused = refl
    call (choice.Started hart) = refl
    call choice.Success = refl
    call choice.Fail = refl

-- an instruction goes on exactly where it has the place that it takes
instr-goes : (turn : PlainTurn) (c : Choice) (i : Instr) → goes turn c (plain_offered turn i) ≡ place_for turn c (Some i)
instr-goes turn c i = by (is_ecall i) refl
  where
    none : (c : Choice) (i : Instr) → is_ecall i ≡ false → place_for turn c (Some i) ≡ true
    none c i e = grind (arith, e)

    is : (i : Instr) → is_ecall i ≡ true → i ≡ instr.Ecall
    is i e = grind (arith, e)

    by : (t : Bool) → is_ecall i ≡ t → goes turn c (plain_offered turn i) ≡ place_for turn c (Some i)
    by true e = rw (is i e) (ecall-goes turn c)
    by false e =
        let g = other-gives turn i e in
        offer-goes turn c (plain_offered turn i) g.0 ∙ ap (if_given c) g.1 ∙ always c ∙ sym (none c i e)

-- ---- events

turn-goes : (turn : PlainTurn) (c : Choice) (i : Option Instr) → is_some (plain_does turn c i) ≡ place_for turn c i
turn-goes turn c None = by c
  where
    by : (c : Choice) → true ≡ place_for turn c None
    by choice.Plain = refl
    by choice.Given = refl
    by choice.Refused = refl
    by (choice.Started hart) = refl
    by choice.Success = refl
    by choice.Fail = refl
turn-goes turn c (Some i) = instr-goes turn c i

pub event-goes : (plain : Plain) (event : Event) → is_some (plain_meaning plain event) ≡ is_placed plain event
unfolding plain_meaning
event-goes plain event = by (turn_of plain event.hart)
  where
    by : (turn : Option PlainTurn) → is_some (plain_meaning_in plain event.choice turn) ≡ place_in event.choice turn
    by None = refl
    by (Some turn) = turn-goes turn event.choice (plain_instr turn)

-- ---- runs

-- each event of a run from a state has its place
abbrev Placed : Plain → List Event → Type 0
Placed start events = (before : List Event) (event : Event) (after : List Event) (plain : Plain) → events ≡ before ++ event ∷ after → plain_run (Some start) before ≡ Some plain → is_placed plain event ≡ true

run-goes : (start : Plain) (events : List Event) → Placed start events → (plain : Plain) × (plain_run (Some start) events ≡ Some plain)
unfolding plain_run
run-goes start [] placed = (start, refl)
run-goes start (event ∷ events) placed = by (plain_meaning start event) refl (λ now. run-goes now events)
  where
    first : is_some (plain_meaning start event) ≡ true
    first = event-goes start event ∙ placed [] event events start refl refl

    by : (m : Option Plain) → plain_meaning start event ≡ m → ((now : Plain) → Placed now events → (plain : Plain) × (plain_run (Some now) events ≡ Some plain)) → (plain : Plain) × (plain_run m events ≡ Some plain)
    by None e later = absurd (let f = first in cc)
    by (Some now) e later = later now (λ before later_event after plain f g. placed (event ∷ before) later_event after plain (ap (λ rest. event ∷ rest) f) (ap (λ m. plain_run m before) e ∙ g))

run-placed : (start then : Plain) (events : List Event) → plain_run (Some start) events ≡ Some then → Placed start events
unfolding plain_run
run-placed start then events e before event after plain f g = by (plain_meaning plain event) refl rest
  where
    rest : plain_run (plain_meaning plain event) after ≡ Some then
    rest = ap (λ m. plain_run m (event ∷ after)) (sym g) ∙ sym (plain_run-append (Some start) before (event ∷ after)) ∙ ap (plain_run (Some start)) (sym f) ∙ e

    by : (m : Option Plain) → plain_meaning plain event ≡ m → plain_run m after ≡ Some then → is_placed plain event ≡ true
    by None h i = absurd (let s = stuck_stays after in cc)
    by (Some now) h i = sym (event-goes plain event) ∙ ap (λ m. is_some m) h

pub runs-go : (image : Image) (config : Config) (events : List Event) → AllPlaced image config events → (plain : Plain) × (plain_run_of image config events ≡ Some plain)
runs-go image config events placed = run-goes (plain_boot image config) events placed

pub runs-placed : (image : Image) (config : Config) (events : List Event) (plain : Plain) → plain_run_of image config events ≡ Some plain → AllPlaced image config events
runs-placed image config events plain e = run-placed (plain_boot image config) plain events e
