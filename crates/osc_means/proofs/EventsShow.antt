-- An event that goes on in both runs keeps what is shown.
use Rattle.std.proofs.Common.{ℕ, zero, suc, ◌≡◌, ◌<◌, ◌≤◌, ◌==◌, ◌+◌, ◌%◌, Bool, true, false, cond, List, [], ◌∷◌, Option, Some, None, option_map, Result, Ok, Err, arith, refl, ap, sym, subst, ◌∙◌, inr, inl, slice_get, length, map, unwrap_or}
use Rattle.std.proofs.lemmas.Bool.Decides.{nat_tests}
use Rattle.std.proofs.lemmas.Option.{slice_get-map, slice_get_within}
use Rattle.std.specs.Option.{option_and_then}
use Rattle.osc_word.specs.declared.steps.Choice.{Choice}
use Rattle.osc_word.specs.declared.steps.Event.{Event}
use Rattle.osc_sv39.specs.declared.entries.Access.TheVariants as access
use Rattle.osc_rv.specs.Instr.{instr_of}
use Rattle.osc_rv.specs.declared.instr.Instr.{Instr}
use Rattle.osc_world.specs.declared.Value.{Value}
use Rattle.osc_world.specs.declared.Value.TheVariants.{Num, Ptr}
use Rattle.osc_world.specs.declared.ObjectWhy.{ObjectWhy}
use Rattle.osc_world.specs.States.{Process, Hart, turn_in, turn_on, turn_of}
use Rattle.osc_world.specs.Offers.{Meaning, Goes, Errs, Unfit, then_try}
use Rattle.osc_world.specs.World.{World, WorldTurn, Memory}
use Rattle.osc_world.specs.Accesses.{is_aligned, aimed, value_at}
use Rattle.osc_world.specs.Events.{offered, does_if, instr_in, instr_at, meaning_in, meaning}
use Rattle.osc_world.specs.Knows.{Knows}
use Rattle.osc_world.specs.PlainWorld.{Flat, Plain, PlainTurn, plain_number, plain_offered}
use Rattle.osc_world.specs.PlainRun.{plain_does, plain_instr, plain_meaning_in, plain_meaning}
use Rattle.osc_world.proofs.KnownDeeds.{InTurn}
use Rattle.osc_means.specs.Shown.{shown, shown_hart, Shows, Kept}
use Rattle.osc_means.proofs.Rows.{stands}
use Rattle.osc_means.proofs.Reading.{Paired, plain_turn, value-shown}
use Rattle.osc_means.proofs.Offers.{results-show}
use Rattle.osc_means.proofs.Steps.{tried, aimed-reached}
use Rattle.osc_means.proofs.Events.{offered-alike}

-- ---- the instruction

word-found : (r : Result Value ObjectWhy) (i : Instr) → instr_in r ≡ Some i → (n : ℕ) × ((r ≡ Ok (Num n)) × (instr_of n ≡ Some i))
word-found (Ok (Num n)) i e = (n, (refl, e))
word-found (Ok (Ptr o k)) i e = absurd (cc)
word-found (Err why) i e = absurd (cc)

-- both runs find the same instruction
pub fetched : (frames : ℕ) (place : ℕ → ℕ → ℕ) (turn : WorldTurn) (plain : Plain) (y : Process Flat) (i : Instr) → Paired frames place turn plain y
    → instr_at turn ≡ Some i → plain_instr (plain_turn place turn plain y) ≡ Some i
unfolding instr_at
fetched frames place turn plain y i pair e =
    let word = word-found (then_try (aimed turn access.Fetch 4 (Num turn.hart.pc) true) (λ at. value_at turn at 4)) i e in
    let at = tried (aimed turn access.Fetch 4 (Num turn.hart.pc) true) (λ at. value_at turn at 4) (Num word.0) word.1.0 in
    let aim = aimed-reached frames place turn plain y access.Fetch 4 (Num turn.hart.pc) true at.0 pair (inr (inr (inl refl))) at.1.0 in
    let value : word.0 ≡ plain_number (plain_turn place turn plain y) 4 turn.hart.pc = value-shown frames place turn plain y 4 at.0 turn.hart.pc (Num word.0) pair aim.reached at.1.1 in
    let even : (turn.hart.pc % 4 == 0) ≡ true = aim.even in
    ap (λ t. cond t (instr_of (plain_number (plain_turn place turn plain y) 4 turn.hart.pc)) None) even ∙ ap instr_of (sym value) ∙ word.1.1

-- ---- the turn

-- the plain state has the same turn
plain-turn : (frames : ℕ) (place : ℕ → ℕ → ℕ) (turn : WorldTurn) (plain : Plain) (y : Process Flat) → Paired frames place turn plain y → turn_of plain turn.number ≡ Some (plain_turn place turn plain y)
plain-turn frames place turn plain y pair =
    let hart : slice_get plain.harts turn.number ≡ Some (shown_hart place turn.hart) =
    ap (λ z. slice_get z turn.number) pair.shows.harts ∙ slice_get-map (shown_hart place) turn.state.harts turn.number ∙ ap (option_map (shown_hart place)) pair.in_turn.hart in
    let runs = pair.in_turn.runs in
    let there = pair.there in
    let own : shown_hart place turn.hart ≡ (plain_turn place turn plain y).hart
    = ap (λ p. record { process = turn.hart.process; thread = turn.hart.thread; regs = map (shown (place (unwrap_or p 0))) turn.hart.regs; pc = turn.hart.pc; reservation = None }) runs in
    ap (option_and_then (turn_on plain turn.number)) (hart ∙ ap Some own)
    ∙ ap (option_and_then (turn_in plain turn.number (plain_turn place turn plain y).hart)) runs
    ∙ ap (option_map (λ process. record { state = plain; number = turn.number; hart = (plain_turn place turn plain y).hart; pid = turn.pid; process = process })) there

-- ---- events

turn-shows : (frames : ℕ) (place : ℕ → ℕ → ℕ) (turn : WorldTurn) (now : World) (plain then : Plain) (y : Process Flat) (c : Choice) → Paired frames place turn plain y
    → does_if turn c (instr_at turn) ≡ Goes now → plain_meaning_in plain c (turn_of plain turn.number) ≡ Some then → Kept place then → Shows frames place now then
turn-shows frames place turn now plain then y c pair e f k = by (instr_at turn) refl e
  where
    by : (x : Option Instr) → instr_at turn ≡ x → does_if turn c x ≡ Goes now → Shows frames place now then
    by None g h = absurd (cc)
    by (Some i) g h =
        let same = fetched frames place turn plain y i pair g in
        let there = plain-turn frames place turn plain y pair in
        let does : plain_does (plain_turn place turn plain y) c (Some i) ≡ Some then
        = ap (plain_does (plain_turn place turn plain y) c) (sym same) ∙ ap (plain_meaning_in plain c) (sym there) ∙ f in
        results-show frames place turn plain y (offered turn i) (plain_offered (plain_turn place turn plain y) i) c now then pair (offered-alike frames place turn plain y i pair) h does k

pub event-shows : (frames : ℕ) (place : ℕ → ℕ → ℕ) (world now : World) (plain then : Plain) (event : Event) → frames ≤ 4096 → Knows world → Shows frames place world plain
    → meaning world event ≡ Goes now → plain_meaning plain event ≡ Some then → Kept place then → Shows frames place now then
unfolding meaning plain_meaning
event-shows frames place world now plain then event limit knows s e f k = on_hart (slice_get world.harts event.hart) refl e
  where
    on_process : (hart : Hart Value) (pid : ℕ) → slice_get world.harts event.hart ≡ Some hart → hart.process ≡ Some pid → (found : Option (Process Memory)) → slice_get world.processes pid ≡ found
        → meaning_in event.choice (option_map (λ process. record { state = world; number = event.hart; hart = hart; pid = pid; process = process }) found) ≡ Goes now → Shows frames place now then
    on_process hart pid g h None i j = absurd (cc)
    on_process hart pid g h (Some process) i j =
        let turn : WorldTurn = record { state = world; number = event.hart; hart = hart; pid = pid; process = process } in
        let inside = slice_get_within world.processes pid process i in
        let y = stands plain.processes pid (let c = s.count in omega arith) in
        turn-shows frames place (record { state = world; number = event.hart; hart = hart; pid = pid; process = process }) now plain then y.0 event.choice
        (record { shows = s; knows = knows; in_turn = record { process = i; hart = g; runs = h }; there = y.1; limit = limit }) j f k

    on_pid : (hart : Hart Value) → slice_get world.harts event.hart ≡ Some hart → (pid : Option ℕ) → hart.process ≡ pid
        → meaning_in event.choice (option_and_then (turn_in world event.hart hart) pid) ≡ Goes now → Shows frames place now then
    on_pid hart g None h j = absurd (cc)
    on_pid hart g (Some pid) h j = on_process hart pid g h (slice_get world.processes pid) refl j

    on_hart : (found : Option (Hart Value)) → slice_get world.harts event.hart ≡ found → meaning_in event.choice (option_and_then (turn_on world event.hart) found) ≡ Goes now → Shows frames place now then
    on_hart None g j = absurd (cc)
    on_hart (Some hart) g j = on_pid hart g hart.process refl j
