-- An address that the plain run gave stays given.
use Rattle.std.proofs.Common.{ℕ, ◌≡◌, ◌==◌, ◌+◌, Bool, true, false, cond, List, [], ◌∷◌, ◌++◌, Option, Some, None, option_map, arith, refl, ap, sym, subst, ◌∙◌, slice_get, unwrap_or}
use Rattle.std.proofs.lemmas.Bool.Decides.{nat_tests}
use Rattle.std.specs.Prelude.{slice_set}
use Rattle.std.specs.Option.{option_and_then}
use Rattle.osc_word.specs.declared.steps.Choice.{Choice}
use Rattle.osc_word.specs.declared.steps.Event.{Event}
use Rattle.osc_rv.specs.declared.instr.Instr.{Instr}
use Rattle.osc_world.specs.States.{Process, Hart, turn_in, turn_on, turn_of, shared_page_at}
use Rattle.osc_world.specs.Deeds.{Put, Step, Steps, Heaps, Writes, Shares, Forks, Spawns, Exits, Leaves, state_after, put_if}
use Rattle.osc_world.specs.Offers.{Meaning, Goes, Errs, Unfit}
use Rattle.osc_world.specs.PlainWorld.{Flat, Want, Plain, PlainTurn, PlainDeed, BlockDeed, Places, Releases, Stays, Moves, plain_kind, plain_put, put_by, flat_after, plain_offered}
use Rattle.osc_world.specs.PlainRun.{plain_chosen, plain_done, plain_does, plain_instr, plain_meaning_in, plain_meaning, plain_run}
use Rattle.osc_world.proofs.Growth.{set-get, append-get}
use Rattle.osc_world.proofs.Folds.{stuck_stays}
use Rattle.osc_means.specs.Shown.{given_at, Kept}

-- ---- processes

abbrev given_in : List (Process Flat) → ℕ → ℕ → Option ℕ
given_in processes pid o = option_and_then (λ (process : Process Flat). slice_get process.memory.given o) (slice_get processes pid)

-- what was given before is given after
abbrev Keeps : List (Process Flat) → List (Process Flat) → Type 0
Keeps before after = (pid o user : ℕ) → given_in before pid o ≡ Some user → given_in after pid o ≡ Some user

abbrev pub Later : Plain → Plain → Type 0
Later plain then = (pid object user : ℕ) → given_at plain pid object ≡ Some user → given_at then pid object ≡ Some user

keeps-set : (processes : List (Process Flat)) (n : ℕ) (x y : Process Flat) → slice_get processes n ≡ Some x → ((o u : ℕ) → slice_get x.memory.given o ≡ Some u → slice_get y.memory.given o ≡ Some u) → Keeps processes (slice_set processes n y)
keeps-set processes n x y e keep pid o u g =
    ap (option_and_then (λ (process : Process Flat). slice_get process.memory.given o)) (set-get processes n pid y) ∙ by (pid == n) refl
  where
    by : (t : Bool) → (pid == n) ≡ t → option_and_then (λ (process : Process Flat). slice_get process.memory.given o) (cond t (option_map (λ z. y) (slice_get processes pid)) (slice_get processes pid)) ≡ Some u
    by false t = g
    by true t =
        let is : pid ≡ n = grind (arith, nat_tests, t) in
        let there : slice_get processes pid ≡ Some x = ap (slice_get processes) is ∙ e in
        let old : slice_get x.memory.given o ≡ Some u = sym (ap (option_and_then (λ (process : Process Flat). slice_get process.memory.given o)) there) ∙ g in
        rw there (keep o u old)

keeps-push : (processes : List (Process Flat)) (y : Process Flat) → Keeps processes (processes ++ y ∷ [])
keeps-push processes y pid o u g = by (slice_get processes pid) refl g
  where
    by : (found : Option (Process Flat)) → slice_get processes pid ≡ found → option_and_then (λ (process : Process Flat). slice_get process.memory.given o) found ≡ Some u → given_in (processes ++ y ∷ []) pid o ≡ Some u
    by None e h = absurd (cc)
    by (Some x) e h = rw (append-get processes y x pid e) h

-- ---- deeds

flat-keeps : (turn : PlainTurn) (flat : Flat) (deed : BlockDeed) (o u : ℕ) → slice_get flat.given o ≡ Some u → slice_get (flat_after turn flat deed).given o ≡ Some u
flat-keeps turn flat (Places size start) o u e = append-get flat.given (start + 16) u o e
flat-keeps turn flat (Releases block) o u e = e
flat-keeps turn flat (Stays user size) o u e = append-get flat.given user u o e
flat-keeps turn flat (Moves block user size start) o u e = append-get flat.given (start + 16) u o e

put-keeps : (turn : PlainTurn) (put : Option (Put ℕ ℕ)) → slice_get turn.state.processes turn.pid ≡ Some turn.process → Keeps turn.state.processes (put_if plain_kind turn put).processes
unfolding plain_put
put-keeps turn None e pid o u g = g
put-keeps turn (Some put) e pid o u g = by (shared_page_at turn.process.shared put.at)
  where
    by : (page : Option ℕ) → given_in (put_by turn put.at put.bytes page).processes pid o ≡ Some u
    by (Some page) = g
    by None = keeps-set turn.state.processes turn.pid turn.process _ e (λ o u h. h) pid o u g

deed-keeps : (turn : PlainTurn) (deed : PlainDeed) → slice_get turn.state.processes turn.pid ≡ Some turn.process → Keeps turn.state.processes (state_after plain_kind turn deed).processes
unfolding state_after
deed-keeps turn (Steps step) e pid o u g = put-keeps turn step.put e pid o u g
deed-keeps turn (Heaps deed value) e pid o u g = keeps-set turn.state.processes turn.pid turn.process _ e (flat-keeps turn turn.process.memory deed) pid o u g
deed-keeps turn (Writes bytes) e pid o u g = g
deed-keeps turn (Shares count) e pid o u g = keeps-set turn.state.processes turn.pid turn.process _ e (λ o u h. h) pid o u g
deed-keeps turn (Forks hart) e pid o u g = keeps-push turn.state.processes _ pid o u g
deed-keeps turn (Spawns hart pc sp arg) e pid o u g = g
deed-keeps turn (Exits status) e pid o u g = keeps-set turn.state.processes turn.pid turn.process _ e (λ o u h. h) pid o u g
deed-keeps turn (Leaves value) e pid o u g = keeps-set turn.state.processes turn.pid turn.process _ e (λ o u h. h) pid o u g

-- ---- events

done-keeps : (turn : PlainTurn) (m : Meaning PlainDeed Want) (then : Plain) → slice_get turn.state.processes turn.pid ≡ Some turn.process → plain_done turn m ≡ Some then → Later turn.state then
done-keeps turn (Goes deed) then e f pid o u g = let s : state_after plain_kind turn deed ≡ then = cc in subst (λ z. given_at z pid o ≡ Some u) s (deed-keeps turn deed e pid o u g)
done-keeps turn (Errs want) then e f pid o u g = absurd (cc)
done-keeps turn Unfit then e f pid o u g = let s : turn.state ≡ then = cc in subst (λ z. given_at z pid o ≡ Some u) s g

does-keeps : (turn : PlainTurn) (c : Choice) (i : Option Instr) (then : Plain) → slice_get turn.state.processes turn.pid ≡ Some turn.process → plain_does turn c i ≡ Some then → Later turn.state then
does-keeps turn c None then e f pid o u g = let s : turn.state ≡ then = cc in subst (λ z. given_at z pid o ≡ Some u) s g
does-keeps turn c (Some i) then e f pid o u g = done-keeps turn (plain_chosen turn c (plain_offered turn i)) then e f pid o u g

pub event-keeps : (plain then : Plain) (event : Event) → plain_meaning plain event ≡ Some then → Later plain then
unfolding plain_meaning
event-keeps plain then event f pid o u g = on_hart (slice_get plain.harts event.hart) f
  where
    same : Some plain ≡ Some then → given_at then pid o ≡ Some u
    same e = let s : plain ≡ then = cc in subst (λ z. given_at z pid o ≡ Some u) s g

    on_process : (hart : Hart ℕ) (n : ℕ) (found : Option (Process Flat)) → slice_get plain.processes n ≡ found
        → plain_meaning_in plain event.choice (option_map (λ process. record { state = plain; number = event.hart; hart = hart; pid = n; process = process }) found) ≡ Some then → given_at then pid o ≡ Some u
    on_process hart n None i e = same e
    on_process hart n (Some process) i e =
        let turn : PlainTurn = record { state = plain; number = event.hart; hart = hart; pid = n; process = process } in
        does-keeps (record { state = plain; number = event.hart; hart = hart; pid = n; process = process }) event.choice (plain_instr (record { state = plain; number = event.hart; hart = hart; pid = n; process = process })) then i e pid o u g

    on_pid : (hart : Hart ℕ) (n : Option ℕ) → plain_meaning_in plain event.choice (option_and_then (turn_in plain event.hart hart) n) ≡ Some then → given_at then pid o ≡ Some u
    on_pid hart None e = same e
    on_pid hart (Some n) e = on_process hart n (slice_get plain.processes n) refl e

    on_hart : (found : Option (Hart ℕ)) → plain_meaning_in plain event.choice (option_and_then (turn_on plain event.hart) found) ≡ Some then → given_at then pid o ≡ Some u
    on_hart None e = same e
    on_hart (Some hart) e = on_pid hart hart.process e

pub run-keeps : (events : List Event) (plain then : Plain) → plain_run (Some plain) events ≡ Some then → Later plain then
unfolding plain_run
run-keeps [] plain then e pid o u g = let s : plain ≡ then = cc in subst (λ z. given_at z pid o ≡ Some u) s g
run-keeps (event ∷ events) plain then e pid o u g = by (plain_meaning plain event) refl e (λ now. run-keeps events now then)
  where
    by : (m : Option Plain) → plain_meaning plain event ≡ m → plain_run m events ≡ Some then → ((now : Plain) → plain_run (Some now) events ≡ Some then → Later now then) → given_at then pid o ≡ Some u
    by None f h later = absurd (let s = stuck_stays events in cc)
    by (Some now) f h later = later now h pid o u (event-keeps plain now event f pid o u g)
