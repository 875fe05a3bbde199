-- What an event means, by the turn of its hart.
use Rattle.std.proofs.Common.{◌≡◌, ℕ, Some, None, Ok, Err, refl, ap, sym, ◌∙◌, slice_get}
use Rattle.std.specs.declared.option.Option.{Option}
use Rattle.std.specs.declared.result.Result.{Result}
use Rattle.osc_word.specs.declared.steps.Event.{Event}
use Rattle.osc_word.specs.declared.steps.Choice.{Choice}
use Rattle.osc_rv.specs.declared.instr.Instr.{Instr}
use Rattle.osc_world.specs.declared.Value.{Value}
use Rattle.osc_world.specs.declared.ObjectWhy.{ObjectWhy}
use Rattle.osc_world.specs.States.{Hart, Process, turn_of}
use Rattle.osc_world.specs.World.{World, WorldTurn, WorldOffer, Memory}
use Rattle.osc_world.specs.Offers.{Unfit}
use Rattle.osc_world.specs.Events.{meaning, meaning_in, meaning_by, meaning_of, does_if, instr_at, offered}
use Rattle.osc_world.specs.declared.ObjectWhy.TheVariants.{Trap}
use Rattle.osc_world.specs.Deeds.{state_after}
use Rattle.osc_world.specs.Calls.{world_kind}
use Rattle.osc_object.specs.declared.decisions.Deed.{Deed}
use Rattle.osc_object.specs.declared.decisions.Decided.{Decided}
use Rattle.osc_object.specs.declared.decisions.Decided.TheVariants as decided_as
use Rattle.osc_object.specs.Turns.{turn_from}
use Rattle.osc_object.specs.Decisions.{decided_shown, decided, decided_if, deed_shown}
use Rattle.osc_judge.specs.Judging.{pid_of, world_after, error_of}

-- the hart of this number runs a thread of process `pid`
pub record IsTurn (state : World) (number pid : ℕ) : Type 0 where
  pub hart : Hart Value
  pub process : Process Memory
  pub at_hart : slice_get state.harts number ≡ Some hart
  pub at_process : slice_get state.processes pid ≡ Some process
  pub turn : turn_of state number ≡ Some (turn_from state number hart pid process)

with-process : (state : World) (number pid : ℕ) → Some pid ≡ pid_of (turn_of state number) → (hart : Hart Value) → slice_get state.harts number ≡ Some hart
    → (q : ℕ) → hart.process ≡ Some q → (p : Option (Process Memory)) → slice_get state.processes q ≡ p → IsTurn state number pid
with-process state number pid found hart there q runs None of =
    let none : Some pid ≡ None = rw (there, runs, of) at found in absurd (cc)
with-process state number pid found hart there q runs (Some process) of =
    let same : Some pid ≡ Some q = rw (there, runs, of) at found in
    let is : q ≡ pid = cc in
    let here : slice_get state.processes pid ≡ Some process = rw is at of in
    let runs-it : hart.process ≡ Some pid = rw is at runs in
    record { hart = hart; process = process; at_hart = there; at_process = here; turn = rw (there, runs-it, here) refl }

with-hart : (state : World) (number pid : ℕ) → Some pid ≡ pid_of (turn_of state number) → (hart : Hart Value) → slice_get state.harts number ≡ Some hart
    → (q : Option ℕ) → hart.process ≡ q → IsTurn state number pid
with-hart state number pid found hart there None runs =
    let none : Some pid ≡ None = rw (there, runs) at found in absurd (cc)
with-hart state number pid found hart there (Some q) runs =
    with-process state number pid found hart there q runs (slice_get state.processes q) refl

on-hart : (state : World) (number pid : ℕ) → Some pid ≡ pid_of (turn_of state number) → (hart : Option (Hart Value)) → slice_get state.harts number ≡ hart
    → IsTurn state number pid
on-hart state number pid found None there = let none : Some pid ≡ None = rw there at found in absurd (cc)
on-hart state number pid found (Some hart) there = with-hart state number pid found hart there hart.process refl

pub turn-is : (state : World) (number pid : ℕ) → Some pid ≡ pid_of (turn_of state number) → IsTurn state number pid
turn-is state number pid found = on-hart state number pid found (slice_get state.harts number) refl

does-decided : (turn : WorldTurn) (c : Choice) (i : Option Instr) → does_if turn c i ≡ meaning_of turn (decided_if turn c i)
does-decided turn c None = refl
does-decided turn c (Some i) = go (offered turn i)
  where
    go : (offer : Result WorldOffer ObjectWhy) → meaning_by turn c offer ≡ meaning_of turn (decided turn c offer)
    go (Ok offer) = refl
    go (Err why) = refl

-- what was decided is what the event means
meaning-is : (state : World) (event : Event) (pid : ℕ) (t : IsTurn state event.hart pid) (made : Decided)
    → decided_shown (turn_from state event.hart t.hart pid t.process) made
    ≡ decided_if (turn_from state event.hart t.hart pid t.process) event.choice (instr_at (turn_from state event.hart t.hart pid t.process))
    → meaning state event ≡ meaning_of (turn_from state event.hart t.hart pid t.process) (decided_shown (turn_from state event.hart t.hart pid t.process) made)
unfolding meaning
meaning-is state event pid t made is =
    ap (meaning_in event.choice) t.turn
    ∙ does-decided (turn_from state event.hart t.hart pid t.process) event.choice (instr_at (turn_from state event.hart t.hart pid t.process))
    ∙ ap (meaning_of (turn_from state event.hart t.hart pid t.process)) (sym is)

-- a hart that runs no thread has no event that fits
no-turn : (state : World) (event : Event) → None ≡ pid_of (turn_of state event.hart) → meaning state event ≡ Unfit
unfolding meaning
no-turn state event none = go (turn_of state event.hart) refl
  where
    go : (turn : Option WorldTurn) → turn_of state event.hart ≡ turn → meaning_in event.choice (turn_of state event.hart) ≡ Unfit
    go None e = ap (meaning_in event.choice) e
    go (Some turn) e = let some : None ≡ Some turn.pid = rw e at none in absurd (cc)

pub no-turn-error : (state : World) (event : Event) → None ≡ pid_of (turn_of state event.hart) → Some Trap ≡ error_of (meaning state event)
no-turn-error state event none = rw (no-turn state event none) refl

pub no-turn-world : (state : World) (event : Event) → None ≡ pid_of (turn_of state event.hart) → state ≡ world_after state (meaning state event)
no-turn-world state event none = rw (no-turn state event none) refl

module _ (state now : World) (event : Event) (pid : ℕ) (t : IsTurn state event.hart pid) (made : Decided) (deed : Deed) where
  pub goes-world : decided_shown (turn_from state event.hart t.hart pid t.process) made
      ≡ decided_if (turn_from state event.hart t.hart pid t.process) event.choice (instr_at (turn_from state event.hart t.hart pid t.process))
      → made ≡ decided_as.Goes deed
      → now ≡ state_after world_kind (turn_from state event.hart t.hart pid t.process) (deed_shown (turn_from state event.hart t.hart pid t.process) deed)
      → now ≡ world_after state (meaning state event)
  goes-world shown is after = rw (meaning-is state event pid t made shown, is) after

module _ (state : World) (event : Event) (pid : ℕ) (t : IsTurn state event.hart pid) (made : Decided) where
  pub goes-error : (deed : Deed) → decided_shown (turn_from state event.hart t.hart pid t.process) made
      ≡ decided_if (turn_from state event.hart t.hart pid t.process) event.choice (instr_at (turn_from state event.hart t.hart pid t.process))
      → made ≡ decided_as.Goes deed → None ≡ error_of (meaning state event)
  goes-error deed shown is = rw (meaning-is state event pid t made shown, is) refl

  pub errs-error : (why : ObjectWhy) → decided_shown (turn_from state event.hart t.hart pid t.process) made
      ≡ decided_if (turn_from state event.hart t.hart pid t.process) event.choice (instr_at (turn_from state event.hart t.hart pid t.process))
      → made ≡ decided_as.Errs why → Some why ≡ error_of (meaning state event)
  errs-error why shown is = rw (meaning-is state event pid t made shown, is) refl

  pub errs-world : (why : ObjectWhy) → decided_shown (turn_from state event.hart t.hart pid t.process) made
      ≡ decided_if (turn_from state event.hart t.hart pid t.process) event.choice (instr_at (turn_from state event.hart t.hart pid t.process))
      → made ≡ decided_as.Errs why → state ≡ world_after state (meaning state event)
  errs-world why shown is = rw (meaning-is state event pid t made shown, is) refl

  pub unfit-error : decided_shown (turn_from state event.hart t.hart pid t.process) made
      ≡ decided_if (turn_from state event.hart t.hart pid t.process) event.choice (instr_at (turn_from state event.hart t.hart pid t.process))
      → made ≡ decided_as.Unfit → Some Trap ≡ error_of (meaning state event)
  unfit-error shown is = rw (meaning-is state event pid t made shown, is) refl

  pub unfit-world : decided_shown (turn_from state event.hart t.hart pid t.process) made
      ≡ decided_if (turn_from state event.hart t.hart pid t.process) event.choice (instr_at (turn_from state event.hart t.hart pid t.process))
      → made ≡ decided_as.Unfit → state ≡ world_after state (meaning state event)
  unfit-world shown is = rw (meaning-is state event pid t made shown, is) refl
