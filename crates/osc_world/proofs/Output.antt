-- The output stays within its room.
use Rattle.std.proofs.Common.{◌≡◌, ℕ, ◌+◌, ◌≤◌, List, [], ◌∷◌, length, length-append, Option, Some, None, Result, Ok, Err, refl, arith, zero, suc, take, drop, subst}
use Rattle.std.specs.Prelude.{ok_or}
use Rattle.osc_word.specs.Environment.{output_limit}
use Rattle.osc_word.specs.declared.steps.Choice.{Choice}
use Rattle.osc_word.specs.declared.steps.Event.{Event}
use Rattle.osc_sv39.specs.declared.entries.Access.TheVariants as access
use Rattle.osc_rv.specs.declared.instr.Instr.{Instr}
use Rattle.osc_world.specs.declared.Value.{Value}
use Rattle.osc_world.specs.declared.Byte.{Byte}
use Rattle.osc_world.specs.declared.Byte.TheVariants.{Number, Part}
use Rattle.osc_world.specs.declared.Place.{Place}
use Rattle.osc_world.specs.declared.ObjectWhy.{ObjectWhy}
use Rattle.osc_world.specs.declared.ObjectWhy.TheVariants.{PointerBytes}
use Rattle.osc_world.specs.Values.{numbers_in, advanced}
use Rattle.osc_world.specs.States.{turn_of}
use Rattle.osc_world.specs.Deeds.{Steps, Heaps, Writes, Shares, Forks, Spawns, Exits, Leaves, put_if, state_after}
use Rattle.osc_world.specs.Offers.{Meaning, Goes, Errs, Unfit, then_try, chosen, write_count}
use Rattle.osc_world.specs.World.{World, WorldTurn, WorldDeed, WorldOffer, WorldPut}
use Rattle.osc_world.specs.Accesses.{reached_place, row_at, before, loaded_byte, bytes_at, area_bytes, put_in_world}
use Rattle.osc_world.specs.Instructions.{register_of}
use Rattle.osc_world.specs.Calls.{world_kind}
use Rattle.osc_world.specs.Events.{offered, does_if, meaning_of, meaning_by, meaning, meaning_in, instr_at}
use Rattle.osc_world.specs.Run.{ObjectRun, judged, judged_as, judged_on, object_run}
use Rattle.osc_world.proofs.Table.{rows, OfMeaning, OfResult, OfDeed, IsNoWrite, WritesMeet, chosen-of, step-of, conditional-of, calls-of}

-- a deed's output fits after so many bytes
Fits : ℕ → WorldDeed → Type 0
Fits count (Writes bytes) = count + length bytes ≤ output_limit
Fits count (Steps step) = Unit {0}
Fits count (Heaps deed value) = Unit {0}
Fits count (Shares more) = Unit {0}
Fits count (Forks hart) = Unit {0}
Fits count (Spawns hart pc sp arg) = Unit {0}
Fits count (Exits status) = Unit {0}
Fits count (Leaves value) = Unit {0}

no-write-fits : (count : ℕ) (deed : WorldDeed) → IsNoWrite deed → Fits count deed
unfolding Fits IsNoWrite
no-write-fits count (Writes bytes) n = absurd n
no-write-fits count (Steps step) n = tt
no-write-fits count (Heaps deed value) n = tt
no-write-fits count (Shares more) n = tt
no-write-fits count (Forks hart) n = tt
no-write-fits count (Spawns hart pc sp arg) n = tt
no-write-fits count (Exits status) n = tt
no-write-fits count (Leaves value) n = tt

put-output : (turn : WorldTurn) (put : Option WorldPut) → (put_if world_kind turn put).output ≡ turn.state.output
unfolding put_in_world
put-output turn None = refl
put-output turn (Some put) = refl

after-fits : (turn : WorldTurn) (deed : WorldDeed) → length turn.state.output ≤ output_limit → Fits (length turn.state.output) deed → length (state_after world_kind turn deed).output ≤ output_limit
unfolding state_after Fits
after-fits turn (Writes bytes) l f = rw (length-append turn.state.output bytes) f
after-fits turn (Steps step) l f = rw (put-output turn step.put) l
after-fits turn (Heaps deed value) l f = l
after-fits turn (Shares more) l f = l
after-fits turn (Forks hart) l f = l
after-fits turn (Spawns hart pc sp arg) l f = l
after-fits turn (Exits status) l f = l
after-fits turn (Leaves value) l f = l

-- ---- write

OfBytes : ℕ → Result (List Byte) ObjectWhy → Type 0
OfBytes n (Ok bytes) = length bytes ≤ n
OfBytes n (Err why) = Unit {0}

before-length : (n : ℕ) (first rest : Result (List Byte) ObjectWhy) → OfBytes 1 first → OfBytes n rest → OfBytes (suc n) (before first rest)
unfolding OfBytes
before-length n (Err why) rest f r = tt
before-length n (Ok bytes) (Err why) f r = tt
before-length n (Ok bytes) (Ok more) f r = let e = length-append bytes more in omega arith

byte_at-length : (turn : WorldTurn) (address : Value) → OfBytes 1 (loaded_byte turn address)
unfolding OfBytes
byte_at-length turn address = by (reached_place turn.process access.Load 1 address)
  where
    by : (at : Result Place ObjectWhy) → OfBytes 1 (then_try at (λ at. Ok (bytes_at turn at 1)))
    by (Ok at) = short (drop at.offset (area_bytes turn.state.shared turn.process.memory at.area))
      where
        short : (xs : List Byte) → length (take 1 xs) ≤ 1
        short [] = omega arith
        short (x ∷ xs) = omega arith
    by (Err why) = tt

row_at-length : (turn : WorldTurn) (count : ℕ) (address : Value) → OfBytes count (row_at turn count address)
unfolding row_at OfBytes
row_at-length turn zero address = omega arith
row_at-length turn (suc count) address = before-length count (loaded_byte turn address) (row_at turn count (advanced address 1)) (byte_at-length turn address) (row_at-length turn count (advanced address 1))

numbers_in-length : (bytes : List Byte) (numbers : List ℕ) → numbers_in bytes ≡ Some numbers → length numbers ≡ length bytes
unfolding numbers_in
numbers_in-length [] numbers e = grind arith
numbers_in-length (Number n ∷ bytes) numbers e = grind (arith, numbers_in-length bytes)
numbers_in-length (Part o k i ∷ bytes) numbers e = absurd (cc)

writes-fit : (turn : WorldTurn) → length turn.state.output ≤ output_limit → WritesMeet (Fits (length turn.state.output)) turn
unfolding OfBytes OfDeed WritesMeet Fits
writes-fit turn h buffer asked = by (row_at turn (write_count turn.state asked) buffer) (row_at-length turn (write_count turn.state asked) buffer)
  where
    fit : (bytes : List Byte) (numbers : Option (List ℕ)) → length bytes ≤ write_count turn.state asked → numbers_in bytes ≡ numbers → OfDeed (Fits (length turn.state.output)) (then_try (ok_or numbers PointerBytes) (λ ns. Ok (Writes ns)))
    fit bytes None l e = tt
    fit bytes (Some numbers) l e = let same = numbers_in-length bytes numbers e in omega arith

    by : (r : Result (List Byte) ObjectWhy) → OfBytes (write_count turn.state asked) r → OfDeed (Fits (length turn.state.output)) (then_try r (λ bytes. then_try (ok_or (numbers_in bytes) PointerBytes) (λ numbers. Ok (Writes numbers))))
    by (Ok bytes) l = fit bytes (numbers_in bytes) l refl
    by (Err why) l = tt

-- ---- events

OfWorld : Meaning World ObjectWhy → Type 0
OfWorld (Goes world) = length world.output ≤ output_limit
OfWorld (Errs why) = Unit {0}
OfWorld Unfit = Unit {0}

offered-fits : (turn : WorldTurn) → length turn.state.output ≤ output_limit → (i : Instr) → OfResult (Fits (length turn.state.output)) (Unit {0}) (offered turn i)
offered-fits turn h = rows turn (λ i r. OfResult (Fits (length turn.state.output)) (Unit {0}) r)
    (λ i r. step-of (Fits (length turn.state.output)) (Unit {0}) (no-write-fits (length turn.state.output)) r)
    (calls-of (Fits (length turn.state.output)) (Unit {0}) (no-write-fits (length turn.state.output)) turn (writes-fit turn h))
    (λ width rd rs1 rs2 aq rl. conditional-of (Fits (length turn.state.output)) (Unit {0}) (no-write-fits (length turn.state.output)) tt turn width rd (register_of turn rs1) (register_of turn rs2))

meant-fits : (turn : WorldTurn) → length turn.state.output ≤ output_limit → (m : Meaning WorldDeed ObjectWhy) → OfMeaning (Fits (length turn.state.output)) (Unit {0}) m → OfWorld (meaning_of turn m)
unfolding OfMeaning OfWorld
meant-fits turn h (Goes deed) f = after-fits turn deed h f
meant-fits turn h (Errs why) f = tt
meant-fits turn h Unfit f = tt

by-fits : (turn : WorldTurn) (c : Choice) → length turn.state.output ≤ output_limit → (r : Result WorldOffer ObjectWhy) → OfResult (Fits (length turn.state.output)) (Unit {0}) r → OfWorld (meaning_by turn c r)
unfolding OfResult OfWorld
by-fits turn c h (Ok offer) f = meant-fits turn h (chosen turn.state.harts offer c) (chosen-of (Fits (length turn.state.output)) (Unit {0}) turn.state.harts offer c f)
by-fits turn c h (Err why) f = tt

does_if-fits : (turn : WorldTurn) (c : Choice) (i : Option Instr) → length turn.state.output ≤ output_limit → OfWorld (does_if turn c i)
unfolding OfWorld
does_if-fits turn c None h = tt
does_if-fits turn c (Some i) h = by-fits turn c h (offered turn i) (offered-fits turn h i)

-- the turn of a hart is one of the world
turn-of : (world : World) (number : ℕ) (turn : WorldTurn) → turn_of world number ≡ Some turn → turn.state ≡ world
turn-of world number turn e = grind arith

meaning_in-fits : (world : World) (c : Choice) (number : ℕ) (turn : Option WorldTurn) → turn_of world number ≡ turn → length world.output ≤ output_limit → OfWorld (meaning_in c turn)
unfolding OfWorld
meaning_in-fits world c number None e h = tt
meaning_in-fits world c number (Some turn) e h =
    let fits : length turn.state.output ≤ output_limit = rw (turn-of world number turn e) h in
    does_if-fits turn c (instr_at turn) fits

pub output-fits : (world : World) (event : Event) (next : World) → length world.output ≤ output_limit → meaning world event ≡ Goes next → length next.output ≤ output_limit
unfolding meaning OfWorld
output-fits world event next h e =
    let all : OfWorld (meaning_in event.choice (turn_of world event.hart)) = meaning_in-fits world event.choice event.hart (turn_of world event.hart) refl h in
    let goes : OfWorld (Goes next) = subst (λ m. OfWorld m) e all in
    goes

judged_as-fits : (world : World) (n : ℕ) (event : Event) (m : Meaning World ObjectWhy) → meaning world event ≡ m → length world.output ≤ output_limit → length (judged_as world n m).world.output ≤ output_limit
judged_as-fits world n event (Goes next) e h = output-fits world event next h e
judged_as-fits world n event (Errs why) e h = h
judged_as-fits world n event Unfit e h = h

judged-fits : (world : World) (n : ℕ) (error : Option ObjectWhy) (event : Event) → length world.output ≤ output_limit → length (judged_on world n error event).world.output ≤ output_limit
judged-fits world n None event h = judged_as-fits world n event (meaning world event) refl h
judged-fits world n (Some why) event h = h

pub run-fits : (run : ObjectRun) (events : List Event) → length run.world.output ≤ output_limit → length (object_run run events).world.output ≤ output_limit
unfolding object_run
run-fits run [] h = h
run-fits run (event ∷ events) h = run-fits (judged run event) events (judged-fits run.world run.events run.error event h)
