-- What an environment call means in a world. This project's own. The number of a call stands in a7, its
-- arguments in a0, a1 and a2, and its answer in a0. Here a call's arguments are the registers in which they
-- stand, since some may be pointers.
use Rattle.std.specs.Prelude.{ℕ, ◌-◌, ◌==◌, Bool, false, List, [], ◌∷◌, ◌++◌, length, take, replicate, slice_get, Option, Some, None, ok_or, Result, Ok, Err}
use Rattle.osc_word.specs.declared.calls.Call.{Call}
use Rattle.osc_word.specs.declared.calls.Call.TheVariants.{Exit, Write, Malloc, Free, Realloc, Fork, Spawn, Join, Done, Share, Wait, Unknown, End}
use Rattle.osc_word.specs.Environment.{call_numbered}
use Rattle.osc_world.specs.declared.Value.{Value}
use Rattle.osc_world.specs.declared.Value.TheVariants.{Num, Ptr}
use Rattle.osc_world.specs.declared.Byte.{Byte}
use Rattle.osc_world.specs.declared.Byte.TheVariants.{Number}
use Rattle.osc_world.specs.declared.Place.{Place}
use Rattle.osc_world.specs.declared.ObjectWhy.{ObjectWhy}
use Rattle.osc_world.specs.declared.ObjectWhy.TheVariants.{PointerBytes, BadFree, BadCall}
use Rattle.osc_world.specs.Values.{numbers_in}
use Rattle.osc_world.specs.States.{changed_at}
use Rattle.osc_world.specs.Deeds.{Kind, Heaps, Writes, Exits, Leaves, answers}
use Rattle.osc_world.specs.Offers.{Goes, Only, Grants, then_try, provided, joins, waits, forks, spawns, shares, write_count}
use Rattle.osc_world.specs.World.{WorldTurn, WorldDeed, WorldOffer, Memory, Object, Live, Dead, killed, ObjectDeed, Makes, Kills, Replaces}
use Rattle.osc_world.specs.Accesses.{row_at, object_bytes, put_in_world}
use Rattle.osc_world.specs.Instructions.{register_of, objects_of}

-- ---- the heap

-- so many zero bytes
abbrev pub zeros : ℕ → List Byte
zeros count = replicate count (Number 0)

-- the common bytes, and zeros up to a size
abbrev pub resized : List Byte → ℕ → List Byte
resized bytes size = take size bytes ++ zeros (size - length bytes)

-- the objects once one is dead
abbrev pub without_object : List Object → ℕ → List Object
without_object objects object = changed_at killed objects object

-- the caller's objects: a new one comes last, and one that is replaced is dead
abbrev pub objects_after : List Object → ObjectDeed → List Object
objects_after objects (Makes size) = objects ++ Live (zeros size) ∷ []
objects_after objects (Kills object) = without_object objects object
objects_after objects (Replaces object size) =
    without_object objects object ++ Live (resized (object_bytes (slice_get objects object)) size) ∷ []

abbrev pub world_kind : Kind Value Byte Memory Place ObjectDeed
world_kind =
    record {
      number = Num;
      nought = Number 0;
      put = put_in_world;
      memory = (λ turn deed. record (turn.process.memory) { objects = objects_after turn.process.memory.objects deed });
    }

-- a pointer to the new object, or a refusal, which answers 0
abbrev pub grants_object : WorldTurn → ObjectDeed → WorldOffer
grants_object turn deed = Grants (Goes (Heaps deed (Ptr (length (objects_of turn)) 0))) (answers turn (Num 0))

-- whether a free of this offset of an object may be
abbrev pub is_live_start : ℕ → Option Object → Bool
is_live_start offset (Some (Live bytes)) = offset == 0
is_live_start offset (Some (Dead size)) = false
is_live_start offset None = false

-- free: of 0 it does nothing
abbrev pub free_deed : WorldTurn → Value → Result WorldDeed ObjectWhy
free_deed turn (Num number) = provided (number == 0) BadFree (Ok (answers turn (Num 0)))
free_deed turn (Ptr object offset) =
    provided (is_live_start offset (slice_get (objects_of turn) object)) BadFree (Ok (Heaps (Kills object) (Num 0)))

-- what a call does whose argument has to be a number
abbrev pub with_number : {T : Type 0} → Value → (ℕ → T) → Result T ObjectWhy
with_number (Num number) call = Ok (call number)
with_number (Ptr object offset) call = Err BadCall

-- malloc
abbrev pub malloc_offer : WorldTurn → Value → Result WorldOffer ObjectWhy
malloc_offer turn size = with_number size (λ n. grants_object turn (Makes n))

-- realloc: of 0 it is malloc
abbrev pub realloc_offer : WorldTurn → Value → Value → Result WorldOffer ObjectWhy
realloc_offer turn (Num number) size = provided (number == 0) BadFree (malloc_offer turn size)
realloc_offer turn (Ptr object offset) size =
    provided (is_live_start offset (slice_get (objects_of turn) object)) BadFree
    (with_number size (λ n. grants_object turn (Replaces object n)))

-- ---- calls

-- write: the first bytes of the buffer, as many as the output has room for
abbrev pub write_deed : WorldTurn → Value → ℕ → Result WorldDeed ObjectWhy
write_deed turn buffer asked =
    then_try (row_at turn (write_count turn.state asked) buffer) (λ bytes.
    then_try (ok_or (numbers_in bytes) PointerBytes) (λ numbers.
    Ok (Writes numbers)))

-- a deed that leaves nothing to choose
abbrev pub only_deed : Result WorldDeed ObjectWhy → Result WorldOffer ObjectWhy
only_deed deed = then_try deed (λ d. Ok (Only d))

-- a call whose arguments stand in these registers
unfoldable pub serves : WorldTurn → Call → Result WorldOffer ObjectWhy
serves turn (Exit status) = with_number (register_of turn status) (λ n. Only (Exits n))
serves turn (Write buffer asked) =
    then_try (with_number (register_of turn asked) (write_deed turn (register_of turn buffer))) only_deed
serves turn (Malloc size) = malloc_offer turn (register_of turn size)
serves turn (Free pointer) = only_deed (free_deed turn (register_of turn pointer))
serves turn (Realloc pointer size) = realloc_offer turn (register_of turn pointer) (register_of turn size)
serves turn Fork = Ok (forks Num turn)
serves turn (Spawn pc sp arg) =
    with_number (register_of turn pc) (λ n. spawns Num turn n (register_of turn sp) (register_of turn arg))
serves turn (Join thread) = with_number (register_of turn thread) (joins Num turn)
serves turn (Done value) = Ok (Only (Leaves (register_of turn value)))
serves turn (Share count) =
    with_number (register_of turn count) (λ n. Grants (shares n) (answers turn (Num 0)))
serves turn (Wait child) = with_number (register_of turn child) (waits Num turn)
serves turn (Unknown number) = Err BadCall
serves turn (End fault) = Err BadCall

-- an environment call: a0, a1 and a2 are x10, x11 and x12, and a7 is x17
abbrev pub calls : WorldTurn → Result WorldOffer ObjectWhy
calls turn =
    then_try (with_number (register_of turn 17) (λ number. call_numbered number 10 11 12)) (serves turn)
