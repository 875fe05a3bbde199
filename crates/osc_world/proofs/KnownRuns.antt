-- Each pointer names a granted object: events, runs and the boot.
use Rattle.std.proofs.Common.{◌≡◌, ℕ, ◌-◌, ◌*◌, true, List, [], ◌∷◌, ◌++◌, Option, Some, None, option_map, Result, Ok, Err, refl, slice_get, map, subst}
use Rattle.std.specs.Option.{option_and_then}
use Rattle.std.specs.List.{list_all, range_with_len}
use Rattle.osc_word.specs.AddressMap.{first_stack_page, stack_size}
use Rattle.osc_word.specs.declared.steps.Choice.{Choice}
use Rattle.osc_word.specs.declared.steps.Event.{Event}
use Rattle.osc_word.specs.declared.settings.Config.{Config}
use Rattle.osc_rv.specs.declared.instr.Instr.{Instr}
use Rattle.osc_image.specs.Image.{Image, laid_byte, pages}
use Rattle.osc_world.specs.declared.Value.{Value}
use Rattle.osc_world.specs.declared.Byte.TheVariants.{Number}
use Rattle.osc_world.specs.declared.ObjectWhy.{ObjectWhy}
use Rattle.osc_world.specs.States.{Hart, Process, turn_in, turn_on, turn_of, idle}
use Rattle.osc_world.specs.Offers.{Meaning, Goes, Errs, Unfit, chosen}
use Rattle.osc_world.specs.World.{World, WorldTurn, WorldDeed, WorldOffer, Memory}
use Rattle.osc_world.specs.Events.{offered, meaning_of, meaning_by, does_if, instr_at, meaning_in, meaning}
use Rattle.osc_world.specs.Run.{ObjectRun, judged_as, judged_on, judged, object_run, page_of_image, zero_page, memory_with, boot}
use Rattle.osc_world.specs.Knows.{is_known_byte, knows_page, knows_memory, knows_hart, is_spawned, Knows}
use Rattle.osc_world.proofs.Table.{OfMeaning, OfResult, chosen-of}
use Rattle.osc_world.proofs.Known.{and-both, all-append, all-replicate}
use Rattle.osc_world.proofs.KnownDeeds.{InTurn, KnownDeed, after-knows}
use Rattle.osc_world.proofs.KnownOffers.{offered-known}

-- ---- events

OfWorld : Meaning World ObjectWhy → Type 0
OfWorld (Goes world) = Knows world
OfWorld (Errs why) = Unit {0}
OfWorld Unfit = Unit {0}

meant-knows : (turn : WorldTurn) (m : Meaning WorldDeed ObjectWhy) → InTurn turn → Knows turn.state → OfMeaning (KnownDeed turn) (Unit {0}) m → OfWorld (meaning_of turn m)
unfolding OfMeaning OfWorld
meant-knows turn (Goes deed) i k d = after-knows turn deed i k d
meant-knows turn (Errs why) i k d = tt
meant-knows turn Unfit i k d = tt

by-knows : (turn : WorldTurn) (c : Choice) (r : Result WorldOffer ObjectWhy) → InTurn turn → Knows turn.state → OfResult (KnownDeed turn) (Unit {0}) r → OfWorld (meaning_by turn c r)
unfolding OfResult OfWorld
by-knows turn c (Ok offer) i k d = meant-knows turn (chosen turn.state.harts offer c) i k (chosen-of (KnownDeed turn) (Unit {0}) turn.state.harts offer c d)
by-knows turn c (Err why) i k d = tt

does_if-knows : (turn : WorldTurn) (c : Choice) (x : Option Instr) → InTurn turn → Knows turn.state → OfWorld (does_if turn c x)
unfolding OfWorld
does_if-knows turn c None i k = tt
does_if-knows turn c (Some x) i k = by-knows turn c (offered turn x) i k (offered-known turn x i k)

in-knows : (world : World) (c : Choice) (number : ℕ) → Knows world → OfWorld (meaning_in c (turn_of world number))
unfolding OfWorld
in-knows world c number k = on_hart (slice_get world.harts number) refl
  where
    on_process : (hart : Hart Value) (pid : ℕ) → slice_get world.harts number ≡ Some hart → hart.process ≡ Some pid → (found : Option (Process Memory)) → slice_get world.processes pid ≡ found
        → OfWorld (meaning_in c (option_map (λ process. record { state = world; number = number; hart = hart; pid = pid; process = process }) found))
    on_process hart pid e f None g = tt
    on_process hart pid e f (Some process) g =
        let turn : WorldTurn = record { state = world; number = number; hart = hart; pid = pid; process = process } in
        does_if-knows turn c (instr_at turn) (record { process = g; hart = e; runs = f }) k

    on_pid : (hart : Hart Value) → slice_get world.harts number ≡ Some hart → (pid : Option ℕ) → hart.process ≡ pid → OfWorld (meaning_in c (option_and_then (turn_in world number hart) pid))
    on_pid hart e None f = tt
    on_pid hart e (Some pid) f = on_process hart pid e f (slice_get world.processes pid) refl

    on_hart : (found : Option (Hart Value)) → slice_get world.harts number ≡ found → OfWorld (meaning_in c (option_and_then (turn_on world number) found))
    on_hart None e = tt
    on_hart (Some hart) e = on_pid hart e hart.process refl

pub event-knows : (world : World) (event : Event) (now : World) → Knows world → meaning world event ≡ Goes now → Knows now
unfolding meaning OfWorld
event-knows world event now k e =
    let all : OfWorld (meaning_in event.choice (turn_of world event.hart)) = in-knows world event.choice event.hart k in
    let goes : OfWorld (Goes now) = subst (λ m. OfWorld m) e all in
    goes

-- ---- runs

judged_as-knows : (world : World) (n : ℕ) (event : Event) (m : Meaning World ObjectWhy) → meaning world event ≡ m → Knows world → Knows (judged_as world n m).world
judged_as-knows world n event (Goes now) e k = event-knows world event now k e
judged_as-knows world n event (Errs why) e k = k
judged_as-knows world n event Unfit e k = k

judged-knows : (world : World) (n : ℕ) (error : Option ObjectWhy) (event : Event) → Knows world → Knows (judged_on world n error event).world
judged-knows world n None event k = judged_as-knows world n event (meaning world event) refl k
judged-knows world n (Some why) event k = k

pub run-knows : (run : ObjectRun) (events : List Event) → Knows run.world → Knows (object_run run events).world
unfolding object_run
run-knows run [] k = k
run-knows run (event ∷ events) k = run-knows (judged run event) events (judged-knows run.world run.events run.error event k)

-- ---- the boot

numbers-known : (f : ℕ → ℕ) (addresses : List ℕ) → list_all (is_known_byte 0) (map (λ a. Number (f a)) addresses) ≡ true
numbers-known f [] = refl
numbers-known f (a ∷ addresses) = numbers-known f addresses

images-known : (image : Image) (numbers : List ℕ) → list_all (knows_page 0) (map (page_of_image image) numbers) ≡ true
images-known image [] = refl
images-known image (n ∷ numbers) = and-both (knows_page 0 (page_of_image image n)) (list_all (knows_page 0) (map (page_of_image image) numbers)) (numbers-known (laid_byte image.segments) (range_with_len (4096 * n) 4096)) (images-known image numbers)

stack-known : (numbers : List ℕ) → list_all (knows_page 0) (map zero_page numbers) ≡ true
stack-known [] = refl
stack-known (n ∷ numbers) = and-both (knows_page 0 (zero_page n)) (list_all (knows_page 0) (map zero_page numbers)) (all-replicate (is_known_byte 0) 4096 (Number 0) refl) (stack-known numbers)

pub boot-knows : (image : Image) (config : Config) → Knows (boot image config)
boot-knows image config =
    let memory : knows_memory (memory_with image (pages image)) ≡ true = and-both (list_all (knows_page 0) (map (page_of_image image) (pages image) ++ map zero_page (range_with_len first_stack_page stack_size))) true (all-append (knows_page 0) (map (page_of_image image) (pages image)) (map zero_page (range_with_len first_stack_page stack_size)) (images-known image (pages image)) (stack-known (range_with_len first_stack_page stack_size))) refl in
    let processes : List (Process Memory) = (boot image config).processes in
    record {
      shared = refl;
      memories = and-both (knows_memory (memory_with image (pages image))) true memory refl;
      harts = all-replicate (knows_hart processes) (config.harts - 1) idle refl;
      left = refl;
      spawned = all-replicate (is_spawned []) (config.harts - 1) idle refl;
    }
