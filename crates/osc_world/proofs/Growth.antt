-- What a deed leaves of the counts of a world.
use Rattle.std.proofs.Common.{◌≡◌, ℕ, ◌≤◌, ◌==◌, cond, List, [], ◌∷◌, ◌++◌, length, length-append, length-set, Some, option_map, refl, arith, slice_get, zero, suc}
use Rattle.std.proofs.lemmas.List.{length-map}
use Rattle.std.proofs.lemmas.Bool.Decides.{nat_tests}
use Rattle.std.specs.Prelude.{slice_set}
use Rattle.osc_world.specs.declared.Value.{Value}
use Rattle.osc_world.specs.declared.Byte.{Byte}
use Rattle.osc_world.specs.States.{Hart, Thread, Process}
use Rattle.osc_world.specs.Deeds.{state_after}
use Rattle.osc_world.specs.World.{WorldTurn, WorldDeed, Memory, Object}
use Rattle.osc_world.specs.Accesses.{put_in_world}
use Rattle.osc_world.specs.Calls.{world_kind}
use Rattle.osc_world.proofs.Lists.{length-changed_at}

pub harts-after : (turn : WorldTurn) (deed : WorldDeed) → length (state_after world_kind turn deed).harts ≡ length turn.state.harts
unfolding state_after put_in_world
harts-after turn deed = grind (arith, nat_tests, length-set {A = Hart Value}, length-map {A = Hart Value} {B = Hart Value})

pub processes-after : (turn : WorldTurn) (deed : WorldDeed) → length turn.state.processes ≤ length (state_after world_kind turn deed).processes
unfolding state_after put_in_world
processes-after turn deed = grind (arith, nat_tests, length-set {A = Process Memory}, length-append {A = Process Memory})

pub threads-after : (turn : WorldTurn) (deed : WorldDeed) → length turn.state.threads ≤ length (state_after world_kind turn deed).threads
unfolding state_after put_in_world
threads-after turn deed = grind (arith, nat_tests, length-append {A = Thread Value}, length-changed_at {X = Thread Value})

pub shared-after : (turn : WorldTurn) (deed : WorldDeed) → length turn.state.shared ≤ length (state_after world_kind turn deed).shared
unfolding state_after put_in_world
shared-after turn deed = grind (arith, nat_tests, length-append {A = List Byte}, length-changed_at {X = List Byte})

-- what stands in a list of which an element was set, or that has one more
pub set-get : {X : Type 0} (xs : List X) (i j : ℕ) (y : X) → slice_get (slice_set xs i y) j ≡ cond (j == i) (option_map (λ x. y) (slice_get xs j)) (slice_get xs j)
set-get [] i j y = grind (arith, nat_tests)
set-get (x ∷ xs) zero zero y = refl
set-get (x ∷ xs) zero (suc j) y = grind (arith, nat_tests)
set-get (x ∷ xs) (suc i) zero y = grind (arith, nat_tests)
set-get (x ∷ xs) (suc i) (suc j) y = grind (arith, nat_tests, set-get xs i j y)

pub append-get : {X : Type 0} (xs : List X) (y x : X) (j : ℕ) → slice_get xs j ≡ Some x → slice_get (xs ++ y ∷ []) j ≡ Some x
append-get [] y x j e = absurd (cc)
append-get (z ∷ xs) y x zero e = e
append-get (z ∷ xs) y x (suc j) e = append-get xs y x j e

-- an object keeps its number
pub objects-after : (turn : WorldTurn) (deed : WorldDeed) (pid : ℕ) (x y : Process Memory) → slice_get turn.state.processes turn.pid ≡ Some turn.process
    → slice_get turn.state.processes pid ≡ Some x → slice_get (state_after world_kind turn deed).processes pid ≡ Some y
    → length x.memory.objects ≤ length y.memory.objects
unfolding state_after put_in_world
objects-after turn deed pid x y own e f = grind (arith, nat_tests, own, e, f, set-get {X = Process Memory}, append-get {X = Process Memory}, length-append {A = Object}, length-changed_at {X = Object})
