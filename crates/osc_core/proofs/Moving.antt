-- What moves out of a machine and into it.
use Rattle.std.proofs.Common.{ℕ, zero, suc, ◌≡◌, ◌%◌, ◌<◌, ◌≤◌, ◌++◌, nat_le, Bool, true, false, Option, Some, None, is_some, length, List, [], ◌∷◌, map, replicate, slice_get, append_assoc, arith, refl, sym, ◌∙◌, ap}
use Rattle.std.proofs.lemmas.Bool.Decides.{nat_tests}
use Rattle.osc_guest.specs.Fits.{last_version}
use Rattle.osc_kernel.specs.Seen.{SeenKernel}
use Rattle.osc_calls.specs.Open.{open_kernel}
use Rattle.osc_image.specs.Image.{Image}
use Rattle.osc_word.specs.declared.settings.Config.{Config}
use Rattle.osc_paging.specs.Boxes.{BoxState, new_box}
use Rattle.osc_machine.specs.Parts.{Gate, HartState, State}
use Rattle.osc_machine.specs.Start.{start_of}
use Rattle.osc_machine.specs.Start as start
use Rattle.osc_turns.specs.Seen.{kernel_in}
use Rattle.osc_core.specs.Parts.{AllHome, AreVersions, StartsHome, held_in, open_gate}
use Rattle.osc_core.specs.Shared.{Shared, gate_of, state_of}
use Rattle.osc_core.proofs.Opening.{opened}

-- ---- boxes, one place at a time
pub takes_some : {T : Type 0} (xs : List T) (x : T) (all rest : List (Option T)) → all ≡ Some x ∷ rest
    → (xs ++ (x ∷ [])) ++ held_in rest ≡ xs ++ held_in all
takes_some xs x all rest is = append_assoc xs (x ∷ []) (held_in rest) ∙ ap (λ l. xs ++ held_in l) (sym is)

pub takes_none : {T : Type 0} (all rest : List (Option T)) → all ≡ None ∷ rest → held_in rest ≡ held_in all
takes_none all rest is = ap held_in (sym is)

pub ends : {T : Type 0} (all : List (Option T)) → all ≡ [] → held_in all ≡ []
ends all is = ap held_in is

-- where all are there, they are what is there
pub all_moved : {T : Type 0} (all : List (Option T))
    → ((n : ℕ) (held : Option T) → slice_get all n ≡ Some held → is_some held ≡ true)
    → map Some (held_in all) ≡ all
all_moved [] there = refl
all_moved (None ∷ rest) there = absurd (let z : ⊥ = grind (arith, there 0 None refl) in z)
all_moved (Some x ∷ rest) there = ap (λ l. Some x ∷ l) (all_moved rest (λ n. there (suc n)))

-- ---- gates
gate_open : (word : ℕ) → (gate_of word).taken ≡ false → open_gate word ≡ gate_of word
gate_open word free =
    let below : word < 9223372036854775808 = grind (arith, nat_tests, free) in
    let small : word % 9223372036854775808 ≡ word = omega (arith, below) in
    rw (small, free) refl

pub all_open : (words : List ℕ) → ((n : ℕ) (gate : Gate) → slice_get (map gate_of words) n ≡ Some gate → gate.taken ≡ false)
    → map open_gate words ≡ map gate_of words
all_open [] free = refl
all_open (word ∷ rest) free =
    rw (gate_open word (free 0 (gate_of word) refl), all_open rest (λ n. free (suc n))) refl

pub are_versions : (words : List ℕ) → ((n : ℕ) (gate : Gate) → slice_get (map gate_of words) n ≡ Some gate → gate.taken ≡ false)
    → AreVersions words
are_versions [] free n word e = absurd (let z : ⊥ = grind (arith, e) in z)
are_versions (word ∷ rest) free zero found e =
    let here : (gate_of word).taken ≡ false = free 0 (gate_of word) refl in
    let same : word ≡ found = grind (arith, e) in
    let below : word < 9223372036854775808 = grind (arith, nat_tests, here) in
    let small : word ≤ last_version = omega (arith, below) in
    rw (← same) small
are_versions (word ∷ rest) free (suc n) found e = are_versions rest (λ m. free (suc m)) n found e

pub open_versions : (versions : List ℕ) → AreVersions versions → map gate_of versions ≡ map open_gate versions
open_versions [] small = refl
open_versions (version ∷ rest) small =
    rw (opened version (small 0 version refl), open_versions rest (λ n. small (suc n))) refl

-- ---- the whole
pub are_parts : (words gates : List ℕ) (homes : List (Option BoxState)) (kernel : Option SeenKernel) (config : Config) (boxes : List BoxState) (k : SeenKernel)
    → AllHome (record { words = words; gates = map gate_of gates; boxes = homes; kernel = kernel; config = config })
    → boxes ≡ held_in homes → kernel ≡ Some k
    → (let m : Shared = record { words = words; gates = map open_gate gates; boxes = map Some boxes; kernel = Some k; config = config } in m)
    ≡ record { words = words; gates = map gate_of gates; boxes = homes; kernel = kernel; config = config }
are_parts words gates homes kernel config boxes k home out held =
    rw (out, all_moved homes home.boxes, all_open gates home.gates, held) refl

held_few : {T : Type 0} (all : List (Option T)) → length (held_in all) ≤ length all
held_few [] = omega arith
held_few (None ∷ rest) = let few : length (held_in rest) ≤ length rest = held_few rest in omega (arith, few)
held_few (Some x ∷ rest) = let few : length (held_in rest) ≤ length rest = held_few rest in omega (arith, few)

pub have_room : (homes : List (Option BoxState)) (boxes : List BoxState) (room : ℕ) → boxes ≡ held_in homes → length homes ≤ room → length boxes ≤ room
have_room homes boxes room out enough = rw (out) (let few : length (held_in homes) ≤ length homes = held_few homes in omega (arith, few, enough))

-- ---- the start
none_left : {T : Type 0} (count : ℕ) (x : T) (n : ℕ) (y : T) → slice_get (replicate count x) n ≡ Some y → y ≡ x
none_left zero x n y e = absurd (let z : ⊥ = grind (arith, e) in z)
none_left (suc count) x zero y e = grind (arith, e)
none_left (suc count) x (suc n) y e = none_left count x n y e

pub starts_home : StartsHome
unfolding start_of
starts_home image config m harts is = record {
  kernel = (let k : kernel_in m.kernel ≡ Some (open_kernel image config) = ap (λ (s : State). s.kernel) is in there m.kernel k);
  boxes = λ n held e. rw (none_left config.harts (Some new_box) n held (sym (ap (λ (s : State). slice_get s.boxes n) is) ∙ e)) refl;
  gates = λ n gate e. rw (none_left config.frames start.open_gate n gate (sym (ap (λ (s : State). slice_get s.gates n) is) ∙ e)) refl;
}
  where
    there : (o : Option SeenKernel) → kernel_in o ≡ Some (open_kernel image config) → is_some o ≡ true
    there None k = absurd (let z : ⊥ = grind (arith, k) in z)
    there (Some seen) k = refl
