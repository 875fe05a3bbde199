-- Who holds what at the start, and after each run.
use Rattle.std.proofs.Common.{ℕ, zero, suc, ◌≡◌, ◌<◌, ◌≤◌, ◌+◌, Bool, true, false, nat_lt, Option, Some, None, is_some, List, [], ◌∷◌, length, map, replicate, slice_get, sum_by, arith, refl, sym, ap, subst, ◌∙◌}
use Rattle.std.specs.List.{range_with_len}
use Rattle.std.proofs.lemmas.Bool.Decides.{nat_tests}
use Rattle.std.proofs.lemmas.List.{get_or-replicate, get_or_past, length-replicate}
use Rattle.std.proofs.lemmas.List.FromFn.{length-map-range_with_len}
use Rattle.std.proofs.lemmas.Option.{get_or_from_slice_get, slice_get_within}
use Rattle.std.proofs.lemmas.List.Sums.{sum_by-cons}
use Rattle.osc_word.specs.declared.settings.Config.{Config}
use Rattle.osc_word.specs.declared.orders.Start.{Start}
use Rattle.osc_paging.specs.Boxes.{BoxState, new_box}
use Rattle.osc_calls.specs.Kernel.{KernelState}
use Rattle.osc_machine.specs.Parts.{Gate, HartState, State}
use Rattle.osc_machine.specs.Laws.{HasKernel}
use Rattle.osc_machine.specs.Step.{step}
use Rattle.osc_machine.specs.Run.{Ran, with_step, run_on}
use Rattle.osc_machine.specs.Start.{open_gate, first_hart, started}
use Rattle.osc_machine.proofs.KernelLaws.{start_has_kernel}
use Rattle.osc_safe.specs.Holding.{hands, gate_hand, HartHolds, Holds, RunsHold}
use Rattle.osc_safe.proofs.CallBoxes.{has}
use Rattle.osc_safe.proofs.HoldingSteps.{steps_hold}

-- ---- the harts of the start
-- what is true of each first hart is true of each that the list has
abbrev ForHart : (ℕ → HartState → Type 0) → ℕ → Option HartState → Type 0
ForHart P n None = Unit {0}
ForHart P n (Some h) = P n h

pub each-first : (P : ℕ → HartState → Type 0) (config : Config) (start : Start) → ((i : ℕ) → P i (first_hart config start i)) → (from count n : ℕ) (h : HartState)
    → slice_get (map (first_hart config start) (range_with_len from count)) n ≡ Some h → P (from + n) h
each-first P config start all from zero n h e = absurd (let b : ⊥ = grind (arith, e) in b)
each-first P config start all from (suc count) zero h e =
    let same : from ≡ from + 0 = omega arith in
    subst (λ z. P z h) same (subst (ForHart P from) e (all from))
each-first P config start all from (suc count) (suc n) h e =
    let same : from + 1 + n ≡ from + suc n = omega arith in
    subst (λ z. P z h) same (each-first P config start all (from + 1) count n h e)

-- a number that each first hart has 0 of is 0 in all
none-of-all : (f : HartState → ℕ) (config : Config) (start : Start) → ((i : ℕ) → f (first_hart config start i) ≡ 0) → (from count : ℕ)
    → sum_by f (map (first_hart config start) (range_with_len from count)) ≡ 0
none-of-all f config start all from zero = refl
none-of-all f config start all from (suc count) =
    let c = sum_by-cons f (first_hart config start from) (map (first_hart config start) (range_with_len (from + 1) count)) in
    let a = all from in
    let b = none-of-all f config start all (from + 1) count in
    omega (arith, a, b, c)

empty-hand : (n b : ℕ) → has (replicate n None) b ≡ false
empty-hand n b = go (nat_lt b n) refl
  where
    go : (t : Bool) → nat_lt b n ≡ t → has (replicate n None) b ≡ false
    go true e = ap is_some (get_or-replicate n b None None (let q : b < n = grind (arith, nat_tests, e) in q))
    go false e = ap is_some (get_or_past (replicate n None) b None (let q : n ≤ b = grind (arith, nat_tests, e) in let r = length-replicate {A = Option BoxState} n None in omega (arith, q, r)))

first-holds : (config : Config) (start : Start) (n : ℕ) → HartHolds config.harts n (first_hart config start n)
first-holds config start zero = record {
  number = refl;
  count = refl;
  room = length-replicate config.harts None;
  own = refl;
  asking = λ i. absurd (let b : ⊥ = grind (arith, i) in b);
  boxes = empty-hand config.harts;
  done = λ box k e. absurd (let b : ⊥ = grind (arith, e) in b);
}
first-holds config start (suc n) = record {
  number = refl;
  count = refl;
  room = length-replicate config.harts None;
  own = refl;
  asking = λ i. absurd (let b : ⊥ = grind (arith, i) in b);
  boxes = empty-hand config.harts;
  done = λ box k e. absurd (let b : ⊥ = grind (arith, e) in b);
}

first-hands : (config : Config) (start : Start) (b n : ℕ) → hands b (first_hart config start n) ≡ 0
first-hands config start b zero = let e = empty-hand config.harts b in grind (arith, nat_tests, e)
first-hands config start b (suc n) = let e = empty-hand config.harts b in grind (arith, nat_tests, e)

first-gates : (config : Config) (start : Start) (f n : ℕ) → gate_hand f (first_hart config start n) ≡ 0
first-gates config start f zero = refl
first-gates config start f (suc n) = refl

-- ---- the start
open-gates : (frames f : ℕ) (g : Gate) → slice_get (replicate frames open_gate) f ≡ Some g → open_gate ≡ g
open-gates frames f g e =
    sym (get_or-replicate frames f open_gate open_gate (subst (λ c. f < c) (length-replicate frames open_gate) (slice_get_within (replicate frames open_gate) f g e)))
    ∙ get_or_from_slice_get (replicate frames open_gate) f g open_gate e

started_holds : (start : Start) (config : Config) (k : KernelState) (s : State) → s.gates ≡ replicate config.frames open_gate → s.boxes ≡ replicate config.harts (Some new_box)
    → s.harts ≡ map (first_hart config start) (range_with_len 0 config.harts) → (kernel : KernelState) → HasKernel s kernel → Holds s
started_holds start config k s gs bs hs kernel has_kernel =
    let boxes : length s.boxes ≡ config.harts = ap length bs ∙ length-replicate config.harts (Some new_box) in
    let harts : length s.harts ≡ config.harts = ap length hs ∙ length-map-range_with_len (first_hart config start) 0 config.harts in record {
      kernel = kernel;
      has = has_kernel;
      room = boxes ∙ sym harts;
      hart = λ n h e. (let same : 0 + n ≡ n = omega arith in
          subst (λ c. HartHolds c n h) (sym harts) (subst (λ z. HartHolds config.harts z h) same
          (each-first (HartHolds config.harts) config start (first-holds config start) 0 config.harts n h (ap (λ xs. slice_get xs n) (sym hs) ∙ e))));
      box = λ b l. (let at_home : has s.boxes b ≡ true = ap (λ xs. has xs b) bs ∙ ap is_some (get_or-replicate config.harts b (Some new_box) None (subst (λ c. b < c) boxes l)) in
          let none : sum_by (hands b) s.harts ≡ 0 = ap (sum_by (hands b)) hs ∙ none-of-all (hands b) config start (first-hands config start b) 0 config.harts in
          grind (arith, at_home, none));
      gate = λ f g e. (let same = open-gates config.frames f g (ap (λ xs. slice_get xs f) (sym gs) ∙ e) in
          let none : sum_by (gate_hand f) s.harts ≡ 0 = ap (sum_by (gate_hand f)) hs ∙ none-of-all (gate_hand f) config start (first-gates config start f) 0 config.harts in
          grind (arith, same, none));
    }

-- ---- runs
pub holds_on : (picks : List ℕ) (ran : Ran) → Holds ran.state → Holds (run_on picks ran).state
unfolding run_on
holds_on [] ran holds = holds
holds_on (n ∷ picks) ran holds = holds_on picks (with_step ran (step ran.state n)) (steps_hold ran.state n holds)

pub runs_hold : RunsHold
runs_hold image config k picks =
    holds_on picks (record { state = started image config k; commits = []; trace = [] })
    (started_holds _ config k (started image config k) refl refl refl k (start_has_kernel image config k))
