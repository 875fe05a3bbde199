-- One hart turns, and the rest holds what it held.
use Rattle.std.proofs.Common.{ℕ, ◌≡◌, ◌<◌, ◌≤◌, ◌+◌, ◌==◌, Bool, true, false, Some, List, length, set, slice_get, slice_set, sum_by, arith, refl, sym, ap, subst, ◌∙◌}
use Rattle.std.proofs.lemmas.Bool.Decides.{nat_tests}
use Rattle.std.proofs.lemmas.List.{length-set}
use Rattle.std.proofs.lemmas.Option.{get_or_from_slice_get, slice_get_within}
use Rattle.std.proofs.lemmas.List.Sums.{sum_by-set, get_or-le-sum_by}
use Rattle.osc_paging.proofs.WordLists.{slice_get-set}
use Rattle.osc_calls.specs.Kernel.{KernelState}
use Rattle.osc_machine.specs.Parts.{Gate, HartState, State}
use Rattle.osc_machine.specs.Laws.{HasKernel}
use Rattle.osc_safe.specs.Holding.{one_if, hands, home, gate_hand, HartHolds, Holds}

-- a sum over a list, of which one item was read and another was written in its place
pub sum-set : {X : Type 0} (f : X → ℕ) (xs : List X) (n : ℕ) (x y : X) → slice_get xs n ≡ Some x → sum_by f (set xs n y) + f x ≡ sum_by f xs + f y
sum-set f xs n x y e =
    subst (λ z. sum_by f (set xs n y) + f z ≡ sum_by f xs + f y) (get_or_from_slice_get xs n x x e) (sum_by-set f xs n y x (slice_get_within xs n x e))

-- what is one item's is the whole's
pub item-within : {X : Type 0} (f : X → ℕ) (xs : List X) (n : ℕ) (x : X) → slice_get xs n ≡ Some x → f x ≤ sum_by f xs
item-within f xs n x e =
    subst (λ z. f z ≤ sum_by f xs) (get_or_from_slice_get xs n x x e) (get_or-le-sum_by f xs n x (slice_get_within xs n x e))

-- what is shown where hart n turns from h to x: what its hands gain the rest loses
pub record Turns (s u : State) (n : ℕ) (h x : HartState) : Type 0 where
  pub here : slice_get s.harts n ≡ Some h
  pub harts : u.harts ≡ s.harts
  pub room : length u.boxes ≡ length s.boxes
  pub holds : HartHolds (length s.harts) n x
  pub box : (b : ℕ) → b < length s.boxes → home b u + hands b x ≡ home b s + hands b h
  pub gate : (f : ℕ) (g : Gate) → slice_get u.gates f ≡ Some g → (was : Gate) × (slice_get s.gates f ≡ Some was) × (one_if g.taken + gate_hand f h ≡ one_if was.taken + gate_hand f x)

turned-hart : (s u : State) (n m : ℕ) (h x y : HartState) → Turns s u n h x → Holds s → slice_get (set u.harts n x) m ≡ Some y → HartHolds (length (set u.harts n x)) m y
turned-hart s u n m h x y t holds e =
    let size : length s.harts ≡ length (set u.harts n x) = sym (length-set u.harts n x ∙ ap length t.harts) in
    subst (λ c. HartHolds c m y) size (go (m == n) refl)
  where
    go : (b : Bool) → (m == n) ≡ b → HartHolds (length s.harts) m y
    go true d =
        let same : y ≡ x = grind (arith, nat_tests, e, d, slice_get-set u.harts n m x, t.here, t.harts) in
        let at : n ≡ m = grind (arith, nat_tests, d) in
        subst (λ z. HartHolds (length s.harts) m z) (sym same) (subst (λ k. HartHolds (length s.harts) k x) at t.holds)
    go false d = holds.hart m y (grind (arith, nat_tests, e, d, slice_get-set u.harts n m x, t.harts))

pub turned : (s u : State) (n : ℕ) (h x : HartState) (k : KernelState) → HasKernel (record u { harts = slice_set u.harts n x }) k
    → Turns s u n h x → Holds s → Holds (record u { harts = slice_set u.harts n x })
turned s u n h x k has t holds = record {
  kernel = k;
  has = has;
  room = t.room ∙ holds.room ∙ sym (length-set u.harts n x ∙ ap length t.harts);
  hart = λ m y e. turned-hart s u n m h x y t holds e;
  box = λ b l. (let less : b < length s.boxes = subst (λ c. b < c) t.room l in
      let sum : sum_by (hands b) (set u.harts n x) + hands b h ≡ sum_by (hands b) s.harts + hands b x = subst (λ xs. sum_by (hands b) (set xs n x) + hands b h ≡ sum_by (hands b) s.harts + hands b x) (sym t.harts) (sum-set (hands b) s.harts n h x t.here) in
      let was = holds.box b less in
      let now = t.box b less in
      omega (arith, sum, was, now));
  gate = λ f g e. (let sum : sum_by (gate_hand f) (set u.harts n x) + gate_hand f h ≡ sum_by (gate_hand f) s.harts + gate_hand f x = subst (λ xs. sum_by (gate_hand f) (set xs n x) + gate_hand f h ≡ sum_by (gate_hand f) s.harts + gate_hand f x) (sym t.harts) (sum-set (gate_hand f) s.harts n h x t.here) in
      let made = t.gate f g e in
      let was = holds.gate f made.0 made.1 in
      let now = made.2 in
      omega (arith, sum, was, now));
}
