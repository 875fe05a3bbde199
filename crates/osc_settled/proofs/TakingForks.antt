-- A fork takes a frame for each private frame of its process, and no other.
use Rattle.std.proofs.Common.{ℕ, zero, suc, ◌+◌, ◌≡◌, ◌<◌, ◌≤◌, nat_lt, Bool, true, false, cond, Some, None, List, [], ◌∷◌, length, map, filter, zip, slice_get, slice_set, arith, refl, ap, ◌∙◌}
use Rattle.std.specs.Prelude.{slice_index_or}
use Rattle.std.specs.List.{range_with_len}
use Rattle.std.proofs.lemmas.Bool.Decides.{nat_tests}
use Rattle.std.proofs.lemmas.List.Sums.{sum_by-cons}
use Rattle.osc_word.specs.declared.calls.Answer.TheVariants.{NoFrames}
use Rattle.osc_slot.specs.Heap.{free_count}
use Rattle.osc_slot.proofs.Backing.{free_count-take}
use Rattle.osc_space.specs.Space.{Space, reason, first_reason}
use Rattle.osc_space.specs.Fork.{private_frames, free_numbers, copies, set_free, fork_reasons, fork_plan}
use Rattle.osc_settled.proofs.Lists.{get-put_other}

-- frames that ascend from one on and are all free
abbrev FreeFrom : ℕ → List ℕ → List Bool → Type 0
FreeFrom low [] free = Unit {0}
FreeFrom low (f ∷ fs) free = (low ≤ f) × (slice_get free f ≡ Some true) × FreeFrom (suc f) fs free

lower : (low high : ℕ) (fs : List ℕ) (free : List Bool) → low ≤ high → FreeFrom high fs free → FreeFrom low fs free
lower low high [] free l a = tt
lower low high (f ∷ fs) free l a = (let b = a.0 in omega (arith, b, l), a.1, a.2)

still : (g low : ℕ) (fs : List ℕ) (free : List Bool) → g < low → FreeFrom low fs free → FreeFrom low fs (slice_set free g false)
still g low [] free l a = tt
still g low (f ∷ fs) free l a =
    let b = a.0 in
    (a.0, get-put_other free g f false (λ e. (let z : ⊥ = omega (arith, l, b, e) in z)) ∙ a.1, still g (suc f) fs free (omega (arith, l, b)) a.2)

takes_each : (low : ℕ) (fs : List ℕ) (free : List Bool) → FreeFrom low fs free → free_count (set_free false fs free) + length fs ≡ free_count free
takes_each low [] free a = omega arith
takes_each low (f ∷ fs) free a =
    let t = free_count-take free f a.1 in
    let on = takes_each (suc f) fs (slice_set free f false) (still f (suc f) fs free (omega arith) a.2) in
    omega (arith, t, on)

-- ---- the free frames, ascending
there : (free : List Bool) (i : ℕ) → slice_index_or free i false ≡ true → slice_get free i ≡ Some true
there [] i e = absurd (let z : ⊥ = grind (arith, e) in z)
there (b ∷ free) zero e = ap Some e
there (b ∷ free) (suc i) e = there free i e

numbers_free : (free : List Bool) (from n : ℕ) → FreeFrom from (filter (λ frame. slice_index_or free frame false) (range_with_len from n)) free
numbers_free free from zero = tt
numbers_free free from (suc n) = go (slice_index_or free from false) refl (numbers_free free (from + 1) n)
  where
    go : (b : Bool) → slice_index_or free from false ≡ b → FreeFrom (from + 1) (filter (λ frame. slice_index_or free frame false) (range_with_len (from + 1) n)) free
        → FreeFrom from (cond b (from ∷ filter (λ frame. slice_index_or free frame false) (range_with_len (from + 1) n)) (filter (λ frame. slice_index_or free frame false) (range_with_len (from + 1) n))) free
    go true e later = (omega arith, there free from e, lower (suc from) (from + 1) (filter (λ frame. slice_index_or free frame false) (range_with_len (from + 1) n)) free (omega arith) later)
    go false e later = lower from (from + 1) (filter (λ frame. slice_index_or free frame false) (range_with_len (from + 1) n)) free (omega arith) later

-- a test that is the list's own from a place on passes as often as the list has true
counts : (test : ℕ → Bool) (from : ℕ) (free : List Bool) → ((i : ℕ) → test (from + i) ≡ slice_index_or free i false) → length (filter test (range_with_len from (length free))) ≡ free_count free
counts test from [] h = refl
counts test from (b ∷ free) h =
    go (test from) b (ap test (let z : from ≡ from + 0 = omega arith in z) ∙ h 0)
    (counts test (from + 1) free (λ i. ap test (let z : from + 1 + i ≡ from + suc i = omega arith in z) ∙ h (suc i)))
  where
    go : (x y : Bool) → x ≡ y → length (filter test (range_with_len (from + 1) (length free))) ≡ free_count free
        → length (cond x (from ∷ filter test (range_with_len (from + 1) (length free))) (filter test (range_with_len (from + 1) (length free)))) ≡ free_count (y ∷ free)
    go true true e later = let s = sum_by-cons (λ x. cond x 1 0) true free in omega (arith, s, later)
    go false false e later = let s = sum_by-cons (λ x. cond x 1 0) false free in omega (arith, s, later)
    go true false e later = absurd (let z : ⊥ = cc in z)
    go false true e later = absurd (let z : ⊥ = cc in z)

-- ---- the frames that are copied into
into_free : (low : ℕ) (xs ys : List ℕ) (free : List Bool) → FreeFrom low ys free → FreeFrom low (map (λ (c : ℕ × ℕ). c.1) (zip xs ys)) free
into_free low [] ys free a = tt
into_free low (x ∷ xs) [] free a = tt
into_free low (x ∷ xs) (y ∷ ys) free a = (a.0, a.1, into_free (suc y) xs ys free a.2)

into_each : (xs ys : List ℕ) → length xs ≤ length ys → length (map (λ (c : ℕ × ℕ). c.1) (zip xs ys)) ≡ length xs
into_each [] ys l = refl
into_each (x ∷ xs) [] l = absurd (omega arith)
into_each (x ∷ xs) (y ∷ ys) l = let e = into_each xs ys (omega (arith, l)) in omega (arith, e)

enough : (s : Space) (free : List Bool) → first_reason (fork_reasons s free) ≡ None → length (private_frames s (length free)) ≤ free_count free
unfolding fork_reasons
enough s free e = go (nat_lt (free_count free) (length (private_frames s (length free)))) refl e
  where
    go : (b : Bool) → nat_lt (free_count free) (length (private_frames s (length free))) ≡ b → first_reason (reason b NoFrames ∷ []) ≡ None → length (private_frames s (length free)) ≤ free_count free
    go true f r = absurd (let z : ⊥ = grind (arith, r) in z)
    go false f r = grind (arith, nat_tests, f)

pub fork_takes : (s : Space) (free : List Bool) → first_reason (fork_reasons s free) ≡ None → free_count (fork_plan s free).free + length (private_frames s (length free)) ≡ free_count free
unfolding fork_plan
fork_takes s free e =
    let owned = private_frames s (length free) in
    let c = counts (λ frame. slice_index_or free frame false) 0 free (λ i. ap (λ k. slice_index_or free k false) (let z : 0 + i ≡ i = omega arith in z)) in
    let l = enough s free e in
    let t = takes_each 0 (map (λ (p : ℕ × ℕ). p.1) (copies s free)) free (into_free 0 owned (free_numbers free) free (numbers_free free 0 (length free))) in
    let n = into_each owned (free_numbers free) (omega (arith, c, l)) in
    omega (arith, t, n)
