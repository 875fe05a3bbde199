-- Frames that calls gave, counted: each region once, however many hold it.
use Rattle.std.proofs.Common.{ℕ, zero, suc, ◌+◌, ◌≡◌, ◌<◌, ◌≤◌, ◌==◌, nat_lt, Bool, true, false, cond, Option, Some, None, List, [], ◌∷◌, ◌++◌, length, arith, refl, sym, ap, subst, ◌∙◌}
use Rattle.std.specs.Prelude.{count_by, sum_by}
use Rattle.std.specs.List.{list_any, range_with_len}
use Rattle.std.proofs.lemmas.Bool.Decides.{nat_tests}
use Rattle.std.proofs.lemmas.List.Sums.{sum_by-append, sum_by-cons}
use Rattle.osc_space.specs.Share.{Regions, holders}
use Rattle.osc_parts.specs.Frames.{one_at, among}
use Rattle.osc_settled.specs.Memory.{one_if}
use Rattle.osc_machine.specs.Replay.{Region}
use Rattle.osc_machine.specs.Refusals.{region_frames}
use Rattle.osc_counted.specs.Regions.{Givers, is_giver, times, given_frames, AreGiven}

-- 1 where it is so
abbrev pub bit : Bool → ℕ
bit b = cond b 1 0

-- ---- sums over so many numbers from 0 on
pub total : (ℕ → ℕ) → ℕ → ℕ
total g zero = 0
total g (suc n) = g 0 + total (λ i. g (suc i)) n

pub total-same : (g h : ℕ → ℕ) (n : ℕ) → ((i : ℕ) → i < n → g i ≡ h i) → total g n ≡ total h n
unfolding total
total-same g h zero e = refl
total-same g h (suc n) e =
    let a = e 0 (omega arith) in let b = total-same (λ i. g (suc i)) (λ i. h (suc i)) n (λ i l. e (suc i) (omega (arith, l))) in omega (arith, a, b)

total-add : (g h : ℕ → ℕ) (n : ℕ) → total (λ i. g i + h i) n ≡ total g n + total h n
unfolding total
total-add g h zero = refl
total-add g h (suc n) = let b = total-add (λ i. g (suc i)) (λ i. h (suc i)) n in omega (arith, b)

total-none : (n : ℕ) → total (λ i. 0) n ≡ 0
unfolding total
total-none zero = refl
total-none (suc n) = let b = total-none n in omega (arith, b)

next_at : (x i : ℕ) → one_at (suc x) (suc i) ≡ one_at x i
next_at x i = grind (arith, nat_tests)

total-at : (x n : ℕ) → x < n → total (λ i. one_at x i) n ≡ 1
unfolding total
total-at x zero l = absurd (omega arith)
total-at zero (suc n) l =
    let a = total-same (λ i. one_at 0 (suc i)) (λ i. 0) n (λ i m. grind (arith, nat_tests)) in let b = total-none n in
    let z : one_at 0 0 ≡ 1 = grind (arith, nat_tests) in omega (arith, a, b, z)
total-at (suc x) (suc n) l =
    let a = total-same (λ i. one_at (suc x) (suc i)) (λ i. one_at x i) n (λ i m. next_at x i) in let b = total-at x n (omega (arith, l)) in
    let z : one_at (suc x) 0 ≡ 0 = grind (arith, nat_tests) in omega (arith, a, b, z)

-- a list of such numbers has each as often as it stands there
pub total-among : (xs : List ℕ) (n : ℕ) → ((f : ℕ) → 0 < among f xs → f < n) → total (λ f. among f xs) n ≡ length xs
total-among [] n h = total-none n
total-among (x ∷ xs) n h =
    let a = total-add (λ f. one_at x f) (λ f. among f xs) n in
    let b = total-at x n (h x (grind (arith, nat_tests))) in
    let c = total-among xs n (λ f l. h f (omega (arith, l))) in
    omega (arith, a, b, c)

pub total-regions : (regions : Regions) → total (λ f. one_if (holders regions f)) (length regions) ≡ sum_by one_if regions
unfolding total
total-regions [] = refl
total-regions (x ∷ regions) = let a = total-regions regions in let b = sum_by-cons one_if x regions in omega (arith, a, b)

-- those that pass a test, counted one by one
pub total-test : (test : ℕ → Bool) (n first : ℕ) → count_by test (range_with_len first n) ≡ total (λ i. bit (test (first + i))) n
unfolding total
total-test test zero first = refl
total-test test (suc n) first =
    let here = sum_by-cons (λ i. bit (test i)) first (range_with_len (first + 1) n) in
    let later = total-test test n (first + 1) in
    let same = total-same (λ i. bit (test (first + 1 + i))) (λ i. bit (test (first + suc i))) n (λ i l. (let e : first + 1 + i ≡ first + suc i = omega arith in ap (λ j. bit (test j)) e)) in
    let at : bit (test first) ≡ bit (test (first + 0)) = (let e : first ≡ first + 0 = omega arith in ap (λ j. bit (test j)) e) in
    omega (arith, here, later, same, at)

pub given-total : (givers : Givers) (count call : ℕ) → given_frames givers count call ≡ total (λ f. bit (is_giver call (givers f))) count
given-total givers count call =
    total-test (λ f. is_giver call (givers f)) count 0
    ∙ total-same (λ i. bit (is_giver call (givers (0 + i)))) (λ f. bit (is_giver call (givers f))) count (λ i l. (let e : 0 + i ≡ i = omega arith in ap (λ j. bit (is_giver call (givers j))) e))

-- ---- regions
pub times-cons : (x : Option ℕ) (r : Region) (rs : List Region) → times x (r ∷ rs) ≡ bit (is_giver r.call x) + times x rs
times-cons x r rs = sum_by-cons (λ (s : Region). bit (is_giver s.call x)) r rs

pub times-append : (x : Option ℕ) (rs ss : List Region) → times x (rs ++ ss) ≡ times x rs + times x ss
times-append x rs ss = sum_by-append (λ (s : Region). bit (is_giver s.call x)) rs ss

is-giver : (call : ℕ) (x : Option ℕ) → is_giver call x ≡ true → x ≡ Some call
is-giver call None e = absurd (let z : ⊥ = grind (arith, e) in z)
is-giver call (Some other) e = let same : other ≡ call = grind (arith, nat_tests, e) in ap Some same

-- a region's call is that of another, or of none
again : (call : ℕ) (rs : List Region) → list_any (λ (other : Region). other.call == call) rs ≡ true → 0 < times (Some call) rs
again call [] e = absurd (let z : ⊥ = grind (arith, e) in z)
again call (r ∷ rs) e = go (r.call == call) refl e (again call rs)
  where
    go : (b : Bool) → (r.call == call) ≡ b → list_any (λ (other : Region). other.call == call) (r ∷ rs) ≡ true
        → (list_any (λ (other : Region). other.call == call) rs ≡ true → 0 < times (Some call) rs) → 0 < times (Some call) (r ∷ rs)
    go true f g more =
        let c = times-cons (Some call) r rs in
        let t : (call == r.call) ≡ true = grind (arith, nat_tests, f) in
        let o : bit (call == r.call) ≡ 1 = ap bit t in
        omega (arith, c, o)
    go false f g more = let c = times-cons (Some call) r rs in let later = more (grind (arith, nat_tests, f, g)) in omega (arith, c, later)

never : (call : ℕ) (rs : List Region) → list_any (λ (other : Region). other.call == call) rs ≡ false → times (Some call) rs ≡ 0
never call [] e = refl
never call (r ∷ rs) e =
    let f : (r.call == call) ≡ false = grind (arith, nat_tests, e) in
    let c = times-cons (Some call) r rs in
    let t : (call == r.call) ≡ false = grind (arith, nat_tests, f) in
    let o : bit (call == r.call) ≡ 0 = ap bit t in
    let later = never call rs (grind (arith, nat_tests, e)) in
    omega (arith, c, o, later)

one_some : (n : ℕ) → 0 < n → one_if n ≡ 1
one_some zero l = absurd (omega arith)
one_some (suc n) l = refl

-- one region more: its frames are counted where no other of its call is there
one-more : (x : Option ℕ) (r : Region) (rs : List Region) (b : Bool) → list_any (λ (other : Region). other.call == r.call) rs ≡ b
    → one_if (times x (r ∷ rs)) ≡ cond b 0 (bit (is_giver r.call x)) + one_if (times x rs)
one-more x r rs b e = go (is_giver r.call x) refl b e
  where
    go : (g : Bool) → is_giver r.call x ≡ g → (b : Bool) → list_any (λ (other : Region). other.call == r.call) rs ≡ b
        → one_if (times x (r ∷ rs)) ≡ cond b 0 (bit (is_giver r.call x)) + one_if (times x rs)
    go false f b h =
        let c = times-cons x r rs in
        let o : bit (is_giver r.call x) ≡ 0 = ap bit f in
        let same : times x (r ∷ rs) ≡ times x rs = omega (arith, c, o) in
        let z : cond b 0 (bit (is_giver r.call x)) ≡ 0 = ap (λ (n : ℕ). cond b 0 n) o ∙ either b in
        let a = ap one_if same in
        omega (arith, a, z)
      where
        either : (b : Bool) → cond {A = ℕ} b 0 0 ≡ 0
        either true = refl
        either false = refl
    go true f true h =
        let c = times-cons x r rs in
        let some = subst (λ y. 0 < times y rs) (sym (is-giver r.call x f)) (again r.call rs h) in
        let a = one_some (times x rs) some in
        let d = one_some (times x (r ∷ rs)) (omega (arith, c, some)) in
        omega (arith, a, d)
    go true f false h =
        let c = times-cons x r rs in
        let none = subst (λ y. times y rs ≡ 0) (sym (is-giver r.call x f)) (never r.call rs h) in
        let o : bit (is_giver r.call x) ≡ 1 = ap bit f in
        let a = ap one_if none in
        let d = one_some (times x (r ∷ rs)) (omega (arith, c, o)) in
        omega (arith, a, d, o)

-- the frames of given regions are as many as they have pages, each call's once
pub given-counted : (givers : Givers) (calls count : ℕ) (rs : List Region) → AreGiven givers calls count rs
    → total (λ f. one_if (times (givers f) rs)) count ≡ region_frames rs
given-counted givers calls count [] g = total-none count
given-counted givers calls count (r ∷ rs) g =
    go (list_any (λ (other : Region). other.call == r.call) rs) refl (given-counted givers calls count rs g.2)
  where
    go : (b : Bool) → list_any (λ (other : Region). other.call == r.call) rs ≡ b → total (λ f. one_if (times (givers f) rs)) count ≡ region_frames rs
        → total (λ f. one_if (times (givers f) (r ∷ rs))) count ≡ cond b 0 r.pages + region_frames rs
    go true e later =
        let same = total-same (λ f. one_if (times (givers f) (r ∷ rs))) (λ f. one_if (times (givers f) rs)) count (λ f l. (let o = one-more (givers f) r rs true e in omega (arith, o))) in
        omega (arith, same, later)
    go false e later =
        let split = total-same (λ f. one_if (times (givers f) (r ∷ rs))) (λ f. bit (is_giver r.call (givers f)) + one_if (times (givers f) rs)) count (λ f l. one-more (givers f) r rs false e) in
        let add = total-add (λ f. bit (is_giver r.call (givers f))) (λ f. one_if (times (givers f) rs)) count in
        let own = given-total givers count r.call in
        let is = g.1 in
        omega (arith, split, add, own, is, later)
