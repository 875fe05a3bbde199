-- The least number that passes, and how many pass.
use Rattle.std.proofs.Common.{ℕ, zero, suc, ◌≡◌, ◌≢◌, ◌<◌, ◌≤◌, ◌==◌, ◌||◌, ◌+◌, Bool, true, false, not, cond, Some, None, arith, refl}
use Rattle.std.proofs.lemmas.Bool.Decides.{nat_tests}
use Rattle.osc_slot.specs.Least.{least, any, passing}

-- tests that agree on a range
pub least_same : (f g : ℕ → Bool) (from count : ℕ) → ((i : ℕ) → from ≤ i → i < from + count → f i ≡ g i) → least f from count ≡ least g from count
unfolding least
least_same f g from zero h = refl
least_same f g from (suc count) h = let rest = least_same f g (from + 1) count (λ i l m. h i (omega arith) (omega arith)) in grind (arith, h from, rest)

pub any_same : (f g : ℕ → Bool) (from count : ℕ) → ((i : ℕ) → from ≤ i → i < from + count → f i ≡ g i) → any f from count ≡ any g from count
unfolding any
any_same f g from zero h = refl
any_same f g from (suc count) h = let rest = any_same f g (from + 1) count (λ i l m. h i (omega arith) (omega arith)) in grind (arith, h from, rest)

pub passing_same : (f g : ℕ → Bool) (from count : ℕ) → ((i : ℕ) → from ≤ i → i < from + count → f i ≡ g i) → passing f from count ≡ passing g from count
unfolding passing
passing_same f g from zero h = refl
passing_same f g from (suc count) h = let rest = passing_same f g (from + 1) count (λ i l m. h i (omega arith) (omega arith)) in grind (arith, h from, rest)

-- what the least one is
pub least-Some : (test : ℕ → Bool) (from count i : ℕ) → least test from count ≡ Some i → (test i ≡ true) × (from ≤ i) × (i < from + count)
unfolding least
least-Some test from zero i e = cc
least-Some test from (suc count) i e = grind (arith, least-Some test (from + 1) count i)

pub least-None : (test : ℕ → Bool) (from count i : ℕ) → least test from count ≡ None → from ≤ i → i < from + count → test i ≡ false
unfolding least
least-None test from zero i e l m = absurd (omega arith)
least-None test from (suc count) i e l m = grind (arith, nat_tests, least-None test (from + 1) count i)

-- one of the range passes
pub any_at : (test : ℕ → Bool) (from count i : ℕ) → from ≤ i → i < from + count → test i ≡ true → any test from count ≡ true
unfolding any
any_at test from zero i l m t = absurd (omega arith)
any_at test from (suc count) i l m t = grind (arith, nat_tests, any_at test (from + 1) count i)

-- which one
pub record PassesAt (test : ℕ → Bool) (from count : ℕ) : Type 0 where
  pub number : ℕ
  pub low : from ≤ number
  pub high : number < from + count
  pub passes : test number ≡ true

pub any_where : (test : ℕ → Bool) (from count : ℕ) → any test from count ≡ true → PassesAt test from count
unfolding any
any_where test from zero e = absurd (cc)
any_where test from (suc count) e = go (test from) refl (any_where test (from + 1) count) e
  where
    go : (t : Bool) → test from ≡ t → (any test (from + 1) count ≡ true → PassesAt test (from + 1) count) → (t || any test (from + 1) count) ≡ true → PassesAt test from (suc count)
    go true is later e = record { number = from; low = omega arith; high = omega arith; passes = is }
    go false is later e =
        let w = later e in
        record { number = w.number; low = omega arith; high = omega arith; passes = w.passes }

pub any_none : (test : ℕ → Bool) (from count i : ℕ) → any test from count ≡ false → from ≤ i → i < from + count → test i ≡ false
unfolding any
any_none test from zero i e l m = absurd (omega arith)
any_none test from (suc count) i e l m = grind (arith, nat_tests, any_none test (from + 1) count i)

-- a range of which not all pass has a least one that does not
pub some_fails : (test : ℕ → Bool) (from count : ℕ) → passing test from count < count → least (λ i. not (test i)) from count ≢ None
unfolding least passing
some_fails test from zero s = absurd (omega arith)
some_fails test from (suc count) s = grind (arith, some_fails test (from + 1) count)

pub passing_le : (test : ℕ → Bool) (from count : ℕ) → passing test from count ≤ count
unfolding passing
passing_le test from zero = omega arith
passing_le test from (suc count) = grind (arith, passing_le test (from + 1) count)

-- a weaker test passes at no fewer
pub passing_more_pass : (f g : ℕ → Bool) (from count : ℕ) → ((i : ℕ) → from ≤ i → i < from + count → f i ≡ true → g i ≡ true) → passing f from count ≤ passing g from count
unfolding passing
passing_more_pass f g from zero h = omega arith
passing_more_pass f g from (suc count) h = let rest = passing_more_pass f g (from + 1) count (λ i l m. h i (omega arith) (omega arith)) in let here = h from (omega arith) (omega arith) in grind (arith, here, rest)

-- a range in two parts
pub passing_split : (test : ℕ → Bool) (from a b : ℕ) → passing test from (a + b) ≡ passing test from a + passing test (from + a) b
unfolding passing
passing_split test from zero b =
    let e : zero + b ≡ b = omega arith in
    let m : from + zero ≡ from = omega arith in
    rw (e, m) (omega arith)
passing_split test from (suc a) b =
    let rest = passing_split test (from + 1) a b in
    let e : suc a + b ≡ suc (a + b) = omega arith in
    let m : from + suc a ≡ from + 1 + a = omega arith in
    rw (e, m) (omega (arith, rest))

-- the test at numbers moved by as many
pub passing_moved : (test : ℕ → Bool) (by from count : ℕ) → passing (λ i. test (by + i)) from count ≡ passing test (by + from) count
unfolding passing
passing_moved test by from zero = refl
passing_moved test by from (suc count) = grind (arith, passing_moved test by (from + 1) count)

passing_past : (test : ℕ → Bool) (x from count : ℕ) → x < from → passing (λ i. (x == i) || test i) from count ≡ passing test from count
unfolding passing
passing_past test x from zero s = refl
passing_past test x from (suc count) s = grind (arith, nat_tests, passing_past test x (from + 1) count)

-- one number more passes
pub passing_more : (test : ℕ → Bool) (x from count : ℕ) → from ≤ x → x < from + count → passing (λ i. (x == i) || test i) from count ≡ cond (test x) 0 1 + passing test from count
unfolding passing
passing_more test x from zero s m = absurd (omega arith)
passing_more test x from (suc count) s m = grind (arith, nat_tests, passing_more test x (from + 1) count, passing_past test x (from + 1) count)

-- a number passes one of two tests
pub passing_either : (f g : ℕ → Bool) (from count : ℕ) → passing (λ i. f i || g i) from count ≤ passing f from count + passing g from count
unfolding passing
passing_either f g from zero = omega arith
passing_either f g from (suc count) = grind (arith, nat_tests, passing_either f g (from + 1) count)

pub passing_none : (test : ℕ → Bool) (from count : ℕ) → ((i : ℕ) → from ≤ i → i < from + count → test i ≡ false) → passing test from count ≡ 0
unfolding passing
passing_none test from zero h = refl
passing_none test from (suc count) h = let rest = passing_none test (from + 1) count (λ i l m. h i (omega arith) (omega arith)) in let here = h from (omega arith) (omega arith) in grind (arith, here, rest)

-- a test that only one number passes
pub passing_once : (test : ℕ → Bool) (from count : ℕ) → ((i j : ℕ) → test i ≡ true → test j ≡ true → i ≡ j) → passing test from count ≤ 1
unfolding passing
passing_once test from zero h = omega arith
passing_once test from (suc count) h = go (test from) refl (passing_once test (from + 1) count h)
  where
    other : test from ≡ true → (i : ℕ) → from + 1 ≤ i → (t : Bool) → test i ≡ t → test i ≡ false
    other is i l true e = absurd (let s = h from i is e in omega arith)
    other is i l false e = e

    go : (t : Bool) → test from ≡ t → passing test (from + 1) count ≤ 1 → cond t 1 0 + passing test (from + 1) count ≤ 1
    go true is later = let none = passing_none test (from + 1) count (λ i l m. other is i l (test i) refl) in omega arith
    go false is later = omega arith
