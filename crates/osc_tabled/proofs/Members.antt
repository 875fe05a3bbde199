-- Lists of numbers with the same members have as many different ones.
use Rattle.std.proofs.Common.{ℕ, zero, suc, ◌+◌, ◌≡◌, ◌≢◌, ◌≤◌, ◌<◌, ◌==◌, ◌&&◌, ◌||◌, nat_le, nat_lt, not, Bool, true, false, cond, List, [], ◌∷◌, ◌++◌, length, map, filter, arith, refl, sym, ap, subst, ◌∙◌}
use Rattle.std.specs.List.{list_any, range_with_len}
use Rattle.std.proofs.lemmas.Bool.Decides.{nat_tests}
use Rattle.std.proofs.lemmas.List.Folds.{list_any-append}
use Rattle.osc_image.specs.Frames.{different}
use Rattle.osc_space.specs.Agree.{AreApart}
use Rattle.osc_settled.proofs.Different.{is_among, without, different-cons}

among-without : (x y : ℕ) (xs : List ℕ) → is_among y (without x xs) ≡ (not (x == y) && is_among y xs)
among-without x y [] = none (x == y)
  where
    none : (b : Bool) → false ≡ (not b && false)
    none true = refl
    none false = refl
among-without x y (z ∷ xs) = pick (z == x) refl (among-without x y xs)
  where
    pick : (b : Bool) → (z == x) ≡ b → is_among y (without x xs) ≡ (not (x == y) && is_among y xs)
        → is_among y (cond (not b) (z ∷ without x xs) (without x xs)) ≡ (not (x == y) && ((z == y) || is_among y xs))
    pick true e on = grind (arith, nat_tests, e, on)
    pick false e on = rw on (grind (arith, nat_tests, e))

-- a number that is there counts once
different-without : (x : ℕ) (ys : List ℕ) → is_among x ys ≡ true → different ys ≡ 1 + different (without x ys)
different-without x [] e = absurd (let z : ⊥ = grind (arith, e) in z)
different-without x (y ∷ ys) e = pick (y == x) refl e (different-without x ys)
  where
    pick : (b : Bool) → (y == x) ≡ b → (b || is_among x ys) ≡ true → (is_among x ys ≡ true → different ys ≡ 1 + different (without x ys))
        → different (y ∷ ys) ≡ 1 + different (cond (not b) (y ∷ without x ys) (without x ys))
    pick true t f on =
        let same : y ≡ x = grind (arith, nat_tests, t) in
        different-cons y ys ∙ ap (λ z. 1 + different (without z ys)) same
    pick false t f on =
        let other : (x == y) ≡ false = grind (arith, nat_tests, t) in
        let later = on f in
        let still : is_among y (without x ys) ≡ is_among y ys = among-without x y ys ∙ ap (λ b. not b && is_among y ys) other in
        let head = ap (λ (b : Bool). cond {A = ℕ} b 0 1) still in
        omega (arith, later, head)

-- only the members matter
pub same-members : (xs ys : List ℕ) → ((n : ℕ) → is_among n xs ≡ is_among n ys) → different xs ≡ different ys
same-members [] [] e = refl
same-members [] (y ∷ ys) e = absurd (let f : false ≡ ((y == y) || is_among y ys) = e y in let z : ⊥ = grind (arith, nat_tests, f) in z)
same-members (x ∷ xs) ys e = pick (is_among x xs) refl (same-members xs ys) (same-members xs (without x ys))
  where
    there : is_among x ys ≡ true
    there = sym (e x) ∙ (let z : ((x == x) || is_among x xs) ≡ true = grind (arith, nat_tests) in z)

    old : is_among x xs ≡ true → (n : ℕ) → is_among n xs ≡ is_among n ys
    old t n = go (x == n) refl ∙ e n
      where
        go : (b : Bool) → (x == n) ≡ b → is_among n xs ≡ ((x == n) || is_among n xs)
        go true f = let same : x ≡ n = grind (arith, nat_tests, f) in sym (ap (λ m. is_among m xs) same) ∙ t ∙ sym (ap (λ b. b || is_among n xs) f)
        go false f = sym (ap (λ b. b || is_among n xs) f)

    new : is_among x xs ≡ false → (n : ℕ) → is_among n xs ≡ is_among n (without x ys)
    new t n = go (x == n) refl ∙ sym (among-without x n ys)
      where
        go : (b : Bool) → (x == n) ≡ b → is_among n xs ≡ (not (x == n) && is_among n ys)
        go true f =
            let same : x ≡ n = grind (arith, nat_tests, f) in
            sym (ap (λ m. is_among m xs) same) ∙ t ∙ sym (ap (λ b. not b && is_among n ys) f)
        go false f = ap (λ b. b || is_among n xs) (sym f) ∙ e n ∙ sym (ap (λ b. not b && is_among n ys) f)

    pick : (b : Bool) → is_among x xs ≡ b → (((n : ℕ) → is_among n xs ≡ is_among n ys) → different xs ≡ different ys)
        → (((n : ℕ) → is_among n xs ≡ is_among n (without x ys)) → different xs ≡ different (without x ys)) → cond b 0 1 + different xs ≡ different ys
    pick true t on less = let later = on (old t) in omega (arith, later)
    pick false t on less =
        let later = less (new t) in
        let more = different-without x ys there in
        omega (arith, later, more)

-- numbers of which none stands twice are all different
pub apart-different : (xs : List ℕ) → AreApart xs → different xs ≡ length xs
apart-different [] a = refl
apart-different (x ∷ xs) a =
    let head = ap (λ (b : Bool). cond {A = ℕ} b 0 1) a.0 in let later = apart-different xs a.1 in omega (arith, head, later)

-- lists with no member in common
pub different-append : (xs ys : List ℕ) → ((n : ℕ) → is_among n xs ≡ true → is_among n ys ≡ false) → different (xs ++ ys) ≡ different xs + different ys
different-append [] ys e = omega arith
different-append (x ∷ xs) ys e =
    let none : is_among x ys ≡ false = e x (let z : ((x == x) || is_among x xs) ≡ true = grind (arith, nat_tests) in z) in
    let here : is_among x (xs ++ ys) ≡ is_among x xs = list_any-append (λ y. y == x) xs ys ∙ ap (λ b. is_among x xs || b) none ∙ left (is_among x xs) in
    let head = ap (λ (b : Bool). cond {A = ℕ} b 0 1) here in
    let later = different-append xs ys (λ n f. e n (let z : ((x == n) || is_among n xs) ≡ true = grind (arith, nat_tests, f) in z)) in
    omega (arith, head, later)
  where
    left : (b : Bool) → (b || false) ≡ b
    left true = refl
    left false = refl

-- ---- numbers in a row that pass a test
pub among-passing : (test : ℕ → Bool) (n first count : ℕ) → is_among n (filter test (range_with_len first count)) ≡ (test n && (nat_le first n && nat_lt n (first + count)))
among-passing test n first zero = none (test n) (let z : (nat_le first n && nat_lt n (first + 0)) ≡ false = grind (arith, nat_tests) in z)
  where
    none : (b : Bool) → (nat_le first n && nat_lt n (first + 0)) ≡ false → false ≡ (b && (nat_le first n && nat_lt n (first + 0)))
    none true e = sym e
    none false e = refl
among-passing test n first (suc count) = go (test first) refl (first == n) refl (among-passing test n (first + 1) count)
  where
    go : (b : Bool) → test first ≡ b → (c : Bool) → (first == n) ≡ c → is_among n (filter test (range_with_len (first + 1) count)) ≡ (test n && (nat_le (first + 1) n && nat_lt n (first + 1 + count)))
        → is_among n (cond b (first ∷ filter test (range_with_len (first + 1) count)) (filter test (range_with_len (first + 1) count))) ≡ (test n && (nat_le first n && nat_lt n (first + suc count)))
    go true e true g later = let same : first ≡ n = grind (arith, nat_tests, g) in let t : test n ≡ true = sym (ap test same) ∙ e in grind (arith, nat_tests, same, t, g, later)
    go true e false g later = grind (arith, nat_tests, later, g)
    go false e true g later = let same : first ≡ n = grind (arith, nat_tests, g) in let t : test n ≡ false = sym (ap test same) ∙ e in grind (arith, nat_tests, later, t)
    go false e false g later = grind (arith, nat_tests, later, g)

pub apart-passing : (test : ℕ → Bool) (first count : ℕ) → AreApart (filter test (range_with_len first count))
apart-passing test first zero = tt
apart-passing test first (suc count) = go (test first) (apart-passing test (first + 1) count)
  where
    absent : is_among first (filter test (range_with_len (first + 1) count)) ≡ false
    absent = among-passing test first (first + 1) count ∙ none (test first) (let z : (nat_le (first + 1) first && nat_lt first (first + 1 + count)) ≡ false = grind (arith, nat_tests) in z)
      where
        none : (b : Bool) → (nat_le (first + 1) first && nat_lt first (first + 1 + count)) ≡ false → (b && (nat_le (first + 1) first && nat_lt first (first + 1 + count))) ≡ false
        none true e = e
        none false e = refl

    go : (b : Bool) → AreApart (filter test (range_with_len (first + 1) count)) → AreApart (cond b (first ∷ filter test (range_with_len (first + 1) count)) (filter test (range_with_len (first + 1) count)))
    go true later = (absent, later)
    go false later = later

-- a number in a row is a member of it
pub any-within : (test : ℕ → Bool) (n first count : ℕ) → first ≤ n → n < first + count → test n ≡ true → list_any test (range_with_len first count) ≡ true
any-within test n first zero l m e = absurd (let z : ⊥ = omega (arith, l, m) in z)
any-within test n first (suc count) l m e = go (first == n) refl (λ late. any-within test n (first + 1) count late (omega (arith, m)) e)
  where
    or-right : (a b : Bool) → b ≡ true → (a || b) ≡ true
    or-right true b f = refl
    or-right false b f = f

    go : (b : Bool) → (first == n) ≡ b → (first + 1 ≤ n → list_any test (range_with_len (first + 1) count) ≡ true) → (test first || list_any test (range_with_len (first + 1) count)) ≡ true
    go true f later = let same : first ≡ n = grind (arith, nat_tests, f) in ap (λ b. b || list_any test (range_with_len (first + 1) count)) (ap test same ∙ e)
    go false f later = or-right (test first) _ (later (grind (arith, nat_tests, f, l)))
