-- Lists in the order of a number of each element.
use Rattle.std.proofs.Common.{ℕ, zero, suc, ◌≡◌, ◌<◌, ◌≤◌, ◌==◌, nat_lt, nat_le, ◌&&◌, ◌||◌, ◌+◌, Bool, true, false, not, cond, List, [], ◌∷◌, Some, None, find, filter, length, sum_by, arith, refl, ap}
use Rattle.std.specs.List.{list_any}
use Rattle.std.proofs.lemmas.Bool.Decides.{nat_tests}
use Rattle.std.proofs.lemmas.List.Sums.{sum_by-cons}
use Rattle.osc_slot.specs.Ordered.{insert_by, AllAbove, IsAscending}

module _ {X : Type 0} (number : X → ℕ) where
  pub any-insert : (test : X → Bool) (x : X) (xs : List X) → list_any test (insert_by number x xs) ≡ (test x || list_any test xs)
  unfolding insert_by
  any-insert test x [] = refl
  any-insert test x (y ∷ ys) = grind (arith, nat_tests, any-insert test x ys)

  pub length-insert : (x : X) (xs : List X) → length (insert_by number x xs) ≡ suc (length xs)
  unfolding insert_by
  length-insert x [] = refl
  length-insert x (y ∷ ys) = grind (arith, nat_tests, length-insert x ys)

  pub sum-insert : (f : X → ℕ) (x : X) (xs : List X) → sum_by f (insert_by number x xs) ≡ f x + sum_by f xs
  unfolding insert_by
  sum-insert f x [] = sum_by-cons f x []
  sum-insert f x (y ∷ ys) = go (nat_lt (number y) (number x)) (sum-insert f x ys)
    where
      go : (t : Bool) → sum_by f (insert_by number x ys) ≡ f x + sum_by f ys → sum_by f (cond t (y ∷ insert_by number x ys) (x ∷ y ∷ ys)) ≡ f x + sum_by f (y ∷ ys)
      go true later = let here = sum_by-cons f y (insert_by number x ys) in let there = sum_by-cons f y ys in omega arith
      go false later = sum_by-cons f x (y ∷ ys)

  pub find-insert : (q : ℕ) (x : X) (xs : List X) → find (λ y. number y == q) (insert_by number x xs) ≡ cond (number x == q) (Some x) (find (λ y. number y == q) xs)
  unfolding insert_by
  find-insert q x [] = refl
  find-insert q x (y ∷ ys) = grind (arith, nat_tests, find-insert q x ys)

  -- the numbers of a list
  abbrev pub has_number : ℕ → List X → Bool
  has_number n xs = list_any (λ x. number x == n) xs

  all_above_less : (m n : ℕ) (xs : List X) → m ≤ n → AllAbove number n xs → AllAbove number m xs
  unfolding AllAbove
  all_above_less m n [] l a = tt
  all_above_less m n (x ∷ xs) l a = (omega arith, all_above_less m n xs l a.1)

  all_above-insert : (n : ℕ) (x : X) (xs : List X) → n < number x → AllAbove number n xs → AllAbove number n (insert_by number x xs)
  unfolding AllAbove insert_by
  all_above-insert n x [] l a = (l, tt)
  all_above-insert n x (y ∷ ys) l a = go (nat_lt (number y) (number x)) (all_above-insert n x ys l a.1)
    where
      go : (t : Bool) → AllAbove number n (insert_by number x ys) → AllAbove number n (cond t (y ∷ insert_by number x ys) (x ∷ y ∷ ys))
      go true later = (a.0, later)
      go false later = (l, a)

  pub ascending-insert : (x : X) (xs : List X) → has_number (number x) xs ≡ false → IsAscending number xs → IsAscending number (insert_by number x xs)
  unfolding IsAscending AllAbove insert_by
  ascending-insert x [] e a = (tt, tt)
  ascending-insert x (y ∷ ys) e a = go (nat_lt (number y) (number x)) refl (λ l. ascending-insert x ys l a.1)
    where
      go : (t : Bool) → nat_lt (number y) (number x) ≡ t → (has_number (number x) ys ≡ false → IsAscending number (insert_by number x ys)) → IsAscending number (cond t (y ∷ insert_by number x ys) (x ∷ y ∷ ys))
      go true is later =
          let l : number y < number x = grind (arith, nat_tests) in
          (all_above-insert (number y) x ys l a.0, later (grind (arith, nat_tests)))
      go false is later =
          let l : number x < number y = grind (arith, nat_tests) in
          ((l, all_above_less (number x) (number y) ys (omega arith) a.0), a)

  all_above-filter : (n : ℕ) (test : X → Bool) (xs : List X) → AllAbove number n xs → AllAbove number n (filter test xs)
  unfolding AllAbove
  all_above-filter n test [] a = tt
  all_above-filter n test (x ∷ xs) a = go (test x) (all_above-filter n test xs a.1)
    where
      go : (t : Bool) → AllAbove number n (filter test xs) → AllAbove number n (cond t (x ∷ filter test xs) (filter test xs))
      go true later = (a.0, later)
      go false later = later

  pub ascending-filter : (test : X → Bool) (xs : List X) → IsAscending number xs → IsAscending number (filter test xs)
  unfolding IsAscending
  ascending-filter test [] a = tt
  ascending-filter test (x ∷ xs) a = go (test x) (ascending-filter test xs a.1)
    where
      go : (t : Bool) → IsAscending number (filter test xs) → IsAscending number (cond t (x ∷ filter test xs) (filter test xs))
      go true later = (all_above-filter (number x) test xs a.0, later)
      go false later = later

  -- what stands above a number does not have it
  pub none_at : (n m : ℕ) (xs : List X) → m ≤ n → AllAbove number n xs → has_number m xs ≡ false
  unfolding AllAbove
  none_at n m [] l a = refl
  none_at n m (x ∷ xs) l a = grind (arith, nat_tests, none_at n m xs l a.1, a.0)

  pub find_is_some : (q : ℕ) (xs : List X) → has_number q xs ≡ false → find (λ y. number y == q) xs ≡ None
  find_is_some q [] e = refl
  find_is_some q (x ∷ xs) e = grind (arith, nat_tests, find_is_some q xs)

  -- a filter by the number alone
  pub find-filter : (test : ℕ → Bool) (q : ℕ) (xs : List X) → find (λ y. number y == q) (filter (λ y. test (number y)) xs) ≡ cond (test q) (find (λ y. number y == q) xs) None
  find-filter test q [] = grind arith
  find-filter test q (x ∷ xs) = let later = find-filter test q xs in grind (arith, nat_tests, later)

  -- what is below all of a list goes before it
  pub insert-front : (x : X) (xs : List X) → AllAbove number (number x) xs → insert_by number x xs ≡ x ∷ xs
  unfolding insert_by AllAbove
  insert-front x [] a = refl
  insert-front x (y ∷ ys) a = let l : nat_lt (number y) (number x) ≡ false = (let h = a.0 in grind (arith, nat_tests, h)) in rw l refl

  -- whether one of the elements that pass passes another test
  pub any-filter : (f g : X → Bool) (xs : List X) → list_any f (filter g xs) ≡ list_any (λ x. f x && g x) xs
  any-filter f g [] = refl
  any-filter f g (x ∷ xs) = grind (arith, nat_tests, any-filter f g xs)

  -- filters whose tests agree at each number of the list
  pub filter_same : (f g : ℕ → Bool) (xs : List X) → ((q : ℕ) → has_number q xs ≡ true → f q ≡ g q) → filter (λ x. f (number x)) xs ≡ filter (λ x. g (number x)) xs
  filter_same f g [] h = refl
  filter_same f g (x ∷ xs) h =
      let here = h (number x) (grind (arith, nat_tests)) in
      let later = filter_same f g xs (λ q e. h q (grind (arith, nat_tests, e))) in
      rw here (ap (λ ys. cond (g (number x)) (x ∷ ys) ys) later)

  pub length-filter_both : (f : X → Bool) (xs : List X) → length (filter f xs) + length (filter (λ x. not (f x)) xs) ≡ length xs
  length-filter_both f [] = refl
  length-filter_both f (x ∷ xs) = let later = length-filter_both f xs in grind (arith, nat_tests, later)

  length-filter_either : (f g : X → Bool) (xs : List X) → ((x : X) → f x ≡ true → g x ≡ false) → length (filter (λ x. f x || g x) xs) ≡ length (filter f xs) + length (filter g xs)
  length-filter_either f g [] h = refl
  length-filter_either f g (x ∷ xs) h = let here = h x in let later = length-filter_either f g xs h in grind (arith, nat_tests, here, later)

  none_left : (q : ℕ) (xs : List X) → has_number q xs ≡ false → length (filter (λ x. number x == q) xs) ≡ 0
  none_left q [] e = refl
  none_left q (x ∷ xs) e = let later = none_left q xs in grind (arith, nat_tests, later)

  one_left : (q : ℕ) (xs : List X) → IsAscending number xs → has_number q xs ≡ true → length (filter (λ x. number x == q) xs) ≡ 1
  unfolding IsAscending
  one_left q [] a e = cc
  one_left q (x ∷ xs) a e = go (number x == q) refl (one_left q xs a.1)
    where
      go : (t : Bool) → (number x == q) ≡ t → (has_number q xs ≡ true → length (filter (λ y. number y == q) xs) ≡ 1) → length (cond t (x ∷ filter (λ y. number y == q) xs) (filter (λ y. number y == q) xs)) ≡ 1
      go true is later = let same : number x ≡ q = grind (arith, nat_tests) in let none = none_left q xs (none_at (number x) q xs (omega arith) a.0) in ap suc none
      go false is later = later (grind (arith, nat_tests, is))

  -- a list in order that has each number of a range has as many elements there
  pub length_range : (n first : ℕ) (xs : List X) → IsAscending number xs → ((q : ℕ) → first ≤ q → q < first + n → has_number q xs ≡ true) → length (filter (λ x. nat_le first (number x) && nat_lt (number x) (first + n)) xs) ≡ n
  length_range zero first xs a h = none xs
    where
      none : (ys : List X) → length (filter (λ y. nat_le first (number y) && nat_lt (number y) (first + 0)) ys) ≡ 0
      none [] = refl
      none (y ∷ ys) = let later = none ys in grind (arith, nat_tests, later)
  length_range (suc n) first xs a h =
      let one = one_left first xs a (h first (omega arith) (omega arith)) in
      let rest = length_range n (first + 1) xs a (λ q l m. h q (omega arith) (omega arith)) in
      let both = length-filter_either (λ x. number x == first) (λ x. nat_le (first + 1) (number x) && nat_lt (number x) (first + 1 + n)) xs (λ x e. grind (arith, nat_tests, e)) in
      let same = filter_same (λ q. nat_le first q && nat_lt q (first + suc n)) (λ q. (q == first) || (nat_le (first + 1) q && nat_lt q (first + 1 + n))) xs (λ q e. grind (arith, nat_tests)) in
      rw same (omega arith)
