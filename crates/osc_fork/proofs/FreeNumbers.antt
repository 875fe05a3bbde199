-- The free frames, ascending: the least leads them, and the others follow once it is taken.
use Rattle.std.proofs.Common.{ℕ, suc, ◌≡◌, ◌<◌, ◌+◌, Bool, true, false, cond, Option, Some, None, List, [], ◌∷◌, length, position, filter, arith, refl, ap, sym, subst, ◌∙◌}
use Rattle.std.specs.Prelude.{slice_index_or, slice_set}
use Rattle.std.specs.List.{range_with_len}
use Rattle.std.proofs.lemmas.Bool.Decides.{nat_tests}
use Rattle.osc_space.specs.Fork.{free_numbers}

-- the places, from a number on, at which a list has true
abbrev marked : ℕ → List Bool → List ℕ
marked from [] = []
marked from (b ∷ bs) = cond b (from ∷ marked (from + 1) bs) (marked (from + 1) bs)

are_marked : (test : ℕ → Bool) (from : ℕ) (bs : List Bool) → ((i : ℕ) → i < length bs → test (from + i) ≡ slice_index_or bs i false) → filter test (range_with_len from (length bs)) ≡ marked from bs
are_marked test from [] h = refl
are_marked test from (b ∷ bs) h = go (test from) (here (h 0 (omega arith))) (are_marked test (from + 1) bs (λ i l. subst (λ k. test k ≡ slice_index_or bs i false) (omega arith) (h (suc i) (omega (arith, l)))))
  where
    here : test (from + 0) ≡ b → test from ≡ b
    here e = let z : from + 0 ≡ from = omega arith in subst (λ k. test k ≡ b) z e

    go : (c : Bool) → c ≡ b → filter test (range_with_len (from + 1) (length bs)) ≡ marked (from + 1) bs
        → cond c (from ∷ filter test (range_with_len (from + 1) (length bs))) (filter test (range_with_len (from + 1) (length bs))) ≡ cond b (from ∷ marked (from + 1) bs) (marked (from + 1) bs)
    go c e later = rw (e, later) refl

numbers_are : (free : List Bool) → free_numbers free ≡ marked 0 free
numbers_are free = are_marked (λ frame. slice_index_or free frame false) 0 free (λ i l. let e : 0 + i ≡ i = omega arith in ap (λ k. slice_index_or free k false) e)

least_leads : (free : List Bool) (from i : ℕ) → position (λ b. b) free ≡ Some i → marked from free ≡ (from + i) ∷ marked from (slice_set free i false)
least_leads [] from i e = cc
least_leads (true ∷ free) from i e = let z : 0 ≡ i = grind (arith, nat_tests, e) in subst (λ k. marked from (true ∷ free) ≡ (from + k) ∷ marked from (slice_set (true ∷ free) k false)) z (let y : from + 0 ≡ from = omega arith in rw y refl)
least_leads (false ∷ free) from i e = go (position (λ b. b) free) refl e (λ j. least_leads free (from + 1) j)
  where
    go : (o : Option ℕ) → position (λ b. b) free ≡ o → position (λ b. b) (false ∷ free) ≡ Some i
        → ((j : ℕ) → position (λ b. b) free ≡ Some j → marked (from + 1) free ≡ (from + 1 + j) ∷ marked (from + 1) (slice_set free j false))
        → marked from (false ∷ free) ≡ (from + i) ∷ marked from (slice_set (false ∷ free) i false)
    go None k f later = absurd (grind (arith, nat_tests, k, f))
    go (Some j) k f later =
        let is : suc j ≡ i = grind (arith, nat_tests, k, f) in
        let at : from + 1 + j ≡ from + suc j = omega arith in
        subst (λ n. marked from (false ∷ free) ≡ (from + n) ∷ marked from (slice_set (false ∷ free) n false)) is (later j k ∙ ap (λ n. n ∷ marked (from + 1) (slice_set free j false)) at)

pub least_first : (free : List Bool) (frame : ℕ) → position (λ b. b) free ≡ Some frame → free_numbers free ≡ frame ∷ free_numbers (slice_set free frame false)
least_first free frame e =
    numbers_are free ∙ least_leads free 0 frame e ∙ ap (λ xs. (0 + frame) ∷ xs) (sym (numbers_are (slice_set free frame false))) ∙ (let z : 0 + frame ≡ frame = omega arith in rw z refl)
