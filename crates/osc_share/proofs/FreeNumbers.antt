-- The free frames, ascending: the least leads them, and the others follow once it is taken.
use Rattle.std.proofs.Common.{ℕ, zero, suc, ◌≡◌, ◌<◌, ◌≤◌, ◌+◌, Bool, true, false, cond, Option, Some, None, List, [], ◌∷◌, ◌++◌, length, take, position, slice_get, filter, arith, refl, ap, sym, subst, ◌∙◌}
use Rattle.std.specs.Prelude.{slice_index_or, slice_set}
use Rattle.std.specs.List.{range_with_len}
use Rattle.std.proofs.lemmas.Bool.Decides.{nat_tests}
use Rattle.osc_frames.specs.Free.{free_count}
use Rattle.osc_slot.proofs.Backing.{free_count-take, get-set, least_free, length-set}
use Rattle.osc_space.specs.Fork.{free_numbers, set_free}

-- the places, from a number on, at which a list has true
abbrev marked : ℕ → List Bool → List ℕ
marked from [] = []
marked from (b ∷ bs) = cond b (from ∷ marked (from + 1) bs) (marked (from + 1) bs)

are_marked : (test : ℕ → Bool) (from : ℕ) (bs : List Bool) → ((i : ℕ) → i < length bs → test (from + i) ≡ slice_index_or bs i false) → filter test (range_with_len from (length bs)) ≡ marked from bs
are_marked test from [] h = refl
are_marked test from (b ∷ bs) h = go (test from) (here (h 0 (omega arith))) (are_marked test (from + 1) bs (λ i l. subst (λ k. test k ≡ slice_index_or bs i false) (omega arith) (h (suc i) (omega (arith, l)))))
  where
    here : test (from + 0) ≡ b → test from ≡ b
    here e = let z : from + 0 ≡ from = omega arith in subst (λ k. test k ≡ b) z e

    go : (c : Bool) → c ≡ b → filter test (range_with_len (from + 1) (length bs)) ≡ marked (from + 1) bs
        → cond c (from ∷ filter test (range_with_len (from + 1) (length bs))) (filter test (range_with_len (from + 1) (length bs))) ≡ cond b (from ∷ marked (from + 1) bs) (marked (from + 1) bs)
    go c e later = rw (e, later) refl

numbers_are : (free : List Bool) → free_numbers free ≡ marked 0 free
numbers_are free = are_marked (λ frame. slice_index_or free frame false) 0 free (λ i l. let e : 0 + i ≡ i = omega arith in ap (λ k. slice_index_or free k false) e)

least_leads : (free : List Bool) (from i : ℕ) → position (λ b. b) free ≡ Some i → marked from free ≡ (from + i) ∷ marked from (slice_set free i false)
least_leads [] from i e = cc
least_leads (true ∷ free) from i e = let z : 0 ≡ i = grind (arith, nat_tests, e) in subst (λ k. marked from (true ∷ free) ≡ (from + k) ∷ marked from (slice_set (true ∷ free) k false)) z (let y : from + 0 ≡ from = omega arith in rw y refl)
least_leads (false ∷ free) from i e = go (position (λ b. b) free) refl e (λ j. least_leads free (from + 1) j)
  where
    go : (o : Option ℕ) → position (λ b. b) free ≡ o → position (λ b. b) (false ∷ free) ≡ Some i
        → ((j : ℕ) → position (λ b. b) free ≡ Some j → marked (from + 1) free ≡ (from + 1 + j) ∷ marked (from + 1) (slice_set free j false))
        → marked from (false ∷ free) ≡ (from + i) ∷ marked from (slice_set (false ∷ free) i false)
    go None k f later = absurd (grind (arith, nat_tests, k, f))
    go (Some j) k f later =
        let is : suc j ≡ i = grind (arith, nat_tests, k, f) in
        let at : from + 1 + j ≡ from + suc j = omega arith in
        subst (λ n. marked from (false ∷ free) ≡ (from + n) ∷ marked from (slice_set (false ∷ free) n false)) is (later j k ∙ ap (λ n. n ∷ marked (from + 1) (slice_set free j false)) at)

pub least_first : (free : List Bool) (frame : ℕ) → position (λ b. b) free ≡ Some frame → free_numbers free ≡ frame ∷ free_numbers (slice_set free frame false)
least_first free frame e =
    numbers_are free ∙ least_leads free 0 frame e ∙ ap (λ xs. (0 + frame) ∷ xs) (sym (numbers_are (slice_set free frame false))) ∙ (let z : 0 + frame ≡ frame = omega arith in rw z refl)

pub set_free-push : (b : Bool) (frames : List ℕ) (frame : ℕ) (free : List Bool) → set_free b (frames ++ frame ∷ []) free ≡ slice_set (set_free b frames free) frame b
set_free-push b [] frame free = refl
set_free-push b (x ∷ frames) frame free = set_free-push b frames frame (slice_set free x b)

-- ---- the least of them
pub set_length : (b : Bool) (frames : List ℕ) (free : List Bool) → length (set_free b frames free) ≡ length free
set_length b [] free = refl
set_length b (x ∷ frames) free = set_length b frames (slice_set free x b) ∙ length-set free x b

pub stays_taken : (frames : List ℕ) (free : List Bool) (f : ℕ) → slice_get free f ≡ Some false → slice_get (set_free false frames free) f ≡ Some false
stays_taken [] free f e = e
stays_taken (x ∷ frames) free f e = stays_taken frames (slice_set free x false) f (let g = get-set free x f false in grind (arith, nat_tests, e, g))

abbrev pub AllFree : List Bool → List ℕ → Type 0
AllFree free [] = Unit {0}
AllFree free (x ∷ xs) = (slice_get free x ≡ Some true) × AllFree free xs

still_free : (free : List Bool) (frame : ℕ) (xs : List ℕ) → AllFree (slice_set free frame false) xs → AllFree free xs
still_free free frame [] h = tt
still_free free frame (x ∷ xs) h = (let g = get-set free frame x false in let here = h.0 in grind (arith, nat_tests, g, here), still_free free frame xs h.1)

-- so many of these frames, which lead the free ones, are taken
pub record AreLeast (n : ℕ) (free : List Bool) (frames : List ℕ) : Type 0 where
  pub size : length (take n frames) ≡ n
  pub count : free_count (set_free false (take n frames) free) + n ≡ free_count free
  pub all_free : AllFree free (take n frames)

pub are_least : (n : ℕ) (free : List Bool) → n ≤ free_count free → AreLeast n free (free_numbers free)
are_least zero free s = record { size = refl; count = omega arith; all_free = tt }
are_least (suc n) free s =
    let least = least_free free (omega (arith, s)) in
    let one = free_count-take free least.frame least.is_free in
    let on = are_least n (slice_set free least.frame false) (omega (arith, s, one)) in
    let count = on.count in
    subst (λ xs. AreLeast (suc n) free xs) (sym (least_first free least.frame least.is)) (record {
      size = ap suc on.size;
      count = omega (arith, one, count);
      all_free = (least.is_free, still_free free least.frame _ on.all_free);
    })
