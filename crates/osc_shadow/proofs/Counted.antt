-- How many pages are mapped at most, where the parts agree.
use Rattle.std.proofs.Common.{ℕ, suc, ◌+◌, ◌-◌, ◌≡◌, ◌<◌, ◌≤◌, ◌==◌, ◌||◌, Bool, true, false, cond, List, [], ◌∷◌, Some, arith, refl, length, max}
use Rattle.std.specs.Prelude.{filter, is_some, slice_set}
use Rattle.std.specs.List.{list_any}
use Rattle.std.proofs.lemmas.Bool.Decides.{nat_tests}
use Rattle.osc_word.specs.AddressMap.{is_within, is_image_or_stack, is_shared, first_shadow_page}
use Rattle.osc_slot.specs.Heap.{free_count}
use Rattle.osc_slot.proofs.Backing.{get-set, length-set, free_count-give, free_count-le}
use Rattle.osc_paging.specs.declared.Mapped.{Mapped}
use Rattle.osc_paging.specs.KeptTables.{mapping_at}
use Rattle.osc_tables.specs.Inside.{AscendFrom}
use Rattle.osc_space.specs.Agree.{AreApart, AllTaken}

-- ---- different frames that are taken are no more than the frames
still_taken : (free : List Bool) (x : ℕ) (xs : List ℕ) → list_any (λ y. y == x) xs ≡ false → AllTaken free xs → AllTaken (slice_set free x true) xs
still_taken free x [] apart taken = tt
still_taken free x (y ∷ xs) apart taken =
    let other : (y == x) ≡ false = grind (arith, nat_tests, apart) in
    let rest : list_any (λ z. z == x) xs ≡ false = grind (arith, nat_tests, apart) in
    let at = get-set free x y true in
    ((let t = taken.0 in grind (arith, nat_tests, other, at, t)), still_taken free x xs rest taken.1)

taken_free : (free : List Bool) (xs : List ℕ) → AreApart xs → AllTaken free xs → length xs + free_count free ≤ length free
taken_free free [] apart taken = omega (arith, free_count-le free)
taken_free free (x ∷ xs) apart taken =
    let on = taken_free (slice_set free x true) xs apart.1 (still_taken free x xs apart.0 taken.1) in
    let more = free_count-give free x taken.0 in
    let same = length-set free x true in
    omega arith

pub frames_bound : (free : List Bool) (xs : List ℕ) → AreApart xs → AllTaken free xs → length xs + free_count free ≤ length free
frames_bound free xs apart taken = taken_free free xs apart taken

-- ---- pages by their ranges
abbrev image_pages : List Mapped → List Mapped
image_pages ms = filter (λ (m : Mapped). is_image_or_stack m.number) ms

abbrev region_pages : List Mapped → List Mapped
region_pages ms = filter (λ (m : Mapped). is_shared m.number) ms

abbrev IsPlace : ℕ → ℕ → Type 0
IsPlace end page = (is_image_or_stack page || is_shared page || is_within first_shadow_page end page) ≡ true

tail_mapped : (m : Mapped) (ms : List Mapped) (page : ℕ) → is_some (mapping_at ms page) ≡ true → is_some (mapping_at (m ∷ ms) page) ≡ true
tail_mapped m ms page h = go (m.number == page)
  where
    go : (b : Bool) → is_some (cond b (Some m.mapping) (mapping_at ms page)) ≡ true
    go true = refl
    go false = h

head_mapped : (m : Mapped) (ms : List Mapped) → is_some (mapping_at (m ∷ ms) m.number) ≡ true
head_mapped m ms = let same : (m.number == m.number) ≡ true = grind (arith, nat_tests) in rw same refl

pub few_pages : (from end : ℕ) (ms : List Mapped) → first_shadow_page ≤ end → AscendFrom from ms → ((page : ℕ) → is_some (mapping_at ms page) ≡ true → IsPlace end page)
    → length ms ≤ length (image_pages ms) + length (region_pages ms) + (end - max from first_shadow_page)
few_pages from end [] l a h = omega arith
few_pages from end (m ∷ ms) l a h =
    let on = few_pages (suc m.number) end ms l a.1 (λ page s. h page (tail_mapped m ms page s)) in
    let low = a.0 in
    go (is_image_or_stack m.number) (is_shared m.number) refl refl (h m.number (head_mapped m ms)) on
  where
    go : (i s : Bool) → is_image_or_stack m.number ≡ i → is_shared m.number ≡ s → (i || s || is_within first_shadow_page end m.number) ≡ true
        → length ms ≤ length (image_pages ms) + length (region_pages ms) + (end - max (suc m.number) first_shadow_page)
        → suc (length ms) ≤ length (cond i (m ∷ image_pages ms) (image_pages ms)) + length (cond s (m ∷ region_pages ms) (region_pages ms)) + (end - max from first_shadow_page)
    go true true e f p on = let low = a.0 in omega arith
    go true false e f p on = let low = a.0 in omega arith
    go false true e f p on = let low = a.0 in omega arith
    go false false e f p on =
        let low = a.0 in
        let above : first_shadow_page ≤ m.number = grind (arith, nat_tests, p) in
        let below : m.number < end = grind (arith, nat_tests, p) in
        omega arith
