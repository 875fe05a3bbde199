-- Objects in the order of their grants: where each stands, and which has a page or an address.
use Rattle.std.proofs.Common.{sym, ℕ, zero, suc, ◌+◌, ◌-◌, ◌*◌, ◌/◌, ◌%◌, ◌≡◌, ◌≢◌, ◌<◌, ◌≤◌, ◌==◌, Bool, true, false, List, [], ◌∷◌, Some, None, length, get_or, slice_get, arith, refl, ◌∙◌}
use Rattle.std.specs.Prelude.{Option, option_map, position}
use Rattle.std.specs.List.{position_or_len}
use Rattle.std.proofs.lemmas.Bool.Decides.{nat_tests}
use Rattle.std.proofs.lemmas.List.Quantifiers.{position-Some}
use Rattle.std.proofs.lemmas.List.Sums.{position_or_len_is, sum_by-cons}
use Rattle.osc_space.specs.declared.ObjectFact.{ObjectFact}
use Rattle.osc_space.specs.declared.ObjectState.TheVariants.{Live}
use Rattle.osc_word.specs.AddressMap.{first_shadow_page}
use Rattle.osc_space.specs.Objects.{Seen, GrantedFrom, AreGranted, mark, has_page, object_seen}
use Rattle.osc_mark.specs.Grants.{owner, number_at}
use Rattle.osc_mark.specs.Places.{place_for}

pub place_for-le-length : (q : ℕ) (os : List ObjectFact) → place_for q os ≤ length os
place_for-le-length q [] = omega arith
place_for-le-length q (o ∷ os) = grind (arith, nat_tests, place_for-le-length q os)

-- ---- each object's pages lie above those of the objects before it
pub record Lies (page mark : ℕ) (o : ObjectFact) : Type 0 where
  pub from : page ≤ o.first
  pub some : 0 < o.pages
  pub to : o.first + o.pages ≤ page + mark
  pub user : o.user ≡ o.first * 4096 + o.canon % 4096

pub lies : (page : ℕ) (os : List ObjectFact) (i : ℕ) (d : ObjectFact) → GrantedFrom page os → i < length os → Lies page (mark os) (get_or os i d)
lies page [] i d g s = absurd (omega arith)
lies page (o ∷ os) zero d g s = let m = sum_by-cons (λ (o : ObjectFact). o.pages) o os in record { from = omega (arith, g.0); some = g.1; to = omega (arith, g.0); user = g.2 }
lies page (o ∷ os) (suc i) d g s =
    let m = sum_by-cons (λ (o : ObjectFact). o.pages) o os in
    let l = lies (page + o.pages) os i d g.3 (omega arith) in
    record { from = omega (arith, l.from); some = l.some; to = omega (arith, l.to); user = l.user }

pub above : (page : ℕ) (os : List ObjectFact) (i j : ℕ) (d : ObjectFact) → GrantedFrom page os → i < j → j < length os → (get_or os i d).first + (get_or os i d).pages ≤ (get_or os j d).first
above page [] i j d g l s = absurd (omega arith)
above page (o ∷ os) i zero d g l s = absurd (omega arith)
above page (o ∷ os) zero (suc j) d g l s = let x = lies (page + o.pages) os j d g.3 (omega arith) in omega (arith, x.from, g.0)
above page (o ∷ os) (suc i) (suc j) d g l s = above (page + o.pages) os i j d g.3 (omega arith) (omega arith)

pub length-le-mark : (page : ℕ) (os : List ObjectFact) → GrantedFrom page os → length os ≤ mark os
length-le-mark page [] g = omega arith
length-le-mark page (o ∷ os) g =
    let m = sum_by-cons (λ (o : ObjectFact). o.pages) o os in
    let l = length-le-mark (page + o.pages) os g.3 in
    omega (arith, g.1)

-- ---- the place of a page
-- an object before the place begins at the page or before it, and one from the place on after it
pub place_for-begins : (q : ℕ) (os : List ObjectFact) (i : ℕ) (d : ObjectFact) → i < place_for q os → (get_or os i d).first ≤ q
place_for-begins q [] i d l = absurd (omega arith)
place_for-begins q (o ∷ os) zero d l = grind (arith, nat_tests, l)
place_for-begins q (o ∷ os) (suc i) d l = grind (arith, nat_tests, l, place_for-begins q os i d)

pub place_for-stops : (q : ℕ) (os : List ObjectFact) (i : ℕ) (d : ObjectFact) → i < length os → q < (get_or os i d).first → place_for q os ≤ i
place_for-stops q [] i d s h = absurd (omega arith)
place_for-stops q (o ∷ os) zero d s h = grind (arith, nat_tests, h)
place_for-stops q (o ∷ os) (suc i) d s h = grind (arith, nat_tests, place_for-stops q os i d (omega arith) h)

passed : (page q : ℕ) (os : List ObjectFact) (i : ℕ) (d : ObjectFact) → GrantedFrom page os → i < length os → (get_or os i d).first ≤ q → i < place_for q os
passed page q [] i d g s h = absurd (omega arith)
passed page q (o ∷ os) zero d g s h = grind (arith, nat_tests, h)
passed page q (o ∷ os) (suc i) d g s h =
    let x = lies (page + o.pages) os i d g.3 (omega arith) in
    let on = passed (page + o.pages) q os i d g.3 (omega arith) h in
    let first : o.first ≤ q = omega (arith, x.from, g.0) in
    grind (arith, nat_tests, first, on)

pub place_for-passed : (q : ℕ) (os : List ObjectFact) (i : ℕ) (d : ObjectFact) → AreGranted os → i < length os → (get_or os i d).first ≤ q → i < place_for q os
place_for-passed q os i d g s h = passed first_shadow_page q os i d g s h

pub ruleset object_places = (place_for-le-length, place_for-passed, place_for-stops, nat_tests)

pub no_object : ObjectFact
no_object = record { first = 0; pages = 0; size = 0; user = 0; canon = 0; state = Live }

-- ---- the first that passes a test
first_is : (p : ObjectFact → Bool) (os : List ObjectFact) (i : ℕ) (d : ObjectFact) → i < length os → p (get_or os i d) ≡ true → ((k : ℕ) → k < i → p (get_or os k d) ≡ false) → position p os ≡ Some i
first_is p os i d s h before =
    let e = position_or_len_is p os i d (omega arith) before (λ l. h) in
    grind (arith, nat_tests, e)

pub none_before : (p : ObjectFact → Bool) (os : List ObjectFact) (d : ObjectFact) → ((k : ℕ) → k < length os → p (get_or os k d) ≡ false) → position_or_len p os ≡ length os
none_before p os d h = position_or_len_is p os (length os) d (omega arith) h (λ l. absurd (omega arith))

none_is : (p : ObjectFact → Bool) (os : List ObjectFact) (d : ObjectFact) → ((k : ℕ) → k < length os → p (get_or os k d) ≡ false) → position p os ≡ None
none_is p os d h = let e = none_before p os d h in grind (arith, nat_tests, e)

slice_get-within : (os : List ObjectFact) (i : ℕ) (d : ObjectFact) → i < length os → slice_get os i ≡ Some (get_or os i d)
slice_get-within [] i d l = absurd (omega arith)
slice_get-within (o ∷ os) zero d l = refl
slice_get-within (o ∷ os) (suc i) d l = slice_get-within os i d (omega arith)

number_is : (p : ObjectFact → Bool) (os : List ObjectFact) (i : ℕ) (d : ObjectFact) → i < length os → position p os ≡ Some i → option_map (λ (s : Seen). s.number) (object_seen p os) ≡ Some i
number_is p os i d l e = rw (e, slice_get-within os i d l) refl

no_number : (p : ObjectFact → Bool) (os : List ObjectFact) → position p os ≡ None → option_map (λ (s : Seen). s.number) (object_seen p os) ≡ None
no_number p os e = rw e refl

pub owner_is : (q : ℕ) (os : List ObjectFact) → owner os q ≡ position (has_page q) os
owner_is q os = go (position (has_page q) os) refl
  where
    go : (r : Option ℕ) → position (has_page q) os ≡ r → owner os q ≡ position (has_page q) os
    go None e = no_number (has_page q) os e ∙ sym e
    go (Some i) e = number_is (has_page q) os i no_object (position-Some (has_page q) os i no_object e).0 e ∙ sym e

-- ---- the object with a page
pub owner_found : (q : ℕ) (os : List ObjectFact) (i n : ℕ) (d : ObjectFact) → AreGranted os → suc i ≡ place_for q os → n ≡ (get_or os i d).pages → q - (get_or os i d).first < n → owner os q ≡ Some i
owner_found q os i n d g e m l =
    let inside = place_for-le-length q os in
    let begins = place_for-begins q os i d (omega arith) in
    number_is (has_page q) os i d (omega arith)
    (first_is (has_page q) os i d (omega arith) (grind (arith, nat_tests, begins, l, m))
    (λ k s. let a = above first_shadow_page os k i d g s (omega arith) in grind (arith, nat_tests, a, begins)))

pub owner_gap : (q : ℕ) (os : List ObjectFact) (i n : ℕ) (d : ObjectFact) → AreGranted os → suc i ≡ place_for q os → n ≡ (get_or os i d).pages → n ≤ q - (get_or os i d).first → owner os q ≡ None
owner_gap q os i n d g e m l =
    let inside = place_for-le-length q os in
    let begins = place_for-begins q os i d (omega arith) in
    let past : (get_or os i d).first + (get_or os i d).pages ≤ q = omega arith in
    no_number (has_page q) os (none_is (has_page q) os d (λ k s.
    grind (arith, nat_tests, past, e, above first_shadow_page os k i d g, place_for-passed q os k d g s)))

pub owner_none : (q : ℕ) (os : List ObjectFact) → AreGranted os → place_for q os ≡ 0 → owner os q ≡ None
owner_none q os g e =
    no_number (has_page q) os (none_is (has_page q) os no_object (λ k s. grind (arith, nat_tests, e, place_for-passed q os k no_object g s)))

-- ---- the object with an address
page_of_user : (u : ℕ) (os : List ObjectFact) (k : ℕ) (d : ObjectFact) → AreGranted os → k < length os → (get_or os k d).user ≡ u → (get_or os k d).first ≡ u / 4096
page_of_user u os k d g s e = let x = lies first_shadow_page os k d g s in omega (arith, x.user)

pub at_found : (u : ℕ) (os : List ObjectFact) (i : ℕ) (d : ObjectFact) → AreGranted os → i < length os → (get_or os i d).user ≡ u → number_at os u ≡ Some i
at_found u os i d g s e =
    number_is (λ o. o.user == u) os i d s
    (first_is (λ o. o.user == u) os i d s (grind (arith, nat_tests, e))
    (λ k l.
    let a = above first_shadow_page os k i d g l s in
    let x = lies first_shadow_page os k d g (omega arith) in
    let p = page_of_user u os i d g s e in
    grind (arith, nat_tests, a, x.some, p, page_of_user u os k d g (omega arith))))

pub at_other : (u : ℕ) (os : List ObjectFact) (i : ℕ) (d : ObjectFact) → AreGranted os → suc i ≡ place_for (u / 4096) os → (get_or os i d).user ≢ u → number_at os u ≡ None
at_other u os i d g e n =
    let begins = place_for-begins (u / 4096) os i d (omega arith) in
    let inside = place_for-le-length (u / 4096) os in
    no_number (λ o. o.user == u) os (none_is (λ o. o.user == u) os d (λ k s.
    let x = lies first_shadow_page os k d g s in
    grind (arith, nat_tests, e, n, begins, x.some, above first_shadow_page os k i d g, page_of_user u os k d g s, place_for-passed (u / 4096) os k d g s)))

pub at_none : (u : ℕ) (os : List ObjectFact) → AreGranted os → place_for (u / 4096) os ≡ 0 → number_at os u ≡ None
at_none u os g e =
    no_number (λ o. o.user == u) os (none_is (λ o. o.user == u) os no_object (λ k s.
    grind (arith, nat_tests, e, page_of_user u os k no_object g s, place_for-passed (u / 4096) os k no_object g s)))
