-- What is known of an object that is found at its address.
use Rattle.std.proofs.Common.{ℕ, ◌+◌, ◌^◌, ◌≡◌, ◌<◌, ◌≤◌, ◌==◌, true, List, Option, Some, None, length, position, arith, refl, ap, subst, ◌∙◌}
use Rattle.std.specs.Prelude.{option_map, option_and_then}
use Rattle.std.proofs.lemmas.Bool.Decides.{nat_tests}
use Rattle.std.proofs.lemmas.Option.{get_or_from_slice_get}
use Rattle.std.proofs.lemmas.List.Quantifiers.{position-Some}
use Rattle.osc_word.specs.AddressMap.{first_shadow_page}
use Rattle.osc_space.specs.declared.ObjectFact.{ObjectFact}
use Rattle.osc_space.specs.Objects.{Seen, AreGranted, fact, mark, seen_as, object_at}
use Rattle.osc_mark.specs.Grants.{Grants, AreMarked}
use Rattle.osc_mark.proofs.ObjectPlaces.{Lies, lies}

pub record Sighted (objects : List ObjectFact) (pointer : ℕ) (s : Seen) : Type 0 where
  pub is : fact objects s.number ≡ Some s.fact
  pub within : s.number < length objects
  pub user : s.fact.user ≡ pointer

as_is : (objects : List ObjectFact) (i : ℕ) (s : Seen) → seen_as objects i ≡ Some s → (fact objects i ≡ Some s.fact) × (i ≡ s.number)
as_is objects i s e = go (fact objects i) refl e
  where
    go : (x : Option ObjectFact) → fact objects i ≡ x → option_map (λ (o : ObjectFact). record { number = i; fact = o }) x ≡ Some s → (fact objects i ≡ Some s.fact) × (i ≡ s.number)
    go None h e = cc
    go (Some o) h e =
        let same : record { number = i; fact = o } ≡ s = cc in
        (h ∙ ap (λ (t : Seen). Some t.fact) same, ap (λ (t : Seen). t.number) same)

pub sighted : (objects : List ObjectFact) (pointer : ℕ) (s : Seen) → object_at objects pointer ≡ Some s → Sighted objects pointer s
sighted objects pointer s e = go (position (λ (o : ObjectFact). o.user == pointer) objects) refl e
  where
    go : (x : Option ℕ) → position (λ (o : ObjectFact). o.user == pointer) objects ≡ x → option_and_then (seen_as objects) x ≡ Some s → Sighted objects pointer s
    go None h e = cc
    go (Some i) h e =
        let at = as_is objects i s e in
        let found = position-Some (λ (o : ObjectFact). o.user == pointer) objects i s.fact h in
        let read = get_or_from_slice_get objects i s.fact s.fact at.0 in
        let passes : (s.fact.user == pointer) ≡ true = subst (λ (o : ObjectFact). (o.user == pointer) ≡ true) read found.1 in
        record {
          is = subst (λ k. fact objects k ≡ Some s.fact) at.1 at.0;
          within = subst (λ k. k < length objects) at.1 found.0;
          user = grind (arith, nat_tests, passes);
        }

-- its pages are below the mark
pub lies_below : (objects : List ObjectFact) (pointer : ℕ) (s : Seen) → AreGranted objects → Sighted objects pointer s → Lies first_shadow_page (mark objects) s.fact
lies_below objects pointer s g h =
    let read = get_or_from_slice_get objects s.number s.fact s.fact h.is in
    subst (Lies first_shadow_page (mark objects)) read (lies first_shadow_page objects s.number s.fact g h.within)

-- so its address is one of a shadow page
pub is_shadow_address : (g : Grants) (pointer : ℕ) (s : Seen) → AreMarked g → object_at g.objects pointer ≡ Some s → (0x1000000000 ≤ pointer) × (pointer < 0x2000000000)
is_shadow_address g pointer s m e =
    let h = sighted g.objects pointer s e in
    let l = lies_below g.objects pointer s m.granted h in
    let below = m.mark in
    let most = m.most in
    let user = h.user in
    let user_is = l.user in
    let from = l.from in
    let some = l.some in
    let to = l.to in
    (omega arith, omega arith)

-- the pages of each object lie in the shadow range
pub record Granted (o : ObjectFact) : Type 0 where
  pub from : 2 ^ 24 ≤ o.first
  pub some : 0 < o.pages
  pub to : o.first + o.pages ≤ 2 ^ 25

pub granted_fact : (g : Grants) (i : ℕ) (o : ObjectFact) → AreMarked g → i < length g.objects → fact g.objects i ≡ Some o → Granted o
granted_fact g i o m l e =
    let s : Seen = record { number = i; fact = o } in
    let read = get_or_from_slice_get g.objects i o o e in
    let x = subst (Lies first_shadow_page (mark g.objects)) read (lies first_shadow_page g.objects i o m.granted l) in
    let below = m.mark in
    let most = m.most in
    let from = x.from in
    let to = x.to in
    record { from = omega arith; some = x.some; to = omega arith }
