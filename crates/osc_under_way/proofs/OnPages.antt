-- The object that a page was granted to, and how far its own address is from an address on the page.
use Rattle.std.proofs.Common.{ℕ, ◌+◌, ◌/◌, ◌^◌, ◌≡◌, ◌<◌, ◌≤◌, true, List, Some, get_or, arith, refl, sym, ◌∙◌}
use Rattle.std.proofs.lemmas.Bool.Decides.{nat_tests}
use Rattle.std.proofs.lemmas.List.Quantifiers.{position-Some}
use Rattle.std.proofs.lemmas.Option.{get_or_from_slice_get}
use Rattle.std.specs.Prelude.{position}
use Rattle.osc_space.specs.declared.ObjectFact.{ObjectFact}
use Rattle.osc_word.specs.AddressMap.{first_shadow_page}
use Rattle.osc_space.specs.Objects.{fact, has_page, object_on}
use Rattle.osc_mark.specs.Grants.{Grants, AreMarked, owner}
use Rattle.osc_mark.proofs.ObjectPlaces.{lies, owner_is}

pub record IsOn (objects : List ObjectFact) (address object : ℕ) (o : ObjectFact) : Type 0 where
  pub seen : object_on objects (address / 4096) ≡ Some (record { number = object; fact = o })
  pub above : address < o.user + 2 ^ 63
  pub below : o.user < address + 2 ^ 63

placed : (page object : ℕ) (objects : List ObjectFact) → owner objects page ≡ Some object → position (has_page page) objects ≡ Some object
placed page object objects e = sym (owner_is page objects) ∙ e

pub is_on : (g : Grants) (address object : ℕ) (o : ObjectFact) → AreMarked g → owner g.objects (address / 4096) ≡ Some object
    → fact g.objects object ≡ Some o → IsOn g.objects address object o
is_on g address object o marked e f =
    let at = position-Some (has_page (address / 4096)) g.objects object o (placed (address / 4096) object g.objects e) in
    let same : get_or g.objects object o ≡ o = get_or_from_slice_get g.objects object o o f in
    let lie = rw same at (lies first_shadow_page g.objects object o marked.granted at.0) in
    let has : has_page (address / 4096) o ≡ true = rw same at at.1 in
    let from : o.first ≤ address / 4096 = grind (arith, nat_tests, has) in
    let to : address / 4096 < o.first + o.pages = grind (arith, nat_tests, has) in
    record {
      seen = rw (placed (address / 4096) object g.objects e, f) refl;
      above = omega (arith, lie.from, lie.to, lie.user, to, marked.mark, marked.most);
      below = omega (arith, lie.user, from);
    }
