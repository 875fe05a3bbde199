-- The words agree with the tables of laid pages once their jobs are done.
use Rattle.std.proofs.Common.{ℕ, ◌/◌, ◌≡◌, ◌<◌, ◌≤◌, ◌==◌, Bool, true, false, Option, Some, None, List, [], ◌∷◌, length, position, slice_get, slice_set, arith, refl}
use Rattle.std.specs.Prelude.{IsTrue}
use Rattle.std.proofs.lemmas.List.Quantifiers.{position-Some}
use Rattle.osc_word.specs.declared.settings.Config.{Config}
use Rattle.osc_sv39.specs.declared.entries.Mapping.{Mapping}
use Rattle.osc_sv39.specs.ReadBack.{is_leaf}
use Rattle.osc_sv39.proofs.EntriesBack.{leaves_read_back}
use Rattle.osc_slot.proofs.Backing.{length-set, get-set}
use Rattle.osc_paging.specs.KeptTables.{frame_of}
use Rattle.osc_paging.specs.TableChanges.{Changed, link_all, leaf_put}
use Rattle.osc_paging.specs.CopyLaws.{KeepsTaken}
use Rattle.osc_paging.specs.Agree.{AgreesAfter, ReadsAsLeaf}
use Rattle.osc_paging.proofs.Elsewhere.{taking_keeps}
use Rattle.osc_paging.proofs.Kept.{link_all-agrees}
use Rattle.osc_paging.proofs.TableLawProofs.{mapping_keeps}
use Rattle.osc_space.specs.LeafFlags.{leaf_of_page}
use Rattle.osc_calls.specs.Open.{OpenPage, laid, lay, lay_all, rooted}
use Rattle.osc_settled.proofs.Laying.{no_words, ranges, rooted_fits}
use Rattle.osc_word.specs.Limits.{first_fault}
use Rattle.osc_core.specs.Words.{no_entry}

-- what each page permits makes a leaf
abbrev pub AllLeaves : List OpenPage → Type 0
AllLeaves [] = Unit {0}
AllLeaves (p ∷ ps) = IsTrue (is_leaf (leaf_of_page p.bits)) × AllLeaves ps

pub takes : (free : List Bool) (g : ℕ) → KeepsTaken free (slice_set free g false)
takes free g = record {
  size = length-set free g false;
  taken = λ f e. still f (f == g) refl e;
}
  where
    still : (f : ℕ) (b : Bool) → (f == g) ≡ b → slice_get free f ≡ Some false → slice_get (slice_set free g false) f ≡ Some false
    still f true e h = let a = get-set free g f false in grind (arith, a, e, h)
    still f false e h = let a = get-set free g f false in grind (arith, a, e, h)

put_agrees : (n : ℕ) (m : Mapping) (o : Option ℕ) (g : ℕ) (words : List ℕ) (c : Changed) → AgreesAfter no_entry words (leaf_put n m o c)
    → AgreesAfter no_entry words (leaf_put n m o (record c { free = slice_set c.free g false }))
put_agrees n m None g words c a = taking_keeps c.tables c.free (slice_set c.free g false) _ a (takes c.free g)
put_agrees n m (Some t) g words c a = taking_keeps (leaf_put n m (Some t) c).tables c.free (slice_set c.free g false) _ a (takes c.free g)

module _ (p : OpenPage) (words : List ℕ) (c : Changed) (leaf : IsTrue (is_leaf (leaf_of_page p.bits))) (a : AgreesAfter no_entry words c) where
  abbrev c1 : Changed
  c1 = link_all c.tables.top p.page c

  links : AgreesAfter no_entry words c1
  links = link_all-agrees no_entry c words c.tables.top p.page (omega arith) a

  page_agrees : AgreesAfter no_entry words (lay p c1)
  page_agrees = go (position (λ b. b) c1.free) refl
    where
      go : (o : Option ℕ) → position (λ b. b) c1.free ≡ o → AgreesAfter no_entry words (laid p o c1)
      go None e = links
      go (Some g) e =
          let within : g < length c1.free = (position-Some (λ b. b) c1.free g false e).0 in
          let small : length c1.free ≤ 4096 = links.small in
          let m : Mapping = record { frame = g; bits = leaf_of_page p.bits } in
          let reads : ReadsAsLeaf m = leaves_read_back g (leaf_of_page p.bits) (omega (arith, within, small)) (omega arith) leaf in
          put_agrees p.page m (frame_of c1.tables.tables 0 (p.page / 512)) g words c1 (mapping_keeps no_entry words c p.page m reads a)

pub all_agree : (ps : List OpenPage) (words : List ℕ) (c : Changed) → AllLeaves ps → AgreesAfter no_entry words c → AgreesAfter no_entry words (lay_all ps c)
all_agree [] words c l a = a
all_agree (p ∷ ps) words c l a = all_agree ps words (lay p (link_all c.tables.top p.page c)) l.1 (page_agrees p words c l.0 a)

pub first_agrees : (config : Config) → first_fault config ≡ None → AgreesAfter no_entry (no_words config) (rooted config)
first_agrees config valid = (rooted_fits config (ranges config valid)).tables
