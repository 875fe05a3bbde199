-- Shadow pages and objects at every moment.
use Rattle.std.proofs.Common.{ℕ, ◌+◌, ◌≡◌, ◌<◌, ◌&&◌, ◌||◌, Bool, true, false, is_some, List, [], ◌∷◌, slice_get, arith, refl, ap, sym, ◌∙◌, subst}
use Rattle.std.specs.List.{list_any}
use Rattle.std.proofs.lemmas.Bool.Decides.{nat_tests}
use Rattle.osc_word.specs.declared.settings.HeapKind.{HeapKind}
use Rattle.osc_word.specs.declared.settings.HeapKind.TheVariants.{Oscar}
use Rattle.osc_word.specs.AddressMap.{is_within, first_shadow_page}
use Rattle.osc_slot.specs.declared.Block.{Block}
use Rattle.osc_slot.specs.Heap.{release}
use Rattle.osc_paging.specs.declared.Mapped.{Mapped}
use Rattle.osc_paging.specs.KeptTables.{mapping_at}
use Rattle.osc_space.specs.declared.ObjectFact.{ObjectFact}
use Rattle.osc_space.specs.Space.{Space, Draft, Closing, Keeps, GivesBack, with_heap}
use Rattle.osc_space.specs.Objects.{next_page, has_page, is_live, is_live_page}
use Rattle.osc_space.specs.Agree.{IsLive, IsKept, is_waiting, HeapAgrees, ObjectsAgree}
use Rattle.osc_space.specs.Finish.{give_blocks, finished}
use Rattle.osc_space.proofs.ObjectLawProofs.{pages_are_granted_once}
use Rattle.osc_settled.specs.Memory.{at_rest}
use Rattle.osc_settled.specs.UnderWay.{closing_of}
use Rattle.osc_settled.specs.FollowLaws.{ShadowsFit, ShadowsFollow}

-- ---- a return changes no page and no object
record SamePages (d e : Draft) : Type 0 where
  pages : e.space.tables.pages ≡ d.space.tables.pages
  objects : e.space.objects ≡ d.space.objects

give_same : (blocks : List Block) (d : Draft) → SamePages d (give_blocks blocks d)
give_same [] d = record { pages = refl; objects = refl }
give_same (block ∷ blocks) d = let later = give_same blocks (with_heap (release d.space.heap block d.free) d) in record { pages = later.pages; objects = later.objects }

return_same : (closing : Closing) (d : Draft) → SamePages d (finished closing d)
unfolding finished
return_same Keeps d = record { pages = refl; objects = refl }
return_same (GivesBack blocks) d = let s = give_same blocks d in record { pages = s.pages; objects = s.objects }

-- ---- what follows
live_has : (page : ℕ) (objects : List ObjectFact) → is_live_page objects page ≡ true → list_any (has_page page) objects ≡ true
live_has page [] e = absurd (let z : ⊥ = grind (arith, e) in z)
live_has page (o ∷ objects) e = go (is_live o) (has_page page o) e (live_has page objects)
  where
    go : (a b : Bool) → ((a && b) || is_live_page objects page) ≡ true → (is_live_page objects page ≡ true → list_any (has_page page) objects ≡ true) → (b || list_any (has_page page) objects) ≡ true
    go a true h later = refl
    go true false h later = later h
    go false false h later = later h

before : (page next : ℕ) → is_within first_shadow_page next page ≡ true → page < next
before page next e = grind (arith, nat_tests, e)

pub oscar : (kind : HeapKind) (s : Space) → kind ≡ Oscar → HeapAgrees kind s → ObjectsAgree s
oscar kind s e h = subst (λ x. HeapAgrees x s) e h

pub live_kept : (s t : Space) (object : ℕ) (o : ObjectFact) → t.objects ≡ s.objects → IsLive s object o → IsKept t object o
live_kept s t object o e l = (ap (λ (os : List ObjectFact). slice_get os object) e ∙ l.0, ap (λ b. b || is_waiting t object) l.1)

shadows : (s t : Space) → t.tables.pages ≡ s.tables.pages → t.objects ≡ s.objects → ObjectsAgree t → ShadowsFit s t
shadows s t p e a = record {
  below = λ page c h. (let g = pages_are_granted_once t.objects a.granted in
      let live : is_live_page t.objects page ≡ true = sym (a.shadows page c) ∙ ap (λ (ms : List Mapped). is_some (mapping_at ms page)) p ∙ h in
      let w : page < next_page t.objects = before page (next_page t.objects) (sym (g.granted page) ∙ live_has page t.objects live) in
      subst (λ (os : List ObjectFact). page < next_page os) e w);
  live = λ page c. ap (λ (ms : List Mapped). is_some (mapping_at ms page)) (sym p) ∙ a.shadows page c ∙ ap (λ (os : List ObjectFact). is_live_page os page) e;
  held = λ object o l. a.held object o (live_kept s t object o e l);
  own = λ x y o q l m same. a.own x y o q (live_kept s t x o e l) (live_kept s t y q e m) same;
  mapped = λ object k o l m. ap (λ (ms : List Mapped). mapping_at ms (o.first + k)) (sym p) ∙ a.mapped object k o (ap (λ (os : List ObjectFact). slice_get os object) e ∙ l.0, l.1) m;
}

pub shadows_follow : ShadowsFollow
shadows_follow words k pid p f h e lives =
    let s = f.memory.spaces pid p e lives in
    let same = return_same (closing_of k.under_way pid) (at_rest p.space k.free) in
    shadows p.space (finished (closing_of k.under_way pid) (at_rest p.space k.free)).space same.pages same.objects
    (oscar k.config.heap (finished (closing_of k.under_way pid) (at_rest p.space k.free)).space h s.returns.parts.agrees.heap)
