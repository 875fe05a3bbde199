-- The pages of an image, put one after another.
use Rattle.std.proofs.Common.{ℕ, zero, suc, ◌+◌, ◌-◌, ◌*◌, ◌^◌, ◌≡◌, ◌≢◌, ◌<◌, ◌≤◌, Bool, true, false, Option, Some, None, option_map, List, [], ◌∷◌, length, get_or, slice_get, arith, refl, ap, sym, ◌∙◌}
use Rattle.std.specs.Prelude.{nat_lt, nat_eq}
use Rattle.std.proofs.lemmas.Bool.Decides.{nat_tests}
use Rattle.std.proofs.lemmas.Option.{slice_get_within}
use Rattle.osc_sv39.specs.declared.entries.Mapping.{Mapping}
use Rattle.osc_sv39.specs.declared.flags.PteBits.{PteBits}
use Rattle.osc_sv39.specs.Walk.{IsLevels, walk_from, word_at}
use Rattle.osc_paging.specs.KeptTables.{KeptTables, frame_of, mapping_at, piece_of}
use Rattle.osc_paging.specs.Agree.{Agrees}
use Rattle.osc_paging.proofs.Walked.{walks}
use Rattle.osc_paging.proofs.TableLawProofs.{piece-top}
use Rattle.osc_parts.proofs.MallocParts.{high_enough}
use Rattle.osc_image.specs.Image.{Image}
use Rattle.osc_calls.specs.Open.{OpenPage, image_word, open_page}
use Rattle.osc_open.specs.Laying.{pages_of}
use Rattle.osc_core.specs.Words.{CanLay, IsAmong, LaysImage, LaysPage}

-- ---- a page that is no table
agrees_still : (image : Image) (page frame : ℕ) (t : KeptTables) (free : List Bool) (words next : List ℕ) → Agrees t free words → t.aside ≡ [] → piece_of t.tables frame ≡ None → LaysPage image page frame words next → Agrees t free next
agrees_still image page frame t free words next a bare none p = record {
  size = p.size ∙ a.size;
  small = a.small;
  apart = a.apart;
  taken = a.taken;
  parents = a.parents;
  leaves = a.leaves;
  agree = λ f i q l e. p.others f i l (λ same. let z : None ≡ Some q = sym none ∙ sym (ap (λ g. piece_of t.tables g) same) ∙ e in let w : ⊥ = grind (arith, z) in w) ∙ a.agree f i q l e;
  spare = a.spare;
  zeros = λ f i q l e. absurd (let z : None ≡ Some q = sym (ap (λ ts. piece_of ts f) bare) ∙ e in let w : ⊥ = grind (arith, z) in w);
}

-- ---- the first pages
pub record LaysSome (image : Image) (t : KeptTables) (free : List Bool) (n : ℕ) (pages : List OpenPage) (words next : List ℕ) : Type 0 where
  pub agrees : Agrees t free next
  pub laid : (k page i : ℕ) (bits : PteBits) (m : Mapping) → k < n → slice_get pages k ≡ Some (open_page page bits) → mapping_at t.pages page ≡ Some m → i < 512
      → word_at next m.frame i ≡ image_word image (4096 * page + 8 * i)
  pub others : (f i : ℕ) → i < 512 → ((page : ℕ) (m : Mapping) → IsAmong page pages → mapping_at t.pages page ≡ Some m → f ≢ m.frame) → word_at next f i ≡ word_at words f i

pub none_laid : (image : Image) (t : KeptTables) (free : List Bool) (pages : List OpenPage) (words : List ℕ) → Agrees t free words → LaysSome image t free 0 pages words words
none_laid image t free pages words a = record { agrees = a; laid = λ k page i bits m l e d h. absurd (omega (arith, l)); others = λ f i l d. refl }

pub all_laid : (image : Image) (t : KeptTables) (free : List Bool) (n : ℕ) (pages : List OpenPage) (words next : List ℕ) → length pages ≤ n → LaysSome image t free n pages words next → LaysImage image t free pages words next
all_laid image t free n pages words next l s = record {
  agrees = s.agrees;
  laid = λ page i m among e h. s.laid among.0 page i among.1 m (let w = slice_get_within pages among.0 _ among.2 in omega (arith, w, l)) among.2 e h;
  others = s.others;
}

module _ (image : Image) (t : KeptTables) (free : List Bool) (root levels : ℕ) (pages : List OpenPage) (words now : List ℕ) (can : CanLay t free root levels pages words)
    (n : ℕ) (range : IsLevels levels) (was : LaysSome image t free n pages words now) (page : ℕ) (bits : PteBits) (this : slice_get pages n ≡ Some (open_page page bits)) where
  small : page < 512 ^ suc t.top
  small = let a = high_enough t.top (let l = can.levels_in in let r = range.0 in omega (arith, l, r)) in let b = can.low page (n, bits, this) in omega (arith, a, b)

  -- the walk finds the page's frame
  pub walked : walk_from (levels - 1) now root page ≡ mapping_at t.pages page
  walked =
      ap (λ l. walk_from l now root page) (let l = can.levels_in in let z : levels - 1 ≡ t.top = omega (arith, l) in z)
      ∙ walks t free now t.top page root was.agrees (omega arith) (ap (frame_of t.tables t.top) (piece-top (suc t.top) page small) ∙ can.root_in)

  same_page : (k p : ℕ) (b : PteBits) → k ≡ n → slice_get pages k ≡ Some (open_page p b) → p ≡ page
  same_page k p b e g =
      let z : Some (open_page p b) ≡ Some (open_page page bits) = sym g ∙ ap (λ j. slice_get pages j) e ∙ this in
      let w : open_page p b ≡ open_page page bits = cc in ap (λ (x : OpenPage). x.page) w

  pub page_none : mapping_at t.pages page ≡ None → LaysSome image t free (n + 1) pages words now
  page_none none = record {
    agrees = was.agrees;
    laid = λ k p i b m l e d h. go k p i b m l e d h (nat_lt k n) refl;
    others = was.others;
  }
    where
      go : (k p i : ℕ) (b : PteBits) (m : Mapping) → k < n + 1 → slice_get pages k ≡ Some (open_page p b) → mapping_at t.pages p ≡ Some m → i < 512 → (c : Bool) → nat_lt k n ≡ c
          → word_at now m.frame i ≡ image_word image (4096 * p + 8 * i)
      go k p i b m l e d h true f = was.laid k p i b m (grind (arith, nat_tests, f)) e d h
      go k p i b m l e d h false f = absurd (let s = same_page k p b (grind (arith, nat_tests, f, l)) e in
          let z : None ≡ Some m = sym none ∙ sym (ap (mapping_at t.pages) s) ∙ d in let w : ⊥ = grind (arith, z) in w)

  pub page_some : (frame : ℕ) (next : List ℕ) (m : Mapping) → mapping_at t.pages page ≡ Some m → m.frame ≡ frame → LaysPage image page frame now next → LaysSome image t free (n + 1) pages words next
  page_some frame next m maps is lays = record {
    agrees = agrees_still image page frame t free now next was.agrees can.bare (ap (piece_of t.tables) (sym is) ∙ can.no_table page m maps) lays;
    laid = λ k p i b o l e d h. go k p i b o l e d h (nat_lt k n) refl;
    others = λ f i l d. lays.others f i l (λ same. d page m (n, bits, this) maps (same ∙ sym is)) ∙ was.others f i l d;
  }
    where
      fits : frame * 512 + 512 ≤ length now
      fits = let a = was.agrees.size in let b = can.within page m maps in omega (arith, a, b, is)

      here : (p i : ℕ) (o : Mapping) → p ≡ page → mapping_at t.pages p ≡ Some o → i < 512 → word_at next o.frame i ≡ image_word image (4096 * p + 8 * i)
      here p i o s d h =
          let z : Some o ≡ Some m = sym d ∙ ap (mapping_at t.pages) s ∙ maps in
          let w : o ≡ m = cc in
          ap (λ (x : Mapping). word_at next x.frame i) w ∙ ap (λ f. word_at next f i) is ∙ lays.put i h fits ∙ ap (λ q. image_word image (4096 * q + 8 * i)) (sym s)

      go : (k p i : ℕ) (b : PteBits) (o : Mapping) → k < n + 1 → slice_get pages k ≡ Some (open_page p b) → mapping_at t.pages p ≡ Some o → i < 512 → (c : Bool) → nat_lt k n ≡ c
          → word_at next o.frame i ≡ image_word image (4096 * p + 8 * i)
      go k p i b o l e d h false f = here p i o (same_page k p b (grind (arith, nat_tests, f, l)) e) d h
      go k p i b o l e d h true f = elsewhere (nat_eq p page) refl
        where
          elsewhere : (c : Bool) → nat_eq p page ≡ c → word_at next o.frame i ≡ image_word image (4096 * p + 8 * i)
          elsewhere true g = here p i o (grind (arith, nat_tests, g)) d h
          elsewhere false g =
              lays.others o.frame i h (λ same. let s : p ≡ page = can.apart p page o m d maps (same ∙ sym is) in let w : ⊥ = grind (arith, nat_tests, g, s) in w)
              ∙ was.laid k p i b o (grind (arith, nat_tests, f)) e d h

  -- by what the walk found
  pub after_some : (frame : ℕ) (next : List ℕ) → option_map (λ (m : Mapping). m.frame) (walk_from (levels - 1) now root page) ≡ Some frame → LaysPage image page frame now next → LaysSome image t free (n + 1) pages words next
  after_some frame next e lays = go (mapping_at t.pages page) refl (sym (ap (option_map (λ (m : Mapping). m.frame)) walked) ∙ e)
    where
      go : (o : Option Mapping) → mapping_at t.pages page ≡ o → option_map (λ (m : Mapping). m.frame) o ≡ Some frame → LaysSome image t free (n + 1) pages words next
      go None d f = absurd (let w : ⊥ = grind (arith, f) in w)
      go (Some m) d f = page_some frame next m d (let s : m.frame ≡ frame = cc in s) lays

  pub after_none : option_map (λ (m : Mapping). m.frame) (walk_from (levels - 1) now root page) ≡ None → LaysSome image t free (n + 1) pages words now
  after_none e = go (mapping_at t.pages page) refl (sym (ap (option_map (λ (m : Mapping). m.frame)) walked) ∙ e)
    where
      go : (o : Option Mapping) → mapping_at t.pages page ≡ o → option_map (λ (m : Mapping). m.frame) o ≡ None → LaysSome image t free (n + 1) pages words now
      go None d f = page_none d
      go (Some m) d f = absurd (let w : ⊥ = grind (arith, f) in w)

pub length_pages : (ps : List (ℕ × PteBits)) → length (pages_of ps) ≡ length ps
length_pages [] = refl
length_pages (p ∷ ps) = ap suc (length_pages ps)

pub page_at : (ps : List (ℕ × PteBits)) (n : ℕ) (d : ℕ × PteBits) → n < length ps → slice_get (pages_of ps) n ≡ Some (open_page (get_or ps n d).0 (get_or ps n d).1)
page_at [] n d l = absurd (omega (arith, l))
page_at (q ∷ ps) zero d l = refl
page_at (q ∷ ps) (suc n) d l = page_at ps n d (omega (arith, l))
