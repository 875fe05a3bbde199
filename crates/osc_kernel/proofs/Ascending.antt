-- One page more after those of an image.
use Rattle.std.proofs.Common.{ℕ, suc, ◌+◌, ◌<◌, ◌≤◌, List, [], ◌∷◌, ◌++◌, arith, sym, subst}
use Rattle.std.specs.Prelude.{IsTrue}
use Rattle.std.proofs.lemmas.List.{map-append}
use Rattle.osc_sv39.specs.declared.flags.PteBits.{PteBits}
use Rattle.osc_sv39.specs.ReadBack.{is_leaf}
use Rattle.osc_space.specs.LeafFlags.{leaf_of_page}
use Rattle.osc_calls.specs.Open.{OpenPage, open_page}
use Rattle.osc_open.specs.Laying.{AreImagePages, pages_of}

-- the pages stand before another
abbrev pub AreBefore : ℕ → List OpenPage → Type 0
AreBefore next [] = Unit {0}
AreBefore next (p ∷ ps) = (p.page < next) × AreBefore next ps

pub record StandBefore (next : ℕ) (ps : List OpenPage) : Type 0 where
  pub image : AreImagePages 16 ps
  pub before : AreBefore next ps

more_image : (low next : ℕ) (bits : PteBits) (ps : List OpenPage) → low ≤ next → next < 0x100000 → IsTrue (is_leaf (leaf_of_page bits))
    → AreImagePages low ps → AreBefore next ps → AreImagePages low (ps ++ open_page next bits ∷ [])
more_image low next bits [] l m leaf are before = (l, m, leaf, tt)
more_image low next bits (p ∷ ps) l m leaf are before = (are.0, are.1, are.2, more_image (suc p.page) next bits ps before.0 m leaf are.3 before.1)

more_before : (next : ℕ) (bits : PteBits) (ps : List OpenPage) → AreBefore next ps → AreBefore (next + 1) (ps ++ open_page next bits ∷ [])
more_before next bits [] before = (omega arith, tt)
more_before next bits (p ∷ ps) before = let l = before.0 in (omega (arith, l), more_before next bits ps before.1)

pub one_page_more : (next : ℕ) (bits : PteBits) (pages : List (ℕ × PteBits)) → 16 ≤ next → next < 0x100000 → IsTrue (is_leaf (leaf_of_page bits))
    → StandBefore next (pages_of pages) → StandBefore (next + 1) (pages_of (pages ++ (next, bits) ∷ []))
one_page_more next bits pages l m leaf s =
    subst (StandBefore (next + 1)) (sym (map-append (λ (p : ℕ × PteBits). open_page p.0 p.1) pages ((next, bits) ∷ []))) (record {
      image = more_image 16 next bits (pages_of pages) l m leaf s.image s.before;
      before = more_before next bits (pages_of pages) s.before;
    })
