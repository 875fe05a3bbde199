-- The pages that a process ever mapped, as more of them are.
use Rattle.std.proofs.Common.{ℕ, suc, ◌+◌, ◌≡◌, ◌==◌, ◌||◌, Bool, true, false, List, [], ◌∷◌, ◌++◌, refl, sym, ap, ◌∙◌}
use Rattle.std.specs.List.{list_any, range_with_len}
use Rattle.std.proofs.lemmas.List.Folds.{list_any-append}
use Rattle.osc_word.specs.AddressMap.{first_shared_page, first_shadow_page}
use Rattle.osc_sv39.specs.Walk.{piece}
use Rattle.osc_image.specs.Frames.{stack_pages}
use Rattle.osc_space.specs.Objects.{mark}
use Rattle.osc_machine.specs.Replay.{Ledger}
use Rattle.osc_machine.specs.Refusals.{Setting, region_pages, ever_mapped}
use Rattle.osc_ledger.specs.Tables.{has_piece}
use Rattle.osc_ledger.proofs.AddedTables.{any-range}

nested : (test : ℕ → Bool) (a b c d e : List ℕ)
    → list_any test (a ++ b ++ c ++ d ++ e) ≡ ((((list_any test a || list_any test b) || list_any test c) || list_any test d) || list_any test e)
nested test a b c d e =
    list_any-append test (a ++ b ++ c ++ d) e
    ∙ ap (λ x. x || list_any test e)
    (list_any-append test (a ++ b ++ c) d ∙ ap (λ x. x || list_any test d) (list_any-append test (a ++ b) c ∙ ap (λ x. x || list_any test c) (list_any-append test a b)))

-- shadow pages that were granted are among them
pub ever-granted : (test : ℕ → Bool) (s : Setting) (l : Ledger) → list_any test (range_with_len first_shadow_page (mark l.objects)) ≡ true → list_any test (ever_mapped s l) ≡ true
ever-granted test s l e =
    nested test (range_with_len first_shadow_page (mark l.objects)) (range_with_len first_shared_page (region_pages l.regions)) l.canonical stack_pages s.image
    ∙ ap (λ x. (((x || list_any test (range_with_len first_shared_page (region_pages l.regions))) || list_any test l.canonical) || list_any test stack_pages) || list_any test s.image) e

-- the pages of a block of the plain heap are more
pub ever-placed : (s : Setting) (l m : Ledger) (pages : List ℕ) → m.objects ≡ l.objects → m.regions ≡ l.regions → m.canonical ≡ pages ++ l.canonical → (level number : ℕ)
    → has_piece level number (ever_mapped s m) ≡ (has_piece level number pages || has_piece level number (ever_mapped s l))
ever-placed s l m pages objects regions canonical level number = by (λ page. piece (suc level) page == number)
  where
    pull : (a b n c d e : Bool) → ((((a || b) || (n || c)) || d) || e) ≡ (n || ((((a || b) || c) || d) || e))
    pull a b false c d e = refl
    pull true b true c d e = refl
    pull false true true c d e = refl
    pull false false true c d e = refl

    by : (test : ℕ → Bool) → list_any test (ever_mapped s m) ≡ (list_any test pages || list_any test (ever_mapped s l))
    by test =
        let shadows = range_with_len first_shadow_page (mark l.objects) in
        let shared = range_with_len first_shared_page (region_pages l.regions) in
        (λ i. list_any test (range_with_len first_shadow_page (mark (objects i)) ++ range_with_len first_shared_page (region_pages (regions i)) ++ canonical i ++ stack_pages ++ s.image))
        ∙ nested test shadows shared (pages ++ l.canonical) stack_pages s.image
        ∙ ap (λ x. (((list_any test shadows || list_any test shared) || x) || list_any test stack_pages) || list_any test s.image) (list_any-append test pages l.canonical)
        ∙ pull (list_any test shadows) (list_any test shared) (list_any test pages) (list_any test l.canonical) (list_any test stack_pages) (list_any test s.image)
        ∙ ap (λ b. list_any test pages || b) (sym (nested test shadows shared l.canonical stack_pages s.image))

-- the pages of a new region are more
pub ever-shared : (s : Setting) (l m : Ledger) (count : ℕ) → m.objects ≡ l.objects → m.canonical ≡ l.canonical → region_pages m.regions ≡ region_pages l.regions + count → (level number : ℕ)
    → has_piece level number (ever_mapped s m) ≡ (has_piece level number (range_with_len (first_shared_page + region_pages l.regions) count) || has_piece level number (ever_mapped s l))
ever-shared s l m count objects canonical more level number = by (λ page. piece (suc level) page == number)
  where
    pull : (a b n c d e : Bool) → ((((a || (b || n)) || c) || d) || e) ≡ (n || ((((a || b) || c) || d) || e))
    pull true b true c d e = refl
    pull true b false c d e = refl
    pull false true true c d e = refl
    pull false true false c d e = refl
    pull false false true c d e = refl
    pull false false false c d e = refl

    by : (test : ℕ → Bool) → list_any test (ever_mapped s m) ≡ (list_any test (range_with_len (first_shared_page + region_pages l.regions) count) || list_any test (ever_mapped s l))
    by test =
        let shadows = range_with_len first_shadow_page (mark l.objects) in
        let old = range_with_len first_shared_page (region_pages l.regions) in
        let new = range_with_len (first_shared_page + region_pages l.regions) count in
        (λ i. list_any test (range_with_len first_shadow_page (mark (objects i)) ++ range_with_len first_shared_page (more i) ++ canonical i ++ stack_pages ++ s.image))
        ∙ nested test shadows (range_with_len first_shared_page (region_pages l.regions + count)) l.canonical stack_pages s.image
        ∙ ap (λ x. (((list_any test shadows || x) || list_any test l.canonical) || list_any test stack_pages) || list_any test s.image) (any-range test first_shared_page (region_pages l.regions) count)
        ∙ pull (list_any test shadows) (list_any test old) (list_any test new) (list_any test l.canonical) (list_any test stack_pages) (list_any test s.image)
        ∙ ap (λ b. list_any test new || b) (sym (nested test shadows old l.canonical stack_pages s.image))

-- at the start there are only those of the stack and of the image
pub ever-first : (test : ℕ → Bool) (stack image : List ℕ) → list_any test (([] ++ [] ++ [] ++ stack) ++ image) ≡ (list_any test image || list_any test stack)
ever-first test stack image = list_any-append test stack image ∙ swap (list_any test stack) (list_any test image)
  where
    swap : (a b : Bool) → (a || b) ≡ (b || a)
    swap true true = refl
    swap true false = refl
    swap false true = refl
    swap false false = refl
