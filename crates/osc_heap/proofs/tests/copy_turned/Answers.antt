-- Two frames that change places are still two.
use Rattle.std.proofs.Common.{ℕ, zero, suc, ◌≡◌, ◌<◌, ◌==◌, ◌||◌, List, [], ◌∷◌, map, slice_index, arith, refl, sym, ap, ◌∙◌, subst}
use Rattle.osc_slot.specs.declared.HeapPage.{HeapPage}
use Rattle.osc_slot.specs.Heap.{HaveFrames, has_frame, rename}
use Rattle.osc_heap.proofs.tests.copy_turned.Goals as goal

turn : ℕ → ℕ
turn f = slice_index (1 ∷ 0 ∷ []) f

turn_below : (f : ℕ) → f < 2 → turn f < 2
unfolding turn
turn_below zero l = omega arith
turn_below (suc zero) l = omega arith
turn_below (suc (suc f)) l = absurd (omega arith)

turn_apart : (f g : ℕ) → f < 2 → g < 2 → (turn f == turn g) ≡ (f == g)
unfolding turn
turn_apart zero zero l m = refl
turn_apart zero (suc zero) l m = refl
turn_apart (suc zero) zero l m = refl
turn_apart (suc zero) (suc zero) l m = refl
turn_apart (suc (suc f)) g l m = absurd (omega arith)
turn_apart f (suc (suc g)) l m = absurd (omega arith)

turned_frame : (f : ℕ) (pages : List HeapPage) → f < 2 → HaveFrames 2 pages → has_frame (turn f) (map (rename (1 ∷ 0 ∷ [])) pages) ≡ has_frame f pages
unfolding HaveFrames turn
turned_frame f [] l h = refl
turned_frame f (p ∷ pages) l h = ap (λ t. t || has_frame (turn f) (map (rename (1 ∷ 0 ∷ [])) pages)) (turn_apart p.frame f h.0 l) ∙ ap (λ t. (p.frame == f) || t) (turned_frame f pages l h.2)

turned : (pages : List HeapPage) → HaveFrames 2 pages → HaveFrames 2 (map (rename (1 ∷ 0 ∷ [])) pages)
unfolding HaveFrames turn
turned [] h = tt
turned (p ∷ pages) h = (turn_below p.frame h.0, turned_frame p.frame pages h.0 h.2 ∙ h.1, turned pages h.2)

pub copy_to-requires-clause-names : goal.copy_to-requires-clause-names
copy_to-requires-clause-names c =
    let P : ℕ → Type 0 = λ n. (2 ≡ n) × HaveFrames n (map (rename (1 ∷ 0 ∷ [])) c.args.heap.now.pages) in
    let Q : ℕ → Type 0 = λ n. HaveFrames n c.args.heap.now.pages in
    let two : HaveFrames 2 c.args.heap.now.pages = subst Q c.requires.heap.0 c.requires.heap.1.frames_apart in
    subst P (sym c.requires.heap.0) (refl, turned c.args.heap.now.pages two)
