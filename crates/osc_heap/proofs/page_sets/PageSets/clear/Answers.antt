-- Each page is told to hold no block.
use Rattle.std.proofs.Common.{◌≡◌, ◌<◌, ℕ, Bool, true, false, List, length, replicate, get_or, arith, refl, ap, ◌∙◌}
use Rattle.std.proofs.lemmas.List.{length-replicate, get_or-replicate}
use Rattle.osc_frames.proofs.Rows.{same_lists}
use Rattle.osc_heap.specs.Layout.{no_block_on}
use Rattle.osc_heap.specs.declared.page_sets.PageSets.{PageSets}
use Rattle.osc_heap.proofs.page_sets.PageSets.clear.Goals as goal

all_are : (xs : List Bool) (n : ℕ) (t : Bool) → length xs ≡ n → ((k : ℕ) → k < n → get_or xs k false ≡ t) → xs ≡ replicate n t
all_are xs n t l same =
    let long = length-replicate n t in
    same_lists xs (replicate n t) (omega arith) (λ k m. let at = get_or-replicate n k t false in let here = same k (omega arith) in grind (arith, at, here))

pub returns : goal.returns
returns c =
    let i = c.loop-page.invariant in
    let past = c.loop-page-test.false in
    let partly : c.loop-page.self.partly ≡ replicate c.loop-page.self.count false = all_are c.loop-page.self.partly c.loop-page.self.count false i.partly_count (λ k l. i.partly k (omega arith)) in
    let empty : c.loop-page.self.empty ≡ replicate c.loop-page.self.count true = all_are c.loop-page.self.empty c.loop-page.self.count true i.empty_count (λ k l. i.empty k (omega arith)) in
    let P : List Bool → List Bool → Type 0 = λ p e. ◌≡◌ {A = PageSets} (record { count = c.loop-page.self.count; partly = p; empty = e }) (no_block_on c.loop-page.self.count) in
    let here : P c.loop-page.self.partly c.loop-page.self.empty = rw (partly, empty) refl in
    here ∙ ap no_block_on i.count
