-- The refusals for want of memory, in the numbers that the code has.
use Rattle.std.proofs.Common.{ℕ, ◌+◌, ◌≡◌, ◌<◌, ◌≤◌, Bool, Some, None, List, [], arith, ap, sym, ◌∙◌}
use Rattle.osc_word.specs.declared.calls.Answer.TheVariants as answer
use Rattle.osc_sv39.specs.Walk.{number_of}
use Rattle.osc_slot.specs.Heap.{empty_heap, free_count}
use Rattle.osc_paging.specs.KeptTables.{KeptTables, levels_of, need}
use Rattle.osc_tables.specs.Inside.{IsTop}
use Rattle.osc_mark.specs.Grants.{Grants, AreMarked, left}
use Rattle.osc_space.specs.Objects.{next_page}
use Rattle.osc_space.proofs.RefusalLawProofs.{refused_for_want}
use Rattle.osc_shadow.specs.Parts.{draft_of, memory_refusal}
use Rattle.osc_shadow.proofs.LowPages.{is_low}

-- the first page of the next grant is its own number
pub needed : (t : KeptTables) (g : Grants) (page pages x : ℕ) → IsTop t.top → AreMarked g → page ≡ next_page g.objects → x ≡ need t (number_of (levels_of t) page) pages → x ≡ need t (next_page g.objects) pages
needed t g page pages x top m e f =
    let below = m.mark in
    let most = m.most in
    let low = is_low t.top page top (omega arith) in
    f ∙ ap (λ n. need t n pages) low.1 ∙ ap (λ n. need t n pages) e

pub lacks_frames : (t : KeptTables) (g : Grants) (free : List Bool) (frames pages x : ℕ) → AreMarked g → pages ≤ left g → x ≡ need t (next_page g.objects) pages → free_count free < frames + x → Some answer.NoFrames ≡ memory_refusal t g free frames pages
lacks_frames t g free frames pages x m l e w =
    let below = m.mark in
    sym ((refused_for_want (draft_of t g (empty_heap 0) [] free []) frames pages).lack (omega arith) (omega arith))

pub lacks_none : (t : KeptTables) (g : Grants) (free : List Bool) (frames pages x : ℕ) → AreMarked g → pages ≤ left g → x ≡ need t (next_page g.objects) pages → frames + x ≤ free_count free → None ≡ memory_refusal t g free frames pages
lacks_none t g free frames pages x m l e w =
    let below = m.mark in
    sym ((refused_for_want (draft_of t g (empty_heap 0) [] free []) frames pages).none (omega arith) (omega arith))
