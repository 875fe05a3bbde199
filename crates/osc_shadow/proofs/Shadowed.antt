-- One shadow page more of those that map a block's pages.
use Rattle.std.proofs.Common.{ℕ, suc, ◌+◌, ◌-◌, ◌≡◌, ◌<◌, List, ◌∷◌, arith, refl, ap, sym, ◌∙◌}
use Rattle.std.specs.Prelude.{Bool, unwrap_or}
use Rattle.osc_word.specs.JobList.{JobList}
use Rattle.osc_sv39.specs.Walk.{number_of}
use Rattle.osc_slot.specs.declared.HeapPage.{HeapPage}
use Rattle.osc_slot.specs.Heap.{frame_of}
use Rattle.osc_paging.specs.KeptTables.{KeptTables, levels_of}
use Rattle.osc_paging.specs.TableChanges.{Changed, map_page, map_pages}
use Rattle.osc_tables.specs.Calls.{HasTaken, changed}
use Rattle.osc_space.specs.LeafFlags.{read_write_at}
use Rattle.osc_space.specs.BlockWords.{frame_at, mappings_of}
use Rattle.osc_shadow.specs.Mapping.{CanMap}
use Rattle.osc_shadow.proofs.Mapped.{maps_first, can_map_rest}

next_mapping : (pages : List HeapPage) (page count : ℕ) → 0 < count → mappings_of pages page count ≡ read_write_at (frame_at pages page) ∷ mappings_of pages (page + 1) (count - 1)
next_mapping pages page count l = go (count - 1) (omega arith)
  where
    go : (more : ℕ) → count ≡ suc more → mappings_of pages page count ≡ read_write_at (frame_at pages page) ∷ mappings_of pages (page + 1) more
    go more e = rw e refl

-- what is left after a page
pub record Rest (pages : List HeapPage) (all : Changed) (t : KeptTables) (free : List Bool) (jobs : JobList) (n page count : ℕ) : Type 0 where
  pub can : CanMap t free jobs n count
  pub next : map_pages n (mappings_of pages page count) (changed t free jobs.pushed) ≡ all

pub maps_one : (pages : List HeapPage) (all : Changed) (t u : KeptTables) (free now : List Bool) (jobs after : JobList) (n page count n1 page1 count1 frame : ℕ)
    → CanMap t free jobs n count → map_pages n (mappings_of pages page count) (changed t free jobs.pushed) ≡ all
    → n1 ≡ n + 1 → page1 ≡ page + 1 → count1 + 1 ≡ count
    → frame ≡ unwrap_or (frame_of pages page) 0
    → changed u now after.pushed ≡ map_page (number_of (levels_of t) n) (read_write_at frame) (changed t free jobs.pushed)
    → HasTaken u now → after.room ≡ jobs.room
    → Rest pages all u now after n1 page1 count1
maps_one pages all t u free now jobs after n page count n1 page1 count1 frame can next a b d f made taken room =
    let some : 0 < count = omega arith in
    let first = maps_first t free jobs n count can some in
    let less : count1 ≡ count - 1 = omega arith in
    let put : changed u now after.pushed ≡ map_page n (read_write_at frame) (changed t free jobs.pushed) = made ∙ ap (λ k. map_page k (read_write_at frame) (changed t free jobs.pushed)) first.number in
    let rest = can_map_rest t u free now jobs after n count (read_write_at frame) can some put taken room in
    let steps : map_pages n (read_write_at frame ∷ mappings_of pages (page + 1) (count - 1)) (changed t free jobs.pushed) ≡ all =
    ap (λ k. map_pages n (read_write_at k ∷ mappings_of pages (page + 1) (count - 1)) (changed t free jobs.pushed)) f
    ∙ ap (λ ms. map_pages n ms (changed t free jobs.pushed)) (sym (next_mapping pages page count some)) ∙ next in
    let on : map_pages (n + 1) (mappings_of pages (page + 1) (count - 1)) (changed u now after.pushed) ≡ all =
    ap (λ x. map_pages (n + 1) (mappings_of pages (page + 1) (count - 1)) x) put ∙ steps in
    rw (a, b, less) (record { can = rest; next = on })
