use Rattle.std.proofs.Common.{ℕ, List, ◌≡◌, ◌<◌, get_or, vec_len, false}
use Rattle.osc_image.specs.Image.{page_permits}
use Rattle.osc_elf.specs.Segments.{all_shown}
use Rattle.osc_elf.specs.Reach.{reach_below}
use Rattle.osc_elf.proofs.permitted.permitted.Given as goal

abbrev pub invariant-loop-page : goal.invariant-loop-page
invariant-loop-page l =
    (vec_len l.table ≡ l.page) × (l.end ≡ reach_below l.fn.segments l.fn.access l.page)
    × ((file : List ℕ) (page : ℕ) → page < l.page → get_or l.table.items page false ≡ page_permits (all_shown file l.fn.segments) l.fn.access page)
