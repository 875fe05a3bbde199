use Rattle.std.proofs.Common.{◌≡◌, ◌≤◌, length}
use Rattle.osc_image.specs.Image.{pages_below}
use Rattle.osc_elf.proofs.image.Image.page_count.Given as goal

abbrev pub invariant-loop-page : goal.invariant-loop-page
invariant-loop-page l = (l.count ≡ length (pages_below l.self l.page)) × (l.count ≤ l.page)
