use Rattle.std.proofs.Common.{◌+◌, ◌/◌, ◌≤◌}
use Rattle.osc_image.specs.Image.{pages_below}
use Rattle.osc_elf.specs.TableNumbers.{tables_of}
use Rattle.osc_elf.proofs.Counting.{Counted}
use Rattle.osc_elf.proofs.image.Image.tables.Given as goal

abbrev pub invariant-loop-page : goal.invariant-loop-page
invariant-loop-page l =
    Counted (tables_of l.size (pages_below l.self l.page)) l.count l.next × (l.count ≤ l.page)
    × (l.next ≤ l.page / l.size + 1)
