-- The pages so far, below the one from which the next is looked for.
use Rattle.std.proofs.Common.{◌≡◌, ◌≤◌, ◌-◌}
use Rattle.osc_open.specs.Laying.{pages_of}
use Rattle.osc_core.proofs.Pages.{pages_so_far}
use Rattle.osc_core.proofs.boot.image_pages.Given as goal

abbrev pub invariant-loop-page : goal.invariant-loop-page
invariant-loop-page l = (pages_of l.pages.items ≡ pages_so_far l.image l.from) × (l.from ≤ 1048576)

abbrev pub decreases-loop-page : goal.decreases-loop-page
decreases-loop-page l = 1048576 - l.from
