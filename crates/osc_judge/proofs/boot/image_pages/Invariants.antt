use Rattle.std.proofs.Common.{◌≡◌, ◌≤◌, ◌-◌}
use Rattle.osc_judge.specs.Booting.{pages_up_to}
use Rattle.osc_judge.proofs.boot.image_pages.Given as goal

abbrev pub invariant-loop-number : goal.invariant-loop-number
invariant-loop-number l = (l.pages.items ≡ pages_up_to l.image l.from) × (l.from ≤ 1048576)

abbrev pub decreases-loop-number : goal.decreases-loop-number
decreases-loop-number l = 1048576 - l.from
