-- The place is not yet passed.
use Rattle.std.proofs.Common.{◌≤◌, ◌-◌, length}
use Rattle.osc_mark.specs.Places.{place_for}
use Rattle.osc_mark.proofs.looks.place_for.Given as goal

abbrev pub invariant-loop-low : goal.invariant-loop-low
invariant-loop-low l = record {
  from : l.low ≤ place_for l.page l.objects;
  to : place_for l.page l.objects ≤ l.high;
  within : l.high ≤ length l.objects;
}

abbrev pub decreases-loop-low : goal.decreases-loop-low
decreases-loop-low l = l.high - l.low
