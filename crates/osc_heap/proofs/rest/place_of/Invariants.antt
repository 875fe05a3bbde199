-- The pages before the range are below, and those after it are not.
use Rattle.std.proofs.Common.{◌<◌, ◌≤◌, ◌-◌, ℕ, length, get_or}
use Rattle.osc_slot.specs.declared.HeapPage.{HeapPage}
use Rattle.osc_heap.proofs.rest.place_of.Given as goal

abbrev pub invariant-loop-low : goal.invariant-loop-low
invariant-loop-low l = record {
  order : l.low ≤ l.high;
  within : l.high ≤ length l.pages;
  below : (k : ℕ) (d : HeapPage) → k < l.low → (get_or l.pages k d).page < l.page;
  from : (k : ℕ) (d : HeapPage) → l.high ≤ k → k < length l.pages → l.page ≤ (get_or l.pages k d).page;
}

abbrev pub decreases-loop-low : goal.decreases-loop-low
decreases-loop-low l = l.high - l.low
