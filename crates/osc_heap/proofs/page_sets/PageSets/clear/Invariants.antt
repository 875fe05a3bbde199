-- The pages so far hold no block.
use Rattle.std.proofs.Common.{◌≡◌, ℕ, ◌<◌, false, true, length, get_or}
use Rattle.osc_heap.proofs.page_sets.PageSets.clear.Given as goal

abbrev pub invariant-loop-page : goal.invariant-loop-page
invariant-loop-page l = record {
  count : l.self.count ≡ l.fn.self.count;
  partly_count : length l.self.partly ≡ l.self.count;
  empty_count : length l.self.empty ≡ l.self.count;
  partly : (k : ℕ) → k < l.page → get_or l.self.partly k false ≡ false;
  empty : (k : ℕ) → k < l.page → get_or l.self.empty k false ≡ true;
}
