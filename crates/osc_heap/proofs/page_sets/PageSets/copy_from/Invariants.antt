-- The pages so far are told alike.
use Rattle.std.proofs.Common.{◌≡◌, ℕ, ◌<◌, false, length, get_or}
use Rattle.osc_heap.proofs.page_sets.PageSets.copy_from.Given as goal

abbrev pub invariant-loop-page : goal.invariant-loop-page
invariant-loop-page l = record {
  count : l.self.count ≡ l.fn.self.count;
  partly_count : length l.self.partly ≡ l.self.count;
  empty_count : length l.self.empty ≡ l.self.count;
  partly : (k : ℕ) → k < l.page → get_or l.self.partly k false ≡ get_or l.other.partly k false;
  empty : (k : ℕ) → k < l.page → get_or l.self.empty k false ≡ get_or l.other.empty k false;
}
