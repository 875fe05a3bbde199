-- No page so far is mapped.
use Rattle.std.proofs.Common.{ℕ, ◌≡◌, ◌<◌, ◌+◌, ◌*◌, None}
use Rattle.osc_paging.specs.KeptTables.{mapping_of}
use Rattle.osc_tables.proofs.tests.reclaim_on.Given as goal

abbrev pub invariant-loop-i : goal.invariant-loop-i
invariant-loop-i g l = (k : ℕ) → k < l.i → mapping_of l.tables (l.leaf * 512 + k) ≡ None
