-- The pages so far are reached.
use Rattle.std.proofs.Common.{ℕ, ◌<◌, ◌+◌, IsTrue}
use Rattle.osc_sv39.specs.Walk.{is_canonical}
use Rattle.osc_paging.specs.KeptTables.{levels_of}
use Rattle.osc_tables.proofs.tests.need_on.Given as goal

abbrev pub invariant-loop-k : goal.invariant-loop-k
invariant-loop-k g l = (i : ℕ) → i < l.k → IsTrue (is_canonical (levels_of l.tables) (l.first + i))
