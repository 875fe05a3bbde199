use Rattle.std.proofs.Common.{ℕ, ◌≡◌, ◌<◌, cond, get_or}
use Rattle.std.specs.Prelude.{is_some}
use Rattle.osc_paging.specs.KeptTables.{table_at}
use Rattle.osc_fork.specs.Names.{to_copy}
use Rattle.osc_fork.proofs.marking.mark_tables.Given as goal

-- the frames before this one are looked at
abbrev pub invariant-loop-frame : goal.invariant-loop-frame
invariant-loop-frame l = (k : ℕ) → k < l.frame → get_or l.names k 0 ≡ cond (is_some (table_at l.tables k)) to_copy k
