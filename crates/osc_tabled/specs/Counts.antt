-- How many tables the journal tells is how many a process has. This project's own.
use Rattle.std.specs.Prelude.{ℕ, ◌≡◌, ◌<◌, length}
use Rattle.osc_paging.specs.KeptTables.{KeptTables}
use Rattle.osc_paging.specs.Agree.{Apart}
use Rattle.osc_space.specs.Used.{tables_used}
use Rattle.osc_machine.specs.Replay.{Ledger}
use Rattle.osc_machine.specs.Refusals.{Setting, ever_mapped, given_up}
use Rattle.osc_ledger.specs.Tables.{TablesTold}

-- so many tables: those over the pages ever mapped, less the leaf tables that were given up
abbrev pub tables_told : Setting → Ledger → ℕ
tables_told s l = tables_used s.config.levels (ever_mapped s l) (given_up l)

-- tables of two levels or more of which no two have one piece, and that are those that a ledger tells, are as
-- many as it tells
abbrev pub TablesAreCounted : Type 0
TablesAreCounted = (s : Setting) (l : Ledger) (t : KeptTables) → 0 < t.top → Apart t.tables → TablesTold s l t → tables_told s l ≡ length t.tables
