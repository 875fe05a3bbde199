-- The tables that pages newly take where no object was granted, counted from the journal. This project's own.
use Rattle.std.specs.Prelude.{ℕ, ◌≡◌, []}
use Rattle.osc_paging.specs.KeptTables.{KeptTables, need}
use Rattle.osc_machine.specs.Replay.{Ledger}
use Rattle.osc_machine.specs.Refusals.{Setting, new_tables}
use Rattle.osc_ledger.specs.Tables.{TablesTold}

-- Under the plain heap no object is ever granted, so no leaf table is ever given up: where a process has the
-- tables that are told, any pages in a row take as many tables as the journal tells, those of its next
-- block too.
abbrev pub PlainNeedIsTold : Type 0
PlainNeedIsTold =
    (s : Setting) (l : Ledger) (t : KeptTables) (first count : ℕ) → l.objects ≡ [] → TablesTold s l t
    → new_tables s l first count ≡ need t first count
