use Rattle.std.proofs.Common.{◌≡◌, ◌-◌, Some, []}
use Rattle.osc_world.specs.Accesses.{row_at}
use Rattle.osc_object.specs.Turns.{turn_shown}
use Rattle.osc_object.specs.Rows.{row_shown, spelled_row}
use Rattle.osc_object.proofs.writing.read_row.Given as goal

abbrev pub invariant-loop : goal.invariant-loop
invariant-loop l =
    spelled_row (row_shown l.read) (row_at (turn_shown l.turn) (l.count - l.counter) l.address)
    ≡ spelled_row (Some []) (row_at (turn_shown l.turn) l.count l.fn.from)
