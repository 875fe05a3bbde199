-- So many divisions are done.
use Rattle.std.proofs.Common.{◌≡◌, ◌≤◌, ◌-◌}
use Rattle.osc_sv39.specs.Walk.{piece}
use Rattle.osc_tables.proofs.numbers.piece_over.Given as goal

abbrev pub invariant-loop-done : goal.invariant-loop-done
invariant-loop-done l = (piece l.done l.number ≡ l.piece) × (l.done ≤ l.level)

abbrev pub decreases-loop-done : goal.decreases-loop-done
decreases-loop-done l = l.level - l.done
