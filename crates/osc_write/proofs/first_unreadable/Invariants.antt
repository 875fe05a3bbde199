use Rattle.std.proofs.Common.{◌≡◌, ◌-◌, ◌+◌, ◌≤◌}
use Rattle.osc_calls.specs.WritePlan.{first_unreadable}
use Rattle.osc_write.proofs.Reading.{unreadable_from}
use Rattle.osc_write.proofs.first_unreadable.Given as goal

-- the addresses from here on are still to be looked at
abbrev pub invariant-loop-done : goal.invariant-loop-done
invariant-loop-done l = record {
  left : unreadable_from l.tables l.buf l.done (l.count - l.done) ≡ first_unreadable l.tables l.buf l.count;
  few : l.done ≤ 4194304 + 4096;
}

abbrev pub decreases-loop-done : goal.decreases-loop-done
decreases-loop-done l = l.count - l.done
