use Rattle.std.proofs.Common.{◌≡◌, ◌+◌, ◌≤◌, ◌++◌}
use Rattle.osc_calls.specs.WritePlan.{out_jobs}
use Rattle.osc_write.proofs.push_page.Given as goal

-- the bytes from here on still want their jobs
abbrev pub invariant-loop-left : goal.invariant-loop-left
invariant-loop-left l = record {
  rest : l.jobs.pushed ++ out_jobs l.tables l.at l.left ≡ l.fn.jobs.pushed ++ out_jobs l.tables l.from l.count;
  start : l.from ≤ l.at;
  end : l.at + l.left ≡ l.from + l.count;
  room : l.jobs.room ≡ l.fn.jobs.room;
}

abbrev pub decreases-loop-left : goal.decreases-loop-left
decreases-loop-left l = l.left
