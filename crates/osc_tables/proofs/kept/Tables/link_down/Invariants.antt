-- The levels below are still to be linked.
use Rattle.std.proofs.Common.{◌≡◌, ◌≤◌, ◌+◌, ◌*◌}
use Rattle.osc_word.specs.JobList.{spare}
use Rattle.osc_paging.specs.TableChanges.{link_all}
use Rattle.osc_tables.specs.Calls.{HasTaken, changed}
use Rattle.osc_tables.proofs.kept.Tables.link_down.Given as goal

abbrev pub invariant-loop-level : goal.invariant-loop-level
invariant-loop-level l = record {
  next : link_all l.level l.number (changed l.self l.frames l.jobs.pushed) ≡ link_all l.fn.self.top l.number (changed l.fn.self l.fn.frames l.fn.jobs.pushed);
  level : l.level ≤ l.fn.self.top;
  taken : HasTaken l.self l.frames;
  room : l.jobs.room ≡ l.fn.jobs.room;
  rest : l.self ≡ record (l.fn.self) { tables = l.self.tables };
  few : spare l.fn.jobs + 2 * l.level ≤ spare l.jobs + 2 * l.fn.self.top;
}

abbrev pub decreases-loop-level : goal.decreases-loop-level
decreases-loop-level l = l.level
