use Rattle.std.proofs.Common.{◌≡◌, ◌-◌}
use Rattle.osc_calls.specs.Open.{lay_all}
use Rattle.osc_tables.specs.Calls.{changed}
use Rattle.osc_open.specs.Row.{CanLay, alike}
use Rattle.osc_open.proofs.laying.lay_alike.Given as goal

-- the pages from here on are still to be laid, and can be
abbrev pub invariant-loop-page : goal.invariant-loop-page
invariant-loop-page l = record {
  can : CanLay l.count (alike l.page (l.end - l.page) l.bits) l.tables l.frames l.jobs;
  left : lay_all (alike l.page (l.end - l.page) l.bits) (changed l.tables l.frames l.jobs.pushed)
      ≡ lay_all (alike l.first (l.end - l.first) l.bits) (changed l.fn.tables l.fn.frames l.fn.jobs.pushed);
  room : l.jobs.room ≡ l.fn.jobs.room;
}
