use Rattle.std.proofs.Common.{◌≡◌, drop}
use Rattle.osc_calls.specs.Open.{lay_all}
use Rattle.osc_tables.specs.Calls.{changed}
use Rattle.osc_open.specs.Laying.{pages_of}
use Rattle.osc_open.specs.Row.{CanLay, with_stack}
use Rattle.osc_open.proofs.laying.lay_image.Given as goal

-- the pages from here on are still to be laid, and can be
abbrev pub invariant-loop-page : goal.invariant-loop-page
invariant-loop-page l = record {
  can : CanLay l.count (with_stack (pages_of (drop l.page-index l.pages))) l.tables l.frames l.jobs;
  left : lay_all (pages_of (drop l.page-index l.pages)) (changed l.tables l.frames l.jobs.pushed)
      ≡ lay_all (pages_of l.pages) (changed l.fn.tables l.fn.frames l.fn.jobs.pushed);
  room : l.jobs.room ≡ l.fn.jobs.room;
}
