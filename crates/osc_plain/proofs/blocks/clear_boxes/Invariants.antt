-- The boxes from here on are still to be cleared.
use Rattle.std.proofs.Common.{◌≡◌, ◌+◌, ◌≤◌, ◌++◌, length}
use Rattle.osc_space.specs.Free.{clear_jobs}
use Rattle.osc_shadow.proofs.Clears.{clears_from}
use Rattle.osc_plain.proofs.blocks.clear_boxes.Given as goal

abbrev pub invariant-loop-hart : goal.invariant-loop-hart
invariant-loop-hart l = record {
  pushed : l.jobs.pushed ++ clears_from l.harts l.hart ≡ l.fn.jobs.pushed ++ clear_jobs l.harts;
  few : length l.jobs.pushed ≤ length l.fn.jobs.pushed + l.hart;
  room : l.jobs.room ≡ l.fn.jobs.room;
}
