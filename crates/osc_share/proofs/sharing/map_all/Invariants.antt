use Rattle.std.proofs.Common.{◌≡◌, ◌+◌, ◌-◌, drop, length, map}
use Rattle.osc_paging.specs.TableChanges.{map_pages}
use Rattle.osc_space.specs.LeafFlags.{read_write_at}
use Rattle.osc_tables.specs.Calls.{changed}
use Rattle.osc_share.specs.InRow.{CanMap}
use Rattle.osc_share.proofs.sharing.map_all.Given as goal

-- the pages from here on are still to be mapped, and can be
abbrev pub invariant-loop-frame : goal.invariant-loop-frame
invariant-loop-frame l = record {
  page : l.page ≡ l.first + l.frame-index;
  can : CanMap l.page (length l.taken - l.frame-index) l.tables l.frames l.jobs;
  left : map_pages l.page (map read_write_at (drop l.frame-index l.taken)) (changed l.tables l.frames l.jobs.pushed)
      ≡ map_pages l.first (map read_write_at l.taken) (changed l.fn.tables l.fn.frames l.fn.jobs.pushed);
  room : l.jobs.room ≡ l.fn.jobs.room;
}
