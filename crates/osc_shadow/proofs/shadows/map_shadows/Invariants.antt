-- The pages from here on are still to be mapped.
use Rattle.std.proofs.Common.{◌≡◌, ◌+◌, ◌-◌}
use Rattle.osc_paging.specs.TableChanges.{map_pages}
use Rattle.osc_tables.specs.Calls.{changed}
use Rattle.osc_space.specs.BlockWords.{mappings_of}
use Rattle.osc_shadow.specs.Mapping.{CanMap}
use Rattle.osc_shadow.proofs.shadows.map_shadows.Given as goal

abbrev pub invariant-loop-k : goal.invariant-loop-k
invariant-loop-k l = record {
  can : CanMap l.tables l.frames l.jobs (l.first + l.k) (l.count - l.k);
  next : map_pages (l.first + l.k) (mappings_of l.heap.pages (l.page + l.k) (l.count - l.k)) (changed l.tables l.frames l.jobs.pushed)
      ≡ map_pages l.fn.first (mappings_of l.heap.pages l.page l.count) (changed l.fn.tables l.fn.frames l.fn.jobs.pushed);
  room : l.jobs.room ≡ l.fn.jobs.room;
}
