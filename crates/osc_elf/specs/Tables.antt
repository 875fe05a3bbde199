-- The tables that an image keeps of its pages. This project's own.
use Rattle.std.specs.Prelude.{◌≡◌, ◌≤◌, Bool, List, length}
use Rattle.osc_sv39.specs.declared.entries.Access.TheVariants.{Fetch, Load, Store}
use Rattle.osc_elf.specs.declared.segment.Segment.{Segment}
use Rattle.osc_elf.specs.Segments.{last_end}
use Rattle.osc_elf.specs.Reach.{Permitted}

-- which pages can be read, written and executed, up to the last one of the segments
pub record AreTables (segments : List Segment) (read write execute : List Bool) : Type 0 where
  pub loads : Permitted read segments Load
  pub stores : Permitted write segments Store
  pub fetches : Permitted execute segments Fetch
  pub end : length read ≡ last_end segments
  pub bound : last_end segments ≤ 1048576
