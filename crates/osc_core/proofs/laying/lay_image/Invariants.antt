-- The first pages are put.
use Rattle.std.proofs.Common.{◌≡◌, Bool, List, length}
use Rattle.osc_paging.specs.KeptTables.{KeptTables}
use Rattle.osc_open.specs.Laying.{pages_of}
use Rattle.osc_core.specs.Words.{CanLay}
use Rattle.osc_core.proofs.Images.{LaysSome}
use Rattle.osc_core.proofs.laying.lay_image.Given as goal

abbrev pub invariant-loop-page : goal.invariant-loop-page
invariant-loop-page l = record {
  room : length l.bytes ≡ 4096;
  laid : (t : KeptTables) (free : List Bool) → CanLay t free l.root l.levels (pages_of l.pages) l.fn.words → LaysSome l.image t free l.page-index (pages_of l.pages) l.fn.words l.words;
}
