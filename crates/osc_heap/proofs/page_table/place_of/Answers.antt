-- The area and the page in it are below their counts.
use Rattle.std.proofs.Common.{arith}
use Rattle.osc_heap.proofs.Tables.{some_frames, area_within, place_within}
use Rattle.osc_heap.proofs.page_table.place_of.Goals as goal

pub returns-clause-bound : goal.returns-clause-bound
returns-clause-bound c = place_within c.args.frames c.args.at c.requires.within
