-- The need over the truth values is the need of the held blocks.
use Rattle.std.proofs.Common.{◌∙◌}
use Rattle.osc_heap.proofs.Parts.{need_here}
use Rattle.osc_heap.specs.Layout.{pages_of}
use Rattle.osc_heap.proofs.CanonHeap.need.Goals as goal

pub returns-clause-need : goal.returns-clause-need
returns-clause-need c =
    c.need_over.ensures ∙ need_here c.self.inside.frames c.self.inside.areas (pages_of c.self.inside.pages) c.args.self.now c.args.room c.self.view_is c.requires
