-- A page is told to have a slot beside a block exactly where one has.
use Rattle.std.proofs.Common.{◌∙◌}
use Rattle.osc_heap.proofs.Tells.{has_told}
use Rattle.osc_heap.proofs.areas.has_beside.Goals as goal

pub returns : goal.returns
returns c = c.is_some.ensures ∙ has_told c.args.frames c.args.class c.args.areas.now c.args.told.now c.index-told-class.result c.first_partly.result c.requires.told c.requires.is_class c.index-told-class.is c.first_partly.ensures
