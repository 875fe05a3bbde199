-- No bit is 1.
use Rattle.osc_heap.proofs.SlotBits.{no_words}
use Rattle.osc_heap.proofs.area.Area.new.Goals as goal

pub returns : goal.returns
returns c = no_words c.in_ok-with_capacity.field-0.items c.args.slots c.in_ok-with_capacity.ensures.items
