-- There is no entry.
use Rattle.osc_heap.proofs.Tables.{no_entries}
use Rattle.osc_heap.proofs.page_table.PageTable.new.Goals as goal

pub returns : goal.returns
returns c = no_entries c.args.frames c.in_ok-with_capacity.field-0.items c.in_ok-with_capacity.ensures.items
