-- Each mapping is one of a page.
use Rattle.osc_tables.proofs.PagePlaces.{frame_within}
use Rattle.osc_tables.proofs.page_list.copy_slots.Goals as goal

pub renamed-mapping-requires : goal.renamed-mapping-requires
renamed-mapping-requires c = frame_within _ c.args.slots.now c.loop-slot.slot-index _ c.requires.frames c.loop-slot-test.true
