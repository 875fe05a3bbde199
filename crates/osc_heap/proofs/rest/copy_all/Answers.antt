-- Each page's frame has a name.
use Rattle.osc_heap.proofs.Whole.{frame_lt}
use Rattle.osc_heap.proofs.rest.copy_all.Goals as goal
use Rattle.std.proofs.Common.{length}

pub bounds-names-page : goal.bounds-names-page
bounds-names-page c = frame_lt (length c.args.names.now) c.args.pages.now c.loop-page.page-index (record { page = 0; frame = 0 }) c.requires.names c.loop-page-test.true
