-- The need of tables is that from the next page on.
use Rattle.std.proofs.Common.{arith, ◌+◌, ◌≤◌, ◌<◌}
use Rattle.osc_slot.specs.Heap.{free_count}
use Rattle.osc_shadow.proofs.Refused.{needed, lacks_frames, lacks_none}
use Rattle.osc_shadow.proofs.memory.memory_lack.Goals as goal

pub returns-then-needed-free : goal.returns-then-needed-free
returns-then-needed-free c =
    let x = needed c.args.tables.now c.args.marks.now c.next_page.result c.args.pages c.need-needed.result c.know_tables.ensures.range c.left.ensures.valid c.next_page.ensures.page c.need-needed.ensures in
    let more : free_count c.args.frames.now < c.args.block_frames + c.need-needed.result = omega arith in
    lacks_frames c.args.tables.now c.args.marks.now c.args.frames.now c.args.block_frames c.args.pages c.need-needed.result c.left.ensures.valid (omega arith) x more

pub returns : goal.returns
returns c =
    let x = needed c.args.tables.now c.args.marks.now c.next_page.result c.args.pages c.need-needed.result c.know_tables.ensures.range c.left.ensures.valid c.next_page.ensures.page c.need-needed.ensures in
    let enough : c.args.block_frames + c.need-needed.result ≤ free_count c.args.frames.now = omega arith in
    lacks_none c.args.tables.now c.args.marks.now c.args.frames.now c.args.block_frames c.args.pages c.need-needed.result c.left.ensures.valid (omega arith) x enough
