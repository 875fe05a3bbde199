-- Where the block is not found, nothing is released.
use Rattle.std.proofs.Common.{◌≡◌, sym, ◌∙◌}
use Rattle.osc_process.proofs.Releases.{release_other, release_no}
use Rattle.osc_process.proofs.ending.release_held.Goals as goal

pub returns-else-is_block-clause-after : goal.returns-else-is_block-clause-after
returns-else-is_block-clause-after c =
    release_other c.args.heap.now c.args.block c.in-Some.held c.block_at.result c.args.frames.now c.block_at.ensures.valid c.block_at.ensures.block c.in-Some.is (sym c.is_block.ensures ∙ c.if-is_block.false)

pub returns-in_default-clause-after : goal.returns-in_default-clause-after
returns-in_default-clause-after c = release_no c.args.heap.now c.args.block c.block_at.result c.args.frames.now c.block_at.ensures.valid c.block_at.ensures.block c.in_default.is
