-- The need over the block's pages is that over their own numbers.
use Rattle.std.proofs.Common.{arith, ap, sym, ◌≡◌, ◌-◌, ◌/◌, ◌∙◌}
use Rattle.std.specs.Prelude.{nat_lt}
use Rattle.osc_slot.specs.declared.Block.{Block}
use Rattle.osc_slot.specs.Heap.{free_count}
use Rattle.osc_slot.proofs.Bounds.{pages_positive}
use Rattle.osc_plain.proofs.Lying.{frames_agree, need_few, next_lies}
use Rattle.osc_plain.proofs.Maps.{all_low, need_lacks, more_lacks}
use Rattle.osc_plain.proofs.blocks.lacks_frames.Goals as goal

pub returns-then-pages-free : goal.returns-then-pages-free
returns-then-pages-free c = sym (more_lacks c.args.tables.now c.args.heap.now c.args.frames.now c.args.room c.need-pages.result c.need-pages.ensures.need (omega arith))

pub next_block-block-requires-clause-frames_agree : goal.next_block-block-requires-clause-frames_agree
next_block-block-requires-clause-frames_agree c = frames_agree c.args.tables.now c.args.heap.now c.args.frames.now c.requires.agree

pub need-requires : goal.need-requires
need-requires c =
    let agree = frames_agree c.args.tables.now c.args.heap.now c.args.frames.now c.requires.agree in
    let needs = c.need-pages.ensures.need in
    let few = need_few c.args.heap.now c.args.room in
    let l = next_lies c.args.heap.now c.args.room c.args.frames.now c.need-pages.ensures.valid agree c.requires.is_room c.requires.agree.few (omega arith) in
    let first = ap (λ (b : Block). b.start / 4096) c.next_block-block.ensures.block in
    let low = l.low in
    all_low c.args.tables.now (c.next_block-block.result.start / 4096) c.need-pages.result c.know_tables.ensures.range (omega (arith, needs, few, first, low))

pub returns : goal.returns
returns c =
    let agree = frames_agree c.args.tables.now c.args.heap.now c.args.frames.now c.requires.agree in
    let l = next_lies c.args.heap.now c.args.room c.args.frames.now c.need-pages.ensures.valid agree c.requires.is_room c.requires.agree.few (omega arith) in
    let first = ap (λ (b : Block). b.start / 4096) c.next_block-block.ensures.block in
    let low = l.low in
    let some = pages_positive c.args.room c.requires.is_room in
    let here = need_lacks c.args.tables.now c.args.heap.now c.args.frames.now c.args.room (c.next_block-block.result.start / 4096) c.need-pages.result c.need.result c.know_tables.ensures.range first (omega (arith, first, low, some)) c.need-pages.ensures.need (omega arith) c.need.ensures in
    let free = c.free_count.ensures in
    let from = c.from-free.ensures in
    let same : c.from-free.result ≡ free_count c.args.frames.now = from ∙ free in
    ap (λ f. nat_lt (f - c.need-pages.result) c.need.result) same ∙ here
