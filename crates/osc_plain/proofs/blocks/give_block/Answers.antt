-- The block is placed, and where it takes new pages these can be mapped.
use Rattle.std.proofs.Common.{arith, ◌≤◌, ◌+◌, ◌/◌, ◌∙◌, length, sym, ap, subst}
use Rattle.osc_class.specs.declared.Room.{Room}
use Rattle.osc_class.specs.Rooms.{block_bytes, shadow_pages}
use Rattle.osc_slot.specs.declared.Block.{Block}
use Rattle.osc_slot.proofs.Backing.{free_count-le}
use Rattle.osc_tables.specs.Calls.{changed}
use Rattle.osc_space.specs.BlockWords.{block_mappings}
use Rattle.osc_shadow.specs.Mapping.{CanMap}
use Rattle.osc_shadow.specs.Pieces.{pieces}
use Rattle.osc_plain.proofs.Lying.{frames_agree, still_held, need_whole}
use Rattle.osc_plain.proofs.Maps.{enough, fills, can_map, plan_none, plan_some, few_jobs, still_mapped}
use Rattle.osc_plain.proofs.blocks.give_block.Goals as goal

pub place-block-requires-clause-frames_agree : goal.place-block-requires-clause-frames_agree
place-block-requires-clause-frames_agree c = frames_agree c.args.tables.now c.args.heap.now c.args.frames.now c.requires.agree

pub place-block-requires-clause-enough : goal.place-block-requires-clause-enough
place-block-requires-clause-enough c = let has = enough c.args.tables.now c.args.heap.now c.args.frames.now c.args.room c.requires.enough in omega (arith, has)

pub fill_block-requires : goal.fill_block-requires
fill_block-requires c =
    let x = fills c.args.tables.now c.args.heap.now c.args.frames.now c.args.room c.place-block.result c.requires.agree c.need-pages.ensures.valid c.requires.is_room c.requires.enough c.place-block.ensures.block in
    let bytes = x.bytes in
    let start = x.start in
    let few = x.pieces_few in
    let spare = c.requires.spare in
    record { is_room = x.is_room; bytes = omega (arith, bytes); start = omega (arith, start); spare = omega (arith, few, spare) }

pub returns-then-pages-eq0-clause-plan : goal.returns-then-pages-eq0-clause-plan
returns-then-pages-eq0-clause-plan c shadows =
    plan_none shadows c.args.size c.args.tables.now c.args.heap.now c.place-block.new.self c.args.room c.place-block.result c.args.frames.now c.place-block.new.frames c.args.jobs.now.pushed c.fill_block.new.jobs.pushed
    c.place-block.ensures.block c.place-block.ensures.heap c.place-block.ensures.free c.fill_block.ensures.pushed (let a = c.need-pages.ensures.need in let b = c.if-pages-eq0.true in omega (arith, a, b))

pub returns-then-pages-eq0-clause-held : goal.returns-then-pages-eq0-clause-held
returns-then-pages-eq0-clause-held c b e = rw c.place-block.ensures.heap (still_held c.args.heap.now c.args.room c.args.frames.now b e)

pub returns-then-pages-eq0-clause-few : goal.returns-then-pages-eq0-clause-few
returns-then-pages-eq0-clause-few c =
    let x = fills c.args.tables.now c.args.heap.now c.args.frames.now c.args.room c.place-block.result c.requires.agree c.need-pages.ensures.valid c.requires.is_room c.requires.enough c.place-block.ensures.block in
    let a = x.pieces_few in
    let b = c.fill_block.ensures.few in
    omega (arith, a, b)

pub map_shadows-requires-clause-is_room : goal.map_shadows-requires-clause-is_room
map_shadows-requires-clause-is_room c =
    (fills c.args.tables.now c.args.heap.now c.args.frames.now c.args.room c.place-block.result c.requires.agree c.need-pages.ensures.valid c.requires.is_room c.requires.enough c.place-block.ensures.block).is_room

pub map_shadows-requires-clause-can : goal.map_shadows-requires-clause-can
map_shadows-requires-clause-can c =
    let x = fills c.args.tables.now c.args.heap.now c.args.frames.now c.args.room c.place-block.result c.requires.agree c.need-pages.ensures.valid c.requires.is_room c.requires.enough c.place-block.ensures.block in
    let few : length c.fill_block.new.jobs.pushed ≤ length c.args.jobs.now.pushed + (pieces (block_bytes c.args.room) + 2) =
    subst (λ (r : Room). length c.fill_block.new.jobs.pushed ≤ length c.args.jobs.now.pushed + (pieces (block_bytes r) + 2)) x.room_is c.fill_block.ensures.few in
    let agree = frames_agree c.args.tables.now c.args.heap.now c.args.frames.now c.requires.agree in
    subst (λ (r : Room). CanMap c.args.tables.now c.place-block.new.frames c.fill_block.new.jobs (c.place-block.result.start / 4096) (shadow_pages r)) (sym x.room_is)
    (can_map c.args.tables.now c.args.heap.now c.args.frames.now c.place-block.new.frames c.args.jobs.now c.fill_block.new.jobs c.args.room (c.place-block.result.start / 4096)
    c.requires.agree c.know_tables.ensures c.need-pages.ensures.valid c.requires.is_room c.requires.enough (let a = c.need-pages.ensures.need in let b = c.if-pages-eq0.false in omega (arith, a, b)) c.requires.spare
    (ap (λ (b : Block). b.start / 4096) c.place-block.ensures.block) c.place-block.ensures.free
    (c.place-block.ensures.frames_agree.count ∙ c.place-block.ensures.same_frames ∙ sym agree.count) few c.fill_block.ensures.room)

pub returns-clause-plan : goal.returns-clause-plan
returns-clause-plan c shadows =
    plan_some shadows c.args.size c.args.tables.now c.map_shadows.new.tables c.args.heap.now c.place-block.new.self c.args.room c.place-block.result c.args.frames.now c.place-block.new.frames c.map_shadows.new.frames c.args.jobs.now.pushed c.fill_block.new.jobs.pushed c.map_shadows.new.jobs.pushed
    c.place-block.ensures.block c.place-block.ensures.heap c.place-block.ensures.free c.fill_block.ensures.pushed (let a = c.need-pages.ensures.need in let b = c.if-pages-eq0.false in omega (arith, a, b)) c.map_shadows.ensures.next

pub returns-clause-held : goal.returns-clause-held
returns-clause-held c b e = rw c.place-block.ensures.heap (still_held c.args.heap.now c.args.room c.args.frames.now b e)

pub returns-clause-mapped : goal.returns-clause-mapped
returns-clause-mapped c page e = still_mapped (block_mappings c.place-block.new.self.pages c.place-block.result) (c.place-block.result.start / 4096) page
    (changed c.args.tables.now c.place-block.new.frames c.fill_block.new.jobs.pushed) (changed c.map_shadows.new.tables c.map_shadows.new.frames c.map_shadows.new.jobs.pushed) c.map_shadows.ensures.next e

pub returns-clause-few : goal.returns-clause-few
returns-clause-few c =
    let x = fills c.args.tables.now c.args.heap.now c.args.frames.now c.args.room c.place-block.result c.requires.agree c.need-pages.ensures.valid c.requires.is_room c.requires.enough c.place-block.ensures.block in
    let has = enough c.args.tables.now c.args.heap.now c.args.frames.now c.args.room c.requires.enough in
    let some = c.if-pages-eq0.false in
    let needs = c.need-pages.ensures.need in
    let whole = need_whole c.args.heap.now c.args.room (omega (arith, some, needs)) in
    let same = ap shadow_pages x.room_is in
    let most = free_count-le c.args.frames.now in
    let left = free_count-le c.place-block.new.frames in
    let agree = frames_agree c.args.tables.now c.args.heap.now c.args.frames.now c.requires.agree in
    let count = c.place-block.ensures.frames_agree.count ∙ c.place-block.ensures.same_frames ∙ sym agree.count in
    let jobs = few_jobs (changed c.args.tables.now c.place-block.new.frames c.fill_block.new.jobs.pushed) (changed c.map_shadows.new.tables c.map_shadows.new.frames c.map_shadows.new.jobs.pushed) c.place-block.new.self.pages (c.place-block.result.start / 4096) (shadow_pages c.place-block.result.room) (c.place-block.result.start / 4096) c.map_shadows.ensures.next in
    let a = x.pieces_few in
    let b = c.fill_block.ensures.few in
    omega (arith, a, b, jobs, whole, same, most, left, count, has)
