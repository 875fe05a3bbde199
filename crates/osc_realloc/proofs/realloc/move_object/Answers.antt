-- The parts agree and there is enough, so the block can be taken, its words put and its pages mapped.
use Rattle.std.proofs.Common.{◌+◌, ◌*◌, ◌%◌, ◌^◌, ◌≡◌, ◌<◌, ◌≤◌, ◌++◌, ◌∷◌, [], ◌∙◌, min, arith, refl, ap, sym, subst}
use Rattle.osc_class.specs.declared.Room.{Room}
use Rattle.osc_class.specs.Rooms.{IsRoom, block_bytes, room_of, shadow_pages}
use Rattle.osc_slot.specs.Heap.{free_count}
use Rattle.osc_slot.proofs.Backing.{free_count-le}
use Rattle.osc_mark.specs.Grants.{left}
use Rattle.osc_space.specs.BlockWords.{whole_end}
use Rattle.osc_space.specs.Objects.{facts}
use Rattle.osc_space.specs.Realloc.{bytes_jobs}
use Rattle.std.specs.List.{range_with_len}
use Rattle.osc_shadow.specs.Mapping.{CanMap}
use Rattle.osc_shadow.specs.Parts.{space_of, draft_of}
use Rattle.osc_shadow.specs.Pieces.{pieces}
use Rattle.osc_shadow.specs.Sight.{seen_of}
use Rattle.osc_shadow.proofs.Agreed.{agreed}
use Rattle.osc_shadow.proofs.Granted.{few_pieces}
use Rattle.osc_realloc.specs.Blocks.{newly_taken, placed}
use Rattle.osc_realloc.specs.Outcomes.{terms}
use Rattle.osc_realloc.proofs.Rooms.{canon_least, bytes_most, few_whole, some_pages}
use Rattle.osc_realloc.proofs.Fits.{block_eq, block_room, is_kept, low_bytes, has_room, can_map_in, can_map_moved}
use Rattle.osc_realloc.proofs.Moved.{block_is, bytes_is, draft_is, moved_is}
use Rattle.osc_realloc.proofs.realloc.move_object.Goals as goal

pub block_of-old-requires : goal.block_of-old-requires
block_of-old-requires c =
    let held = c.requires.agree.agree.heap.held c.args.seen.number c.args.seen.fact (is_kept (space_of c.args.tables.now c.args.marks.now c.args.heap.now c.args.waiting.now) c.args.seen.number c.args.seen.fact c.requires.is c.requires.live) in
    canon_least c.args.heap.now.frames c.args.heap.now.held c.args.seen.fact c.know_heap.ensures.placed held

pub take_block-block-requires-clause-frames_agree : goal.take_block-block-requires-clause-frames_agree
take_block-block-requires-clause-frames_agree c =
    (agreed (space_of c.args.tables.now c.args.marks.now c.args.heap.now c.args.waiting.now) c.requires.agree.regions c.args.frames.now c.requires.agree.agree).heap

pub take_block-block-requires-clause-enough : goal.take_block-block-requires-clause-enough
take_block-block-requires-clause-enough c =
    let has = has_room c.args.in_place c.args.tables.now c.args.marks.now c.args.heap.now c.args.waiting.now c.args.frames.now c.args.seen.number c.args.n c.args.seen.fact c.requires.agree c.next_page-first.ensures.valid c.requires.in_place c.requires.is c.requires.live c.requires.enough in
    subst (λ (r : Room). newly_taken c.args.in_place c.args.heap.now r ≤ free_count c.args.frames.now) (sym c.room_of.ensures.value) has.enough

pub replace_object-object-requires-clause-agree : goal.replace_object-object-requires-clause-agree
replace_object-object-requires-clause-agree c = record { heap = c.args.heap.now; free = c.args.frames.now; agree = c.requires.agree }

pub replace_object-object-requires-clause-is_room : goal.replace_object-object-requires-clause-is_room
replace_object-object-requires-clause-is_room c =
    let room = block_room c.args.in_place c.args.seen.fact c.args.heap.now c.args.n c.block_of-old.result c.take_block-block.result c.room_of.result c.requires.in_place c.block_of-old.ensures.block c.room_of.ensures.value c.take_block-block.ensures.block in
    subst IsRoom (c.room_of.ensures.value ∙ sym room) c.room_of.ensures.is_room

pub replace_object-object-requires-clause-left : goal.replace_object-object-requires-clause-left
replace_object-object-requires-clause-left c =
    let room = block_room c.args.in_place c.args.seen.fact c.args.heap.now c.args.n c.block_of-old.result c.take_block-block.result c.room_of.result c.requires.in_place c.block_of-old.ensures.block c.room_of.ensures.value c.take_block-block.ensures.block in
    let has = has_room c.args.in_place c.args.tables.now c.args.marks.now c.args.heap.now c.args.waiting.now c.args.frames.now c.args.seen.number c.args.n c.args.seen.fact c.requires.agree c.next_page-first.ensures.valid c.requires.in_place c.requires.is c.requires.live c.requires.enough in
    subst (λ (r : Room). shadow_pages r ≤ left c.args.marks.now) (sym room) has.left

pub replace_object-object-requires-clause-spare : goal.replace_object-object-requires-clause-spare
replace_object-object-requires-clause-spare c =
    let count = c.requires.agree.agree.count in
    let room = c.requires.spare in
    omega arith

pub put_bytes-requires-clause-is_room : goal.put_bytes-requires-clause-is_room
put_bytes-requires-clause-is_room c =
    let room = block_room c.args.in_place c.args.seen.fact c.args.heap.now c.args.n c.block_of-old.result c.take_block-block.result c.room_of.result c.requires.in_place c.block_of-old.ensures.block c.room_of.ensures.value c.take_block-block.ensures.block in
    subst IsRoom (c.room_of.ensures.value ∙ sym room) c.room_of.ensures.is_room

pub put_bytes-requires-clause-block_bytes : goal.put_bytes-requires-clause-block_bytes
put_bytes-requires-clause-block_bytes c =
    let room = block_room c.args.in_place c.args.seen.fact c.args.heap.now c.args.n c.block_of-old.result c.take_block-block.result c.room_of.result c.requires.in_place c.block_of-old.ensures.block c.room_of.ensures.value c.take_block-block.ensures.block in
    let has = has_room c.args.in_place c.args.tables.now c.args.marks.now c.args.heap.now c.args.waiting.now c.args.frames.now c.args.seen.number c.args.n c.args.seen.fact c.requires.agree c.next_page-first.ensures.valid c.requires.in_place c.requires.is c.requires.live c.requires.enough in
    let is_room : IsRoom (room_of c.args.n) = subst IsRoom c.room_of.ensures.value c.room_of.ensures.is_room in
    let most = bytes_most (room_of c.args.n) is_room in
    let low = has.low in
    let small : block_bytes (room_of c.args.n) < 2 ^ 40 = omega arith in
    subst (λ (r : Room). block_bytes r < 2 ^ 40) (sym room) small

pub put_bytes-requires-clause-bytes : goal.put_bytes-requires-clause-bytes
put_bytes-requires-clause-bytes c =
    let has = has_room c.args.in_place c.args.tables.now c.args.marks.now c.args.heap.now c.args.waiting.now c.args.frames.now c.args.seen.number c.args.n c.args.seen.fact c.requires.agree c.next_page-first.ensures.valid c.requires.in_place c.requires.is c.requires.live c.requires.enough in
    let is_room : IsRoom (room_of c.args.n) = subst IsRoom c.room_of.ensures.value c.room_of.ensures.is_room in
    subst (λ b. b < 2 ^ 39) (sym c.common_bytes-bytes.ensures) (low_bytes c.args.seen.fact.size c.args.n is_room has.low)

pub put_bytes-requires-clause-spare : goal.put_bytes-requires-clause-spare
put_bytes-requires-clause-spare c =
    let a = c.requires.agree.agree in
    let room = block_room c.args.in_place c.args.seen.fact c.args.heap.now c.args.n c.block_of-old.result c.take_block-block.result c.room_of.result c.requires.in_place c.block_of-old.ensures.block c.room_of.ensures.value c.take_block-block.ensures.block in
    let has = has_room c.args.in_place c.args.tables.now c.args.marks.now c.args.heap.now c.args.waiting.now c.args.frames.now c.args.seen.number c.args.n c.args.seen.fact c.requires.agree c.next_page-first.ensures.valid c.requires.in_place c.requires.is c.requires.live c.requires.enough in
    let is_room : IsRoom (room_of c.args.n) = subst IsRoom c.room_of.ensures.value c.room_of.ensures.is_room in
    let tables = (agreed (space_of c.args.tables.now c.args.marks.now c.args.heap.now c.args.waiting.now) c.requires.agree.regions c.args.frames.now a).tables in
    let frames = a.frames in
    let small = a.heap.small c.args.seen.number c.args.seen.fact (c.requires.is, c.requires.live) in
    let few = has.few in
    let first = few_pieces (room_of c.args.n) is_room in
    let second = few_whole c.args.seen.fact.size c.args.n is_room in
    let pushed = c.replace_object-object.ensures.few in
    let same = c.replace_object-object.ensures.room in
    let spares = c.requires.spare in
    let harts = c.requires.harts in
    let block : pieces (block_bytes c.take_block-block.result.room) ≡ pieces (block_bytes (room_of c.args.n)) = ap (λ (r : Room). pieces (block_bytes r)) room in
    let whole : pieces (whole_end c.common_bytes-bytes.result) ≡ pieces (whole_end (min c.args.seen.fact.size c.args.n)) = ap (λ b. pieces (whole_end b)) c.common_bytes-bytes.ensures in
    omega arith

pub map_shadows-requires-clause-is_room : goal.map_shadows-requires-clause-is_room
map_shadows-requires-clause-is_room c =
    let room = block_room c.args.in_place c.args.seen.fact c.args.heap.now c.args.n c.block_of-old.result c.take_block-block.result c.room_of.result c.requires.in_place c.block_of-old.ensures.block c.room_of.ensures.value c.take_block-block.ensures.block in
    subst IsRoom (c.room_of.ensures.value ∙ sym room) c.room_of.ensures.is_room

pub map_shadows-requires-clause-can : goal.map_shadows-requires-clause-can
map_shadows-requires-clause-can c =
    let a = c.requires.agree.agree in
    let room = block_room c.args.in_place c.args.seen.fact c.args.heap.now c.args.n c.block_of-old.result c.take_block-block.result c.room_of.result c.requires.in_place c.block_of-old.ensures.block c.room_of.ensures.value c.take_block-block.ensures.block in
    let has = has_room c.args.in_place c.args.tables.now c.args.marks.now c.args.heap.now c.args.waiting.now c.args.frames.now c.args.seen.number c.args.n c.args.seen.fact c.requires.agree c.next_page-first.ensures.valid c.requires.in_place c.requires.is c.requires.live c.requires.enough in
    let is_room : IsRoom (room_of c.args.n) = subst IsRoom c.room_of.ensures.value c.room_of.ensures.is_room in
    let now_is = c.take_block-block.ensures.free ∙ ap (λ (r : Room). (placed c.args.in_place c.args.heap.now r c.args.frames.now).free) c.room_of.ensures.value in
    let before : CanMap c.args.tables.now c.take_block-block.new.frames c.args.jobs.now c.next_page-first.result (shadow_pages (room_of c.args.n)) =
    can_map_in c.args.in_place c.args.tables.now c.args.marks.now c.args.heap.now c.args.waiting.now c.args.frames.now c.take_block-block.new.frames c.args.jobs.now (room_of c.args.n) c.next_page-first.result
    c.requires.agree c.know_tables.ensures c.next_page-first.ensures.valid is_room c.requires.enough has.few c.requires.spare c.next_page-first.ensures.page now_is c.take_block-block.ensures.count in
    let can : CanMap c.args.tables.now c.take_block-block.new.frames c.args.jobs.now c.next_page-first.result (shadow_pages c.take_block-block.result.room) =
    subst (λ (r : Room). CanMap c.args.tables.now c.take_block-block.new.frames c.args.jobs.now c.next_page-first.result (shadow_pages r)) (sym room) before in
    let tables = (agreed (space_of c.args.tables.now c.args.marks.now c.args.heap.now c.args.waiting.now) c.requires.agree.regions c.args.frames.now a).tables in
    let frames = a.frames in
    let small = a.heap.small c.args.seen.number c.args.seen.fact (c.requires.is, c.requires.live) in
    let few = has.few in
    let first = few_pieces (room_of c.args.n) is_room in
    let second = few_whole c.args.seen.fact.size c.args.n is_room in
    let pushed = c.replace_object-object.ensures.few in
    let same = c.replace_object-object.ensures.room in
    let put = c.put_bytes.ensures.few in
    let kept = c.put_bytes.ensures.room in
    let spares = c.requires.spare in
    let harts = c.requires.harts in
    let free_le = free_count-le c.take_block-block.new.frames in
    let count = c.take_block-block.ensures.count in
    let some_here = some_pages (room_of c.args.n) is_room in
    let pages : shadow_pages c.take_block-block.result.room ≡ shadow_pages (room_of c.args.n) = ap shadow_pages room in
    let block : pieces (block_bytes c.take_block-block.result.room) ≡ pieces (block_bytes (room_of c.args.n)) = ap (λ (r : Room). pieces (block_bytes r)) room in
    let whole : pieces (whole_end c.common_bytes-bytes.result) ≡ pieces (whole_end (min c.args.seen.fact.size c.args.n)) = ap (λ b. pieces (whole_end b)) c.common_bytes-bytes.ensures in
    can_map_moved c.args.tables.now c.replace_object-object.new.tables c.args.marks.now c.replace_object-object.new.marks c.take_block-block.new.frames c.args.jobs.now c.put_bytes.new.jobs c.replace_object-object.new.jobs.pushed
    (range_with_len c.args.seen.fact.first c.args.seen.fact.pages) c.args.harts c.args.seen.number c.args.call c.next_page-first.result c.args.n (c.take_block-block.result.start + 16) (shadow_pages c.take_block-block.result.room)
    (facts c.replace_object-object.new.marks.objects (c.args.waiting.now ++ c.args.seen.number ∷ []))
    can (omega arith) c.requires.within c.next_page-first.ensures.page c.replace_object-object.ensures.grants c.replace_object-object.ensures.next (omega arith)

pub returns-clause-plan : goal.returns-clause-plan
returns-clause-plan c batch =
    let block = block_eq c.args.in_place c.args.seen.fact c.args.heap.now c.args.n c.block_of-old.result c.take_block-block.result c.room_of.result c.block_of-old.ensures.block c.room_of.ensures.value c.take_block-block.ensures.block in
    let bytes = bytes_is c.args.in_place c.take_block-block.new.heap.pages c.args.seen.fact c.block_of-old.result c.take_block-block.result c.args.n c.common_bytes-bytes.result c.block_of-old.ensures.block c.common_bytes-bytes.ensures in
    let heap_is = c.take_block-block.ensures.heap ∙ ap (λ (r : Room). (placed c.args.in_place c.args.heap.now r c.args.frames.now).heap) c.room_of.ensures.value in
    let now_is = c.take_block-block.ensures.free ∙ ap (λ (r : Room). (placed c.args.in_place c.args.heap.now r c.args.frames.now).free) c.room_of.ensures.value in
    let draft = draft_is (terms c.args.harts c.args.call batch) (seen_of c.args.seen) c.args.in_place c.args.n c.take_block-block.result c.args.tables.now c.replace_object-object.new.tables c.map_shadows.new.tables c.args.marks.now c.replace_object-object.new.marks
    c.args.heap.now c.take_block-block.new.heap c.args.waiting.now c.args.frames.now c.take_block-block.new.frames c.map_shadows.new.frames c.args.jobs.now.pushed c.replace_object-object.new.jobs.pushed c.put_bytes.new.jobs.pushed c.map_shadows.new.jobs.pushed
    (bytes_jobs c.args.in_place c.take_block-block.new.heap.pages c.args.seen.fact c.take_block-block.result c.args.n) c.next_page-first.result
    c.requires.is heap_is now_is c.replace_object-object.ensures.grants c.replace_object-object.ensures.next
    (c.put_bytes.ensures.pushed ∙ ap (λ b. c.replace_object-object.new.jobs.pushed ++ b) bytes) refl c.next_page-first.ensures.page c.map_shadows.ensures.next in
    moved_is (terms c.args.harts c.args.call batch) (seen_of c.args.seen) c.args.in_place c.args.n c.take_block-block.result
    (draft_of c.args.tables.now c.args.marks.now c.args.heap.now c.args.waiting.now c.args.frames.now c.args.jobs.now.pushed)
    (draft_of c.map_shadows.new.tables c.replace_object-object.new.marks c.take_block-block.new.heap c.args.waiting.now c.map_shadows.new.frames c.map_shadows.new.jobs.pushed)
    c.replace_object-object.result (c.next_page-first.result * 4096 + (c.take_block-block.result.start + 16) % 4096) c.next_page-first.result
    c.requires.in_place c.requires.is
    (block ∙ block_is c.args.in_place c.args.seen.fact c.args.n c.args.tables.now c.args.marks.now c.args.heap.now c.args.waiting.now c.args.frames.now c.args.jobs.now.pushed)
    c.replace_object-object.ensures.number c.next_page-first.ensures.page refl draft
