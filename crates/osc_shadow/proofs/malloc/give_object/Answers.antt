-- The parts agree, so the block can be placed and its pages mapped.
use Rattle.std.proofs.Common.{◌≡◌, ◌+◌, ◌≤◌, ◌∙◌, length, subst, sym}
use Rattle.osc_class.specs.Rooms.{block_bytes, shadow_pages}
use Rattle.osc_class.specs.declared.Room.{Room}
use Rattle.osc_shadow.specs.Parts.{space_of}
use Rattle.osc_shadow.specs.Pieces.{pieces}
use Rattle.osc_shadow.specs.Mapping.{CanMap}
use Rattle.osc_shadow.proofs.Agreed.{agreed}
use Rattle.osc_shadow.proofs.Granted.{can_map_block}
use Rattle.osc_shadow.proofs.malloc.give_object.Goals as goal

pub place-block-requires-clause-frames_agree : goal.place-block-requires-clause-frames_agree
place-block-requires-clause-frames_agree c =
    (agreed (space_of c.args.space.now.tables c.args.space.now.marks c.args.space.now.heap c.requires.agree.waiting) c.requires.agree.agree.regions c.args.frames.now c.requires.agree.agree.agree).heap

pub map_shadows-requires-clause-can : goal.map_shadows-requires-clause-can
map_shadows-requires-clause-can c =
    let room : c.place-block.result.room ≡ c.args.room = cc in
    let few : length c.fill_block.new.jobs.pushed ≤ length c.args.jobs.now.pushed + (pieces (block_bytes c.args.room) + 2) =
    subst (λ (r : Room). length c.fill_block.new.jobs.pushed ≤ length c.args.jobs.now.pushed + (pieces (block_bytes r) + 2)) room c.fill_block.ensures.few in
    subst (λ (r : Room). CanMap c.args.space.now.tables c.place-block.new.frames c.fill_block.new.jobs c.next_page-first.result (shadow_pages r)) (sym room)
    (can_map_block c.args.space.now.tables c.args.space.now.marks c.args.space.now.heap c.requires.agree.waiting c.args.frames.now c.place-block.new.frames c.args.jobs.now c.fill_block.new.jobs c.args.room c.next_page-first.result
    c.requires.agree.agree c.know_tables.ensures c.next_page-first.ensures.valid c.requires.is_room c.requires.enough c.requires.spare c.next_page-first.ensures.page
    c.place-block.ensures.free (c.place-block.ensures.frames_agree.count ∙ c.place-block.ensures.same_frames) few c.fill_block.ensures.room)
