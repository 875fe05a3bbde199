-- The old block is still held, its pages are still mapped, and there is room for the jobs.
use Rattle.std.proofs.Common.{arith}
use Rattle.osc_plain.proofs.Lying.{held_mapped, held_bytes, held_room, copies_few}
use Rattle.osc_plain.proofs.Plans.{moves}
use Rattle.osc_plain.proofs.blocks.move_block.Goals as goal

pub copy_bytes-requires-clause-bytes : goal.copy_bytes-requires-clause-bytes
copy_bytes-requires-clause-bytes c =
    let frames = c.requires.agree.agrees.frames in
    let few = c.requires.agree.few in
    let a = held_bytes c.args.heap.now c.args.old c.requires.valid c.requires.held (held_room c.args.heap.now c.args.old c.requires.valid c.requires.held) (omega (arith, frames, few)) in
    let b = c.requires.kept in
    omega (arith, a, b)

pub copy_bytes-requires-clause-spare : goal.copy_bytes-requires-clause-spare
copy_bytes-requires-clause-spare c =
    let frames = c.requires.agree.agrees.frames in
    let a = copies_few c.args.heap.now c.args.old c.args.kept c.requires.valid c.requires.held c.requires.kept in
    let b = c.give_block-block.ensures.few in
    let d = c.give_block-block.ensures.room in
    let e = c.requires.spare in
    omega (arith, frames, a, b, d, e)

pub let_go-requires-clause-held : goal.let_go-requires-clause-held
let_go-requires-clause-held c = c.give_block-block.ensures.held c.args.old c.requires.held

pub let_go-requires-clause-few : goal.let_go-requires-clause-few
let_go-requires-clause-few c =
    let frames = c.requires.agree.agrees.frames in
    let few = c.requires.agree.few in
    let same = c.give_block-block.ensures.same_frames in
    omega (arith, frames, few, same)

pub let_go-requires-clause-mapped : goal.let_go-requires-clause-mapped
let_go-requires-clause-mapped c page on = c.give_block-block.ensures.mapped page (held_mapped c.args.tables.now c.args.heap.now c.args.frames.now c.args.old c.requires.agree c.requires.valid c.requires.held page on)

pub let_go-requires-clause-spare : goal.let_go-requires-clause-spare
let_go-requires-clause-spare c =
    let frames = c.requires.agree.agrees.frames in
    let same = c.give_block-block.ensures.same_frames in
    let harts = c.requires.harts in
    let a = copies_few c.args.heap.now c.args.old c.args.kept c.requires.valid c.requires.held c.requires.kept in
    let b = c.give_block-block.ensures.few in
    let d = c.give_block-block.ensures.room in
    let e = c.requires.spare in
    let f = c.copy_bytes.ensures.few in
    let g = c.copy_bytes.ensures.room in
    omega (arith, frames, same, harts, a, b, d, e, f, g)

pub returns-clause-plan : goal.returns-clause-plan
returns-clause-plan c shadows =
    moves shadows c.args.harts c.args.kept c.args.old c.give_block-block.result _ c.give_block-block.new.tables c.let_go.new.tables c.give_block-block.new.heap c.give_block-block.new.frames c.give_block-block.new.jobs.pushed c.copy_bytes.new.jobs.pushed c.let_go.new.jobs.pushed _
    c.give_block-block.ensures.block (c.give_block-block.ensures.plan shadows) c.copy_bytes.ensures.pushed (c.let_go.ensures.plan shadows c.give_block-block.new.frames)
