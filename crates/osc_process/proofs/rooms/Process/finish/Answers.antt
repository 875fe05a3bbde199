-- The blocks are those of the closing, and no table's frame is given back before its turn.
use Rattle.std.proofs.Common.{◌≡◌, ◌∙◌, List, [], refl, ap, sym, subst}
use Rattle.osc_word.specs.declared.job_list.Job.{Job}
use Rattle.osc_space.specs.Space.{Draft, GivesBack}
use Rattle.osc_space.specs.Finish.{finished}
use Rattle.osc_shadow.specs.Parts.{space_of, draft_of}
use Rattle.osc_parts.proofs.Settling.{heap_frames}
use Rattle.osc_calls.specs.Kernel.{Process}
use Rattle.osc_process.specs.Parts.{SameSizes, draft_at}
use Rattle.osc_process.specs.Returns.{CanReturn}
use Rattle.osc_process.proofs.Sizes.{finished_sizes}
use Rattle.osc_process.proofs.Releases.{finished_keeps, finish_is, frames_are, small_blocks, taken_after}
use Rattle.osc_process.proofs.rooms.Process.finish.Goals as goal

pub returns-in_default-clause-after : goal.returns-in_default-clause-after
returns-in_default-clause-after c jobs =
    let d = draft_at c.args.self.now c.args.frames.now jobs in
    finished_keeps d ∙ ap (λ k. finished k d) (sym c.in_default.ensures)

pub give_blocks-requires-clause-agree : goal.give_blocks-requires-clause-agree
give_blocks-requires-clause-agree c =
    let s = space_of c.self.inside.space.tables c.self.inside.space.marks c.self.inside.space.heap c.self.inside.waiting in
    let r : CanReturn c.args.closing.now s c.args.frames.now = subst (λ (p : Process). CanReturn c.args.closing.now p.space c.args.frames.now) (sym c.self.view_is) c.requires.returns in
    heap_frames s c.args.frames.now (frames_are c.args.closing.now s c.args.frames.now r) r.frames

pub give_blocks-requires-clause-small : goal.give_blocks-requires-clause-small
give_blocks-requires-clause-small c =
    let s = space_of c.self.inside.space.tables c.self.inside.space.marks c.self.inside.space.heap c.self.inside.waiting in
    let r : CanReturn c.args.closing.now s c.args.frames.now = subst (λ (p : Process). CanReturn c.args.closing.now p.space c.args.frames.now) (sym c.self.view_is) c.requires.returns in
    small_blocks c.args.closing.now c.in-Some.given.now s c.args.frames.now r c.in-Some.ensures c.know_heap.ensures

pub give_leaves-requires : goal.give_leaves-requires
give_leaves-requires c =
    let s = space_of c.self.inside.space.tables c.self.inside.space.marks c.self.inside.space.heap c.self.inside.waiting in
    let r : CanReturn c.args.closing.now s c.args.frames.now = subst (λ (p : Process). CanReturn c.args.closing.now p.space c.args.frames.now) (sym c.self.view_is) c.requires.returns in
    record { taken = taken_after c.args.closing.now c.in-Some.given.now s c.args.frames.now c.give_blocks.new.frames c.give_blocks.new.heap r c.give_blocks.ensures.after }

pub returns-clause-after : goal.returns-clause-after
returns-clause-after c jobs =
    let i = c.self.inside in
    let d = draft_of i.space.tables i.space.marks i.space.heap i.waiting c.args.frames.now jobs in
    let is = finish_is i.space.tables c.give_leaves.new.self i.space.marks i.space.heap c.give_blocks.new.heap i.waiting c.clear.new.self
    c.args.frames.now c.give_blocks.new.frames c.give_leaves.new.frames c.in-Some.given.now jobs c.give_blocks.ensures.after c.clear.ensures (c.give_leaves.ensures.next jobs) in
    is ∙ (ap (λ k. finished k d) (sym c.in-Some.ensures) ∙ ap (λ (p : Process). finished c.args.closing.now (draft_at p c.args.frames.now jobs)) c.self.view_is)

pub returns-clause-sizes : goal.returns-clause-sizes
returns-clause-sizes c =
    subst (λ (d : Draft). SameSizes c.args.self.now.space d.space) (sym (returns-clause-after c [])) (finished_sizes c.args.closing.now (draft_at c.args.self.now c.args.frames.now []))
