-- No frame is given before its turn, and the whole is the definition's.
use Rattle.std.proofs.Common.{◌≡◌, ◌∙◌, List, true, refl, ap, sym, subst}
use Rattle.osc_slot.specs.Heap.{FramesAgree, give_back}
use Rattle.osc_paging.specs.TableChanges.{frames_given}
use Rattle.osc_tables.specs.Calls.{HasTaken}
use Rattle.osc_space.specs.Fork.{image_frames, set_free}
use Rattle.osc_space.specs.Share.{RegionsAndFree, let_regions_go, shared_frames}
use Rattle.osc_space.specs.Finish.{ended}
use Rattle.osc_shadow.specs.Parts.{space_of}
use Rattle.osc_share.specs.Holding.{regions_and_free}
use Rattle.osc_fork.specs.Names.{frames_between}
use Rattle.osc_fork.proofs.Known.{images_are}
use Rattle.osc_calls.specs.Kernel.{Process}
use Rattle.osc_process.specs.Returns.{CanEnd, CanGive, over}
use Rattle.osc_process.proofs.Ends.{are_different, shared_apart, leave_held, leave_taken, clear_agrees, images_give, close_taken, left_is, ended_regions, ended_free, ended_process}
use Rattle.osc_process.proofs.rooms.Process.end.Goals as goal

pub leave-requires-clause-different : goal.leave-requires-clause-different
leave-requires-clause-different c =
    let s = space_of c.self.inside.space.tables c.self.inside.space.marks c.self.inside.space.heap c.self.inside.waiting in
    let can : CanEnd c.args.regions.now s c.args.frames.now = subst (λ (p : Process). CanEnd c.args.regions.now p.space c.args.frames.now) (sym c.self.view_is) c.requires.can in
    are_different (shared_frames s.tables) (shared_apart c.args.regions.now s c.args.frames.now can)

pub leave-requires-clause-held : goal.leave-requires-clause-held
leave-requires-clause-held c =
    let s = space_of c.self.inside.space.tables c.self.inside.space.marks c.self.inside.space.heap c.self.inside.waiting in
    let can : CanEnd c.args.regions.now s c.args.frames.now = subst (λ (p : Process). CanEnd c.args.regions.now p.space c.args.frames.now) (sym c.self.view_is) c.requires.can in
    leave_held c.args.regions.now s c.args.frames.now can

pub leave-requires-clause-taken : goal.leave-requires-clause-taken
leave-requires-clause-taken c =
    let s = space_of c.self.inside.space.tables c.self.inside.space.marks c.self.inside.space.heap c.self.inside.waiting in
    let can : CanEnd c.args.regions.now s c.args.frames.now = subst (λ (p : Process). CanEnd c.args.regions.now p.space c.args.frames.now) (sym c.self.view_is) c.requires.can in
    leave_taken c.args.regions.now s c.args.frames.now can

pub clear-requires : goal.clear-requires
clear-requires c =
    let s = space_of c.self.inside.space.tables c.self.inside.space.marks c.self.inside.space.heap c.self.inside.waiting in
    let can : CanEnd c.args.regions.now s c.args.frames.now = subst (λ (p : Process). CanEnd c.args.regions.now p.space c.args.frames.now) (sym c.self.view_is) c.requires.can in
    let left = c.leave.ensures ∙ left_is s.tables (regions_and_free c.args.regions.now c.args.frames.now) in
    subst (λ (r : RegionsAndFree). FramesAgree s.heap r.free) (sym left) (clear_agrees c.args.regions.now s c.args.frames.now can)

pub give_images-requires : goal.give_images-requires
give_images-requires c =
    let s = space_of c.self.inside.space.tables c.self.inside.space.marks c.self.inside.space.heap c.self.inside.waiting in
    let can : CanEnd c.args.regions.now s c.args.frames.now = subst (λ (p : Process). CanEnd c.args.regions.now p.space c.args.frames.now) (sym c.self.view_is) c.requires.can in
    let left = c.leave.ensures ∙ left_is s.tables (regions_and_free c.args.regions.now c.args.frames.now) in
    let cleared = c.clear.ensures.free ∙ ap (λ (r : RegionsAndFree). give_back s.heap.pages r.free) left in
    let give = subst (λ xs. CanGive xs (give_back s.heap.pages (let_regions_go (shared_frames s.tables) (regions_and_free c.args.regions.now c.args.frames.now)).free)) (sym (images_are s can.fit.agrees.ranges)) (images_give c.args.regions.now s c.args.frames.now can) in
    subst (λ free. CanGive (frames_between 0 2097152 s.tables) free) (sym cleared) give

pub close-requires-clause-taken : goal.close-requires-clause-taken
close-requires-clause-taken c =
    let s = space_of c.self.inside.space.tables c.self.inside.space.marks c.self.inside.space.heap c.self.inside.waiting in
    let can : CanEnd c.args.regions.now s c.args.frames.now = subst (λ (p : Process). CanEnd c.args.regions.now p.space c.args.frames.now) (sym c.self.view_is) c.requires.can in
    let left = c.leave.ensures ∙ left_is s.tables (regions_and_free c.args.regions.now c.args.frames.now) in
    let cleared = c.clear.ensures.free ∙ ap (λ (r : RegionsAndFree). give_back s.heap.pages r.free) left in
    let given = c.give_images.ensures ∙ (ap (λ xs. set_free true xs c.clear.new.frames) (images_are s can.fit.agrees.ranges) ∙ ap (λ free. set_free true (image_frames s.tables) free) cleared) in
    subst (λ free. HasTaken s.tables free) (sym given) (close_taken c.args.regions.now s c.args.frames.now can)

pub returns-clause-process : goal.returns-clause-process
returns-clause-process c =
    let i = c.self.inside in
    ended_process c.args.regions.now c.args.frames.now i.space.tables c.close.new.self i.space.marks i.space.heap c.clear.new.self i.waiting c.clear-2.new.self i.inherited i.parent i.status c.args.status
    c.close.ensures.closed c.clear.ensures.heap c.clear-2.ensures
    ∙ ap (λ (p : Process). over c.args.status (ended c.args.regions.now p.space c.args.frames.now).space p) c.self.view_is

pub returns-clause-regions : goal.returns-clause-regions
returns-clause-regions c =
    let s = space_of c.self.inside.space.tables c.self.inside.space.marks c.self.inside.space.heap c.self.inside.waiting in
    let left = c.leave.ensures ∙ left_is s.tables (regions_and_free c.args.regions.now c.args.frames.now) in
    ap (λ (r : RegionsAndFree). r.regions) left
    ∙ (ended_regions c.args.regions.now s c.args.frames.now ∙ ap (λ (p : Process). (ended c.args.regions.now p.space c.args.frames.now).regions) c.self.view_is)

pub returns-clause-free : goal.returns-clause-free
returns-clause-free c =
    let s = space_of c.self.inside.space.tables c.self.inside.space.marks c.self.inside.space.heap c.self.inside.waiting in
    let can : CanEnd c.args.regions.now s c.args.frames.now = subst (λ (p : Process). CanEnd c.args.regions.now p.space c.args.frames.now) (sym c.self.view_is) c.requires.can in
    let left = c.leave.ensures ∙ left_is s.tables (regions_and_free c.args.regions.now c.args.frames.now) in
    let cleared = c.clear.ensures.free ∙ ap (λ (r : RegionsAndFree). give_back s.heap.pages r.free) left in
    let given = c.give_images.ensures ∙ (ap (λ xs. set_free true xs c.clear.new.frames) (images_are s can.fit.agrees.ranges) ∙ ap (λ free. set_free true (image_frames s.tables) free) cleared) in
    c.close.ensures.given ∙ (ap (frames_given s.tables.tables) given
    ∙ (ended_free c.args.regions.now s c.args.frames.now can.fit.agrees.aside ∙ ap (λ (p : Process). (ended c.args.regions.now p.space c.args.frames.now).free) c.self.view_is))
