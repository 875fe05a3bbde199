-- A hart that leaves.
use Rattle.std.proofs.Common.{arith, refl, ap, sym, ◌∙◌, subst}
use Rattle.osc_calls.specs.Finish.{Finished}
use Rattle.osc_kernel.specs.declared.state.UnderWay.{UnderWay as Doing}
use Rattle.osc_kernel.specs.Inside.{kernel_of, under_way_of}
use Rattle.osc_kernel.specs.Sound.{HasRooms, ending_by}
use Rattle.osc_kernel.proofs.Returning.{left_is, sound_after}
use Rattle.osc_kernel.proofs.Rooms.{rooms_kept}
use Rattle.osc_kernel.proofs.finishing.leave.Goals as goal

pub returns-clause-kernel : goal.returns-clause-kernel
returns-clause-kernel c =
    let k = kernel_of c.args.state.now in
    sym (ap (λ (f : Finished). f.kernel) (left_is k c.args.hart c.leave.new.self (ap (λ (x : Doing). under_way_of x c.args.state.now.closing) c.requires.leaves) (c.leave.ensures k refl)))

pub returns-clause-resume : goal.returns-clause-resume
returns-clause-resume c =
    let k = kernel_of c.args.state.now in
    sym (ap (λ (f : Finished). f.resume) (left_is k c.args.hart c.leave.new.self (ap (λ (x : Doing). under_way_of x c.args.state.now.closing) c.requires.leaves) (c.leave.ensures k refl)))

pub returns-clause-freed : goal.returns-clause-freed
returns-clause-freed c =
    let k = kernel_of c.args.state.now in
    c.clear.ensures ∙ sym (ap (λ (f : Finished). f.freed) (left_is k c.args.hart c.leave.new.self (ap (λ (x : Doing). under_way_of x c.args.state.now.closing) c.requires.leaves) (c.leave.ensures k refl)))

pub returns-clause-sound : goal.returns-clause-sound
returns-clause-sound c =
    sound_after c.args.state.now _ c.requires.sound c.requires.jobs (returns-clause-kernel c)
    (rooms_kept c.args.state.now _ _ _ _ _ _ _ _ _ _ 0 _ (omega arith)
    (subst (λ (x : Doing). HasRooms (ending_by (under_way_of x c.args.state.now.closing)) c.args.state.now) c.requires.leaves c.requires.sound.rooms))
    refl refl refl
