-- A hart that asks again.
use Rattle.std.proofs.Common.{arith, refl, ap, sym, ◌∙◌, subst}
use Rattle.osc_calls.specs.Finish.{Finished}
use Rattle.osc_kernel.specs.Sound.{HasRooms}
use Rattle.osc_kernel.proofs.Returning.{gives_up, sound_after}
use Rattle.osc_kernel.proofs.Rooms.{rooms_kept}
use Rattle.osc_kernel.proofs.finishing.give_up.Goals as goal

pub returns-clause-kernel : goal.returns-clause-kernel
returns-clause-kernel c = sym (ap (λ (f : Finished). f.kernel) (gives_up c.args.state.now c.requires.again).finish_is)

pub returns-clause-resume : goal.returns-clause-resume
returns-clause-resume c = sym (ap (λ (f : Finished). f.resume) (gives_up c.args.state.now c.requires.again).finish_is)

pub returns-clause-freed : goal.returns-clause-freed
returns-clause-freed c = c.clear.ensures ∙ sym (ap (λ (f : Finished). f.freed) (gives_up c.args.state.now c.requires.again).finish_is)

pub returns-clause-shown : goal.returns-clause-shown
returns-clause-shown c = sym (gives_up c.args.state.now c.requires.again).shows

pub returns-clause-sound : goal.returns-clause-sound
returns-clause-sound c =
    sound_after c.args.state.now _ c.requires.sound c.requires.jobs (returns-clause-kernel c)
    (rooms_kept c.args.state.now _ _ _ _ _ _ _ _ _ _ 0 _ (omega arith)
    (subst (λ n. HasRooms n c.args.state.now) (gives_up c.args.state.now c.requires.again).ends c.requires.sound.rooms))
    refl refl refl
