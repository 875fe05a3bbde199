-- A call that returns.
use Rattle.std.proofs.Common.{arith, ap, sym, ◌∙◌}
use Rattle.std.specs.Option.{option_to_list}
use Rattle.osc_calls.specs.Finish.{Finished}
use Rattle.osc_calls.specs.Kernel.{process_at}
use Rattle.osc_kernel.specs.declared.state.State.{State}
use Rattle.osc_kernel.specs.declared.state.UnderWay.{UnderWay as Doing}
use Rattle.osc_kernel.specs.Inside.{kernel_of, under_way_of}
use Rattle.osc_kernel.specs.Returns.{done_of}
use Rattle.osc_kernel.proofs.Returning.{returner, settles, sound_after, returned_kernel, return_is, label_is}
use Rattle.osc_kernel.proofs.Rooms.{rooms_kept, settles_kept}
use Rattle.osc_kernel.proofs.finishing.return_call.Goals as goal

pub settle-requires : goal.settle-requires
settle-requires c = record {
  can = settles_kept c.args.state.now c.answer-resume.new.state _ _ c.args.calling.now.pid c.pid.result c.args.effect.now c.answer-resume.ensures.rest c.pid.ensures
      (settles c.args.state.now c.args.calling.now c.args.given c.args.effect.now c.requires.sound c.requires.returns c.requires.jobs);
}

pub returns-clause-kernel : goal.returns-clause-kernel
returns-clause-kernel c =
    let s = c.args.state.now in
    let r = returner s c.args.calling.now c.args.given c.args.effect.now c.requires.sound c.requires.returns c.requires.jobs in
    returned_kernel s c.answer-resume.new.state c.settle.new.state c.args.calling.now c.args.given c.args.effect.now _ _ r.process c.requires.returns r.at c.answer-resume.ensures.rest
    (c.settle.ensures.kernel r.process (done_of c.args.calling.now c.args.given c.args.effect.now s.closing) (sym c.pid.ensures)
    (sym (ap (λ (x : State). x.closing) c.answer-resume.ensures.rest))
    (ap (λ (x : State). process_at (kernel_of x) c.pid.result) c.answer-resume.ensures.rest ∙ (ap (λ n. process_at (kernel_of s) n) c.pid.ensures ∙ r.at)))

pub returns-clause-resume : goal.returns-clause-resume
returns-clause-resume c =
    let s = c.args.state.now in
    let r = returner s c.args.calling.now c.args.given c.args.effect.now c.requires.sound c.requires.returns c.requires.jobs in
    c.answer-resume.ensures.resume r.process r.at
    ∙ sym (ap (λ (f : Finished). f.resume) (return_is (kernel_of s) (done_of c.args.calling.now c.args.given c.args.effect.now s.closing) r.process (ap (λ (x : Doing). under_way_of x s.closing) c.requires.returns) r.at))

pub returns-clause-freed : goal.returns-clause-freed
returns-clause-freed c =
    let s = c.args.state.now in
    let r = returner s c.args.calling.now c.args.given c.args.effect.now c.requires.sound c.requires.returns c.requires.jobs in
    ap (λ (x : State). x.freed) c.settle.ensures.rest
    ∙ (c.answer-resume.ensures.freed r.process r.at
    ∙ sym (ap (λ (f : Finished). f.freed) (return_is (kernel_of s) (done_of c.args.calling.now c.args.given c.args.effect.now s.closing) r.process (ap (λ (x : Doing). under_way_of x s.closing) c.requires.returns) r.at)))

pub returns-clause-sound : goal.returns-clause-sound
returns-clause-sound c =
    sound_after c.args.state.now _ c.requires.sound c.requires.jobs (returns-clause-kernel c)
    (rooms_kept c.settle.new.state _ _ _ _ _ _ _ _ _ _ 0 _ (omega arith) c.settle.ensures.rooms)
    (ap (λ (x : State). x.jobs) c.settle.ensures.rest ∙ ap (λ (x : State). x.jobs) c.answer-resume.ensures.rest)
    (ap (λ (x : State). x.done) c.settle.ensures.rest ∙ ap (λ (x : State). x.done) c.answer-resume.ensures.rest)
    (ap (λ (x : State). x.pending) c.settle.ensures.rest ∙ ap (λ (x : State). x.pending) c.answer-resume.ensures.rest)

pub returns-clause-shown : goal.returns-clause-shown
returns-clause-shown c =
    let s = c.args.state.now in
    let r = returner s c.args.calling.now c.args.given c.args.effect.now c.requires.sound c.requires.returns c.requires.jobs in
    ap (λ (x : State). option_to_list x.shown) c.settle.ensures.rest
    ∙ (c.answer-resume.ensures.shown r.process r.at
    ∙ sym (label_is (kernel_of s) (done_of c.args.calling.now c.args.given c.args.effect.now s.closing) r.process (ap (λ (x : Doing). under_way_of x s.closing) c.requires.returns) r.at))
