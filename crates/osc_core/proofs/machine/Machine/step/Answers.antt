-- A sound machine is ready, and sound after the step.
use Rattle.std.proofs.Common.{sym, ◌∙◌, ap, subst}
use Rattle.osc_core.specs.Shared.{Seen, state_of}
use Rattle.osc_core.specs.Sound.{Sound}
use Rattle.osc_machine.specs.Turns.{hart_ask}
use Rattle.osc_core.proofs.Freeing.{home_freed}
use Rattle.osc_core.proofs.Told.{tells-after-step}
use Rattle.osc_core.proofs.machine.Machine.step.Goals as goal

pub step_ready-requires-clause-ready : goal.step_ready-requires-clause-ready
step_ready-requires-clause-ready c h here =
    c.steps_keep.ensures.ready c.args.hart c.args.self.now c.args.harts.now h c.requires.sound here

pub returns-clause-sound : goal.returns-clause-sound
returns-clause-sound c =
    subst Sound (sym (ap (λ (s : Seen). s.state) c.step_ready.ensures.step))
    (c.steps_keep.ensures.steps (state_of c.args.self.now c.args.harts.now) c.args.hart c.requires.sound)

pub returns-clause-freed : goal.returns-clause-freed
returns-clause-freed c h here =
    c.steps_free.ensures (state_of c.args.self.now c.args.harts.now) c.args.hart h c.requires.sound here
    ∙ home_freed (hart_ask h) h.kernel c.step_ready.new.self.kernel (c.step_ready.ensures.freed h here)

pub returns-clause-journal : goal.returns-clause-journal
returns-clause-journal c config reached =
    tells-after-step config (state_of c.args.self.now c.args.harts.now) _ c.args.hart
    (ap (λ (s : Seen). s.state) c.step_ready.ensures.step) reached
