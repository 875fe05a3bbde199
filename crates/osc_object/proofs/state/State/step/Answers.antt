use Rattle.std.proofs.Common.{◌∙◌}
use Rattle.osc_object.specs.Turns.{step_shown}
use Rattle.osc_object.proofs.Applies.{stepped-is}
use Rattle.osc_object.proofs.state.State.step.Goals as goal

pub returns : goal.returns
returns c = λ hart process h p. c.change_by_step.ensures ∙ stepped-is c.args.self.now c.args.number c.args.pid hart process h p (step_shown c.args.step)
