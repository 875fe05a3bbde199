use Rattle.std.proofs.Common.{◌∙◌}
use Rattle.osc_object.proofs.Applies.{ended-is}
use Rattle.osc_object.proofs.state.State.exit.Goals as goal

pub returns : goal.returns
returns c = λ number hart process h p. c.change_by_end.ensures ∙ ended-is c.args.self.now number c.args.pid hart process h p c.args.status
