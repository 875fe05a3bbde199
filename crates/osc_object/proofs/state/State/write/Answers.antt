use Rattle.std.proofs.Common.{◌∙◌}
use Rattle.osc_object.proofs.Applies.{written-is}
use Rattle.osc_object.proofs.state.State.write.Goals as goal

pub returns : goal.returns
returns c = λ pid hart process h p. c.in_ok-change_by_output.ensures ∙ written-is c.args.self.now c.args.number pid hart process h p c.args.bytes.now
