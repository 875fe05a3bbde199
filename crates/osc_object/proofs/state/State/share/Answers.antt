use Rattle.std.proofs.Common.{◌∙◌}
use Rattle.osc_object.proofs.Applies.{shared-is}
use Rattle.osc_object.proofs.state.State.share.Goals as goal

pub returns : goal.returns
returns c = λ hart process h p.
    rw c.in_ok-more.ensures at c.in_ok-change_by_share.ensures ∙ shared-is c.args.self.now c.args.number c.args.pid hart process h p c.args.count
