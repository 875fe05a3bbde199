-- The machine keeps its frames.
use Rattle.std.proofs.Common.{◌∙◌}
use Rattle.osc_share.proofs.Holds.{length_join}
use Rattle.osc_share.proofs.tests.join_on.Goals as goal

pub returns : goal.returns
returns g c = rw c.join.ensures (length_join c.args.child.now c.args.regions.now ∙ c.requires)
