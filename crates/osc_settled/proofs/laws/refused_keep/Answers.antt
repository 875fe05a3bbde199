-- The law, proved of the definitions.
use Rattle.osc_settled.proofs.Following.{refused_keep}
use Rattle.osc_settled.proofs.laws.refused_keep.Goals as goal

pub returns : goal.returns
returns c = refused_keep
