-- The law, proved of the definitions.
use Rattle.osc_relying.proofs.SafeWhere.{safe_where_relying}
use Rattle.osc_relying.proofs.laws.safe_where_relying.Goals as goal

pub returns : goal.returns
returns c = safe_where_relying
