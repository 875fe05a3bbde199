-- The laws, proved of the definitions.
use Rattle.osc_settled.proofs.Following.{finish_gives, ends_give}
use Rattle.osc_settled.proofs.laws.finish_gives.Goals as goal

pub returns-clause-call : goal.returns-clause-call
returns-clause-call c = finish_gives

pub returns-clause-end : goal.returns-clause-end
returns-clause-end c = ends_give
