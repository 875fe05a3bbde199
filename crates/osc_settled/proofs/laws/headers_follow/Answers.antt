-- The law, proved of the definitions.
use Rattle.osc_settled.proofs.Headers.{headers_follow}
use Rattle.osc_settled.proofs.laws.headers_follow.Goals as goal

pub returns : goal.returns
returns c = headers_follow
