-- The law, proved of the definitions.
use Rattle.osc_settled.proofs.Returning.{finish_keeps}
use Rattle.osc_settled.proofs.laws.finish_keeps.Goals as goal

pub returns : goal.returns
returns c = finish_keeps
