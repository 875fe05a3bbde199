-- The law, proved of the definitions.
use Rattle.osc_parts.proofs.Others.{plans_keep_others}
use Rattle.osc_parts.proofs.laws.others_fit.Goals as goal

pub returns : goal.returns
returns c = plans_keep_others
