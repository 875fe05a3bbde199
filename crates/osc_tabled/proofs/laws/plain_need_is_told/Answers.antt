-- The law, proved of the definitions.
use Rattle.osc_tabled.proofs.PlainNeeds.{plain_need_is_told}
use Rattle.osc_tabled.proofs.laws.plain_need_is_told.Goals as goal

pub returns : goal.returns
returns c = plain_need_is_told
