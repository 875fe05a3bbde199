-- The law, proved of the definitions.
use Rattle.osc_relying.proofs.Shelters.{relying_shelters}
use Rattle.osc_relying.proofs.laws.relying_shelters.Goals as goal

pub returns : goal.returns
returns c = relying_shelters
