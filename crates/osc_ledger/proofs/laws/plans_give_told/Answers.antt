-- The law, proved of the definitions.
use Rattle.osc_ledger.proofs.Addresses.{plans_give_told}
use Rattle.osc_ledger.proofs.laws.plans_give_told.Goals as goal

pub returns : goal.returns
returns c = plans_give_told
