-- The law, proved of the definitions.
use Rattle.osc_machine.proofs.GivingLaws.{giving_looks_away}
use Rattle.osc_machine.proofs.laws.giving_looks_away.Goals as goal

pub returns : goal.returns
returns c = giving_looks_away
