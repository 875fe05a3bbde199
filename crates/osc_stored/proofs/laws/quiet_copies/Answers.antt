-- The law, proved of the definitions.
use Rattle.osc_stored.proofs.Copying.{quiet_copies}
use Rattle.osc_stored.proofs.laws.quiet_copies.Goals as goal

pub returns : goal.returns
returns c = quiet_copies
