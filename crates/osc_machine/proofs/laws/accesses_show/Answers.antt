-- The law, proved of the definitions.
use Rattle.osc_machine.proofs.AccessLaws.{accesses_show}
use Rattle.osc_machine.proofs.laws.accesses_show.Goals as goal

pub returns : goal.returns
returns c = accesses_show
