-- The law, proved of the definitions.
use Rattle.osc_machine.proofs.CountLaws.{events_counted}
use Rattle.osc_machine.proofs.laws.events_are_counted.Goals as goal

pub returns : goal.returns
returns c = events_counted
