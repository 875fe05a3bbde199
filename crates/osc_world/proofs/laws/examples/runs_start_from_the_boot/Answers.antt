-- The laws are the lemmas.
use Rattle.osc_world.proofs.OnePage.{from-boot, plain-from-boot}
use Rattle.osc_world.proofs.laws.examples.runs_start_from_the_boot.Goals as goal

pub returns-clause-object : goal.returns-clause-object
returns-clause-object c = from-boot

pub returns-clause-plain : goal.returns-clause-plain
returns-clause-plain c = plain-from-boot
