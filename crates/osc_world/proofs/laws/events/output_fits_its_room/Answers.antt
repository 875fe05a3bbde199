-- The laws are the lemmas.
use Rattle.osc_world.proofs.Output.{output-fits, run-fits}
use Rattle.osc_world.proofs.laws.events.output_fits_its_room.Goals as goal

pub returns-clause-event : goal.returns-clause-event
returns-clause-event c = output-fits

pub returns-clause-run : goal.returns-clause-run
returns-clause-run c = run-fits
