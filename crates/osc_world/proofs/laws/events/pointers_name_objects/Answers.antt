-- The laws are the lemmas.
use Rattle.osc_world.proofs.KnownRuns.{boot-knows, event-knows, run-knows}
use Rattle.osc_world.proofs.laws.events.pointers_name_objects.Goals as goal

pub returns-clause-boot : goal.returns-clause-boot
returns-clause-boot c = boot-knows

pub returns-clause-event : goal.returns-clause-event
returns-clause-event c = event-knows

pub returns-clause-run : goal.returns-clause-run
returns-clause-run c = run-knows
