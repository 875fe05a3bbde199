-- The law, proved of the definitions.
use Rattle.osc_space.proofs.ObjectLawProofs.{looks_find_objects}
use Rattle.osc_space.proofs.laws.looks_find_objects.Goals as goal

pub returns : goal.returns
returns c = looks_find_objects
