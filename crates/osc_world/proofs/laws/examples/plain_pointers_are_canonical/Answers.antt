-- The laws are the lemmas.
use Rattle.osc_world.proofs.PlainExamples.{first-pointer, second-pointer}
use Rattle.osc_world.proofs.laws.examples.plain_pointers_are_canonical.Goals as goal

pub returns-clause-first : goal.returns-clause-first
returns-clause-first c = first-pointer

pub returns-clause-second : goal.returns-clause-second
returns-clause-second c = second-pointer
