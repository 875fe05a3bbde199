-- The laws are the lemmas.
use Rattle.osc_world.proofs.Growth.{harts-after, processes-after, threads-after, shared-after, objects-after}
use Rattle.osc_world.proofs.laws.events.worlds_only_grow.Goals as goal

pub returns-clause-harts : goal.returns-clause-harts
returns-clause-harts c = harts-after

pub returns-clause-processes : goal.returns-clause-processes
returns-clause-processes c = processes-after

pub returns-clause-threads : goal.returns-clause-threads
returns-clause-threads c = threads-after

pub returns-clause-shared : goal.returns-clause-shared
returns-clause-shared c = shared-after

pub returns-clause-objects : goal.returns-clause-objects
returns-clause-objects c = objects-after
