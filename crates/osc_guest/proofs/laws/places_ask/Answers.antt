-- The laws, proved of the definitions.
use Rattle.osc_guest.proofs.WhoAsks.{takers_of_box, loaders, takers_of_gate, storers, openers, givers, callers, resters}
use Rattle.osc_guest.proofs.laws.places_ask.Goals as goal

pub returns-clause-taking : goal.returns-clause-taking
returns-clause-taking c = takers_of_box

pub returns-clause-load : goal.returns-clause-load
returns-clause-load c = loaders

pub returns-clause-gate : goal.returns-clause-gate
returns-clause-gate c = takers_of_gate

pub returns-clause-store : goal.returns-clause-store
returns-clause-store c = storers

pub returns-clause-opening : goal.returns-clause-opening
returns-clause-opening c = openers

pub returns-clause-giving : goal.returns-clause-giving
returns-clause-giving c = givers

pub returns-clause-kernel : goal.returns-clause-kernel
returns-clause-kernel c = callers

pub returns-clause-rest : goal.returns-clause-rest
returns-clause-rest c = resters
