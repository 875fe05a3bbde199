-- The laws, proved of the definitions.
use Rattle.osc_core.proofs.Keeping.{steps_keep, runs_keep, sound_ready}
use Rattle.osc_core.proofs.laws.steps_keep.Goals as goal

pub returns-clause-ready : goal.returns-clause-ready
returns-clause-ready c = sound_ready c.places_ask.ensures.opening c.places_ask.ensures.giving c.boxes_fit.ensures.told

pub returns-clause-steps : goal.returns-clause-steps
returns-clause-steps c = steps_keep c.places_ask.ensures.opening c.boxes_fit.ensures.empty

pub returns-clause-runs : goal.returns-clause-runs
returns-clause-runs c = runs_keep c.places_ask.ensures.opening c.boxes_fit.ensures.empty
