use Rattle.osc_world.specs.Run.{object_run_of}
use Rattle.osc_means.specs.Shown.{places}
use Rattle.osc_means.proofs.EventsShow.{event-shows}
use Rattle.osc_means.proofs.Runs.{runs-show, shown-agrees}
use Rattle.osc_means.proofs.laws.plain_heap_agrees.Goals as goal

pub returns-clause-events : goal.returns-clause-events
returns-clause-events c = event-shows

pub returns-clause-runs : goal.returns-clause-runs
returns-clause-runs c = runs-show

pub returns-clause-same : goal.returns-clause-same
returns-clause-same c = λ image config events plain limit e f. shown-agrees config.frames (places plain) (object_run_of image config events).world plain (runs-show image config events plain limit e f)
