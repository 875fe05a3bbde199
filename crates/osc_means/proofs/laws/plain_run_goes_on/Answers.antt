use Rattle.osc_world.specs.Run.{object_run_of}
use Rattle.osc_means.specs.Shown.{places}
use Rattle.osc_means.proofs.Runs.{runs-show, shown-agrees}
use Rattle.osc_means.proofs.GoesOn.{event-goes, runs-go, runs-placed}
use Rattle.osc_means.proofs.laws.plain_run_goes_on.Goals as goal

pub returns-clause-event : goal.returns-clause-event
returns-clause-event c = event-goes

pub returns-clause-runs : goal.returns-clause-runs
returns-clause-runs c = runs-go

pub returns-clause-only : goal.returns-clause-only
returns-clause-only c = runs-placed

pub returns-clause-same : goal.returns-clause-same
returns-clause-same c = λ image config events limit e placed.
    let run = runs-go image config events placed in
    (run.0, run.1, shown-agrees config.frames (places run.0) (object_run_of image config events).world run.0 (runs-show image config events run.0 limit e run.1))
