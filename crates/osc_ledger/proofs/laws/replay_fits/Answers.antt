-- The law, proved of the definitions.
use Rattle.osc_ledger.proofs.ReplaySteps.{steps_keep_replay}
use Rattle.osc_ledger.proofs.ReplayRuns.{runs_fit_replay, runs_agree_with_replay}
use Rattle.osc_ledger.proofs.laws.replay_fits.Goals as goal

pub returns-clause-steps : goal.returns-clause-steps
returns-clause-steps c = steps_keep_replay

pub returns-clause-runs : goal.returns-clause-runs
returns-clause-runs c = runs_fit_replay

pub returns-clause-home : goal.returns-clause-home
returns-clause-home c = runs_agree_with_replay
