-- The law, proved of the definitions.
use Rattle.osc_refusals.proofs.Rule.{runs_tell_frames, runs_refuse_by_rule}
use Rattle.osc_refusals.proofs.laws.memory_is_refused_by_rule.Goals as goal

pub returns-clause-frames : goal.returns-clause-frames
returns-clause-frames c = runs_tell_frames

pub returns-clause-runs : goal.returns-clause-runs
returns-clause-runs c = runs_refuse_by_rule
