-- The law is the lemma.
use Rattle.osc_world.proofs.PlainExamples.{sum-status}
use Rattle.osc_world.proofs.laws.examples.plain_runs_fork_and_share.Goals as goal

pub returns : goal.returns
returns c = sum-status
