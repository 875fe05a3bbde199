-- The law is the lemma.
use Rattle.osc_world.proofs.PlainExamples.{written-output}
use Rattle.osc_world.proofs.laws.examples.plain_runs_write.Goals as goal

pub returns : goal.returns
returns c = written-output
