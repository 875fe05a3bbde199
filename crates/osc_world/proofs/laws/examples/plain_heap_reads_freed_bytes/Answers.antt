-- The law is the lemma.
use Rattle.osc_world.proofs.PlainExamples.{end-status}
use Rattle.osc_world.proofs.laws.examples.plain_heap_reads_freed_bytes.Goals as goal

pub returns : goal.returns
returns c = end-status
