-- The law, proved of the definitions.
use Rattle.osc_safe.proofs.UnmappedRuns.{runs_unmap}
use Rattle.osc_safe.proofs.laws.dead_pages_are_unmapped.Goals as goal

pub returns : goal.returns
returns c = runs_unmap
