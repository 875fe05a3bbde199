-- The law, proved of the definitions.
use Rattle.osc_safe.proofs.SafeRuns.{safe_by_accesses}
use Rattle.osc_safe.proofs.laws.safe_by_accesses.Goals as goal

pub returns : goal.returns
returns c = safe_by_accesses
