-- The law, proved of the definitions.
use Rattle.osc_safe.proofs.FreshRuns.{runs_grant_once}
use Rattle.osc_safe.proofs.laws.pages_granted_once.Goals as goal

pub returns : goal.returns
returns c = runs_grant_once
