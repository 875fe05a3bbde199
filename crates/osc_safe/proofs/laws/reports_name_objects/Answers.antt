-- The law, proved of the definitions.
use Rattle.osc_safe.proofs.NamingRuns.{runs_report}
use Rattle.osc_safe.proofs.laws.reports_name_objects.Goals as goal

pub returns : goal.returns
returns c = runs_report
