-- The law, proved of the definitions.
use Rattle.osc_tabled.proofs.StartTables.{starts_fit_tables}
use Rattle.osc_tabled.proofs.TableSteps.{steps_keep_tables}
use Rattle.osc_tabled.proofs.TableRuns.{runs_fit_tables}
use Rattle.osc_tabled.proofs.laws.tables_fit.Goals as goal

pub returns-clause-start : goal.returns-clause-start
returns-clause-start c = starts_fit_tables

pub returns-clause-steps : goal.returns-clause-steps
returns-clause-steps c = steps_keep_tables

pub returns-clause-runs : goal.returns-clause-runs
returns-clause-runs c = runs_fit_tables
