-- The law, proved of the definitions.
use Rattle.osc_ledger.proofs.HeapLaw.{heap_plans_keep_tables}
use Rattle.osc_ledger.proofs.ForkTables.{forks_keep_tables, returns_keep_tables}
use Rattle.osc_ledger.proofs.laws.tables_are_told.Goals as goal

pub returns-clause-heap : goal.returns-clause-heap
returns-clause-heap c = heap_plans_keep_tables

pub returns-clause-forks : goal.returns-clause-forks
returns-clause-forks c = forks_keep_tables

pub returns-clause-returns : goal.returns-clause-returns
returns-clause-returns c = returns_keep_tables
