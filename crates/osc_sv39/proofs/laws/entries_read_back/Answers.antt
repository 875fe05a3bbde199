-- The laws of entry words.
use Rattle.osc_sv39.proofs.EntriesBack.{tables_read_back, leaves_read_back}
use Rattle.osc_sv39.proofs.laws.entries_read_back.Goals as goal

pub returns-clause-tables : goal.returns-clause-tables
returns-clause-tables c = tables_read_back

pub returns-clause-leaves : goal.returns-clause-leaves
returns-clause-leaves c = leaves_read_back
