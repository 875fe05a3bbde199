-- The laws, proved of the definitions.
use Rattle.osc_machine.proofs.JournalLaws.{refused_entries_tell_nothing}
use Rattle.osc_machine.proofs.LeftOut.{refused_entries_left_out}
use Rattle.osc_machine.proofs.laws.refused_entries_tell_nothing.Goals as goal

pub returns-clause-entry : goal.returns-clause-entry
returns-clause-entry c = refused_entries_tell_nothing

pub returns-clause-journal : goal.returns-clause-journal
returns-clause-journal c = refused_entries_left_out
