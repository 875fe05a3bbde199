-- The laws, proved of the definitions.
use Rattle.osc_guest.proofs.Nearer.{answers_move, fitting_changes}
use Rattle.osc_guest.proofs.WhoAsks.{giving_moves}
use Rattle.osc_guest.proofs.laws.answers_move.Goals as goal

pub returns-clause-nearer : goal.returns-clause-nearer
returns-clause-nearer c = answers_move

pub returns-clause-given : goal.returns-clause-given
returns-clause-given c = giving_moves

pub returns-clause-changed : goal.returns-clause-changed
returns-clause-changed c = fitting_changes
