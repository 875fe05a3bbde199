-- The laws, proved of the definitions.
use Rattle.osc_guest.proofs.Hands.{hands_move, hand_kept}
use Rattle.osc_guest.proofs.laws.hands_move.Goals as goal

pub returns-clause-moves : goal.returns-clause-moves
returns-clause-moves c = hands_move

pub returns-clause-agree : goal.returns-clause-agree
returns-clause-agree c = hand_kept
