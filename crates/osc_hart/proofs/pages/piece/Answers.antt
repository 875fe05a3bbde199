-- A piece stands above nine bits for each level.
use Rattle.osc_hart.proofs.Powers.{piece_shifted, piece_beyond}
use Rattle.osc_hart.proofs.pages.piece.Goals as goal

pub returns-then-level-gt7 : goal.returns-then-level-gt7
returns-then-level-gt7 c = piece_beyond c.args.level c.args.number c.if-level-gt7.true c.ranges.number.fits

pub returns : goal.returns
returns c = rw c.from.ensures (piece_shifted c.args.level c.args.number)
