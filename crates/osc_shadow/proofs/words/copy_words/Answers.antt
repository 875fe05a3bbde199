-- One piece more.
use Rattle.std.proofs.Common.{arith, ◌∙◌}
use Rattle.osc_shadow.specs.Pieces.{copy_job}
use Rattle.osc_shadow.proofs.Cuts.{next_piece, no_piece_left, push_next, push_none}
use Rattle.osc_shadow.proofs.words.copy_words.Goals as goal

pub loop-piece-preserved : goal.loop-piece-preserved
loop-piece-preserved c =
    let next = next_piece (copy_job c.args.heap.now.pages c.args.old c.args.block) c.div_ceil-count.result c.loop-piece.piece 16 c.args.to (omega arith) in
    record {
      pushed = push_next _ _ _ _ _ _ c.copy_piece.ensures.pushed next c.loop-piece.invariant.pushed;
      few = omega arith;
      room = c.copy_piece.ensures.room ∙ c.loop-piece.invariant.room;
    }

pub returns-clause-pushed : goal.returns-clause-pushed
returns-clause-pushed c =
    push_none _ _ _ (no_piece_left (copy_job c.args.heap.now.pages c.args.old c.args.block) c.div_ceil-count.result c.loop-piece.piece 16 c.args.to (omega arith)) c.loop-piece.invariant.pushed
