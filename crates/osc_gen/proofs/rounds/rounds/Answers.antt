use Rattle.osc_gen.proofs.Steps.{round-more, round-last}
use Rattle.osc_gen.proofs.rounds.rounds.Goals as goal

pub loop-round-preserved : goal.loop-round-preserved
loop-round-preserved c =
    round-more c.loop-round.builder c.round_code.new.builder _ c.loop-round.round c.loop-round.sizes c.loop-round.last c.next-last.result
    c.drawn_by-drawn.result c.left_by.result c.loop-round-test.true c.next-last.ensures c.drawn_by-drawn.ensures.value
    c.in_ok-round_code.ensures c.left_by.ensures c.loop-round.invariant

pub returns : goal.returns
returns c =
    round-last c.loop-round.builder _ c.loop-round.round c.loop-round.sizes c.loop-round.last c.loop-round-test.false c.loop-round.invariant
