use Rattle.std.proofs.Common.{arith, max, take, ◌≡◌, ◌++◌, [], ◌∷◌, ◌+◌, ◌∙◌, sym, ap}
use Rattle.std.proofs.lemmas.Grind.{take_at_read}
use Rattle.osc_elf.specs.Reach.{reach_of, reach_at}
use Rattle.osc_elf.proofs.Reaching.{reach_at-more}
use Rattle.osc_elf.proofs.permitted.reaches.Goals as goal

pub loop-segment-preserved : goal.loop-segment-preserved
loop-segment-preserved c =
    let taken : take (c.loop-segment.segment-index + 1) c.args.segments.now
    ≡ take c.loop-segment.segment-index c.args.segments.now ++ c.segment-item.result ∷ [] =
    (take_at_read c.args.segments.now c.loop-segment.segment-index c.segment-item.result c.loop-segment-test.true).1
    ∙ ap (λ s. take c.loop-segment.segment-index c.args.segments.now ++ s ∷ []) (sym c.segment-item.is) in (
      c.note_reach.ensures.len ∙ c.loop-segment.invariant.0,
      λ page inside.
          c.note_reach.ensures.each page (omega (arith, c.loop-segment.invariant.0))
          ∙ (ap (max (reach_of c.segment-item.result c.args.access page)) (c.loop-segment.invariant.1 page inside)
          ∙ sym (ap (λ ss. reach_at ss c.args.access page) taken
          ∙ reach_at-more (take c.loop-segment.segment-index c.args.segments.now) c.segment-item.result c.args.access page)),
    )
