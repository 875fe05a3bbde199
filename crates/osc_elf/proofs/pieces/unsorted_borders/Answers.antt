use Rattle.std.proofs.Common.{sym}
use Rattle.std.proofs.lemmas.List.{take_all}
use Rattle.std.proofs.lemmas.List.Elements.{All-same}
use Rattle.osc_elf.specs.Pieces.{HasBorders}
use Rattle.osc_elf.proofs.Owning.{borders-more}
use Rattle.osc_elf.proofs.pieces.unsorted_borders.Goals as goal

pub loop-segment-preserved : goal.loop-segment-preserved
loop-segment-preserved c =
    borders-more c.loop-segment.borders.items c.push-in-loop-segment.new.self.items c.push-in-loop-segment-2.new.self.items
    c.args.segments.now c.loop-segment.segment-index c.segment-item.result c.in_ok-push-2.ensures.items
    (rw (← c.end.ensures) c.in_ok-push-3.ensures.items) c.loop-segment-test.true c.segment-item.is c.loop-segment.invariant.0
    c.loop-segment.invariant.1

pub returns-clause-both : goal.returns-clause-both
returns-clause-both c =
    All-same (HasBorders c.loop-segment.borders.items) _ _ (sym (take_all c.loop-segment.segment-index c.args.segments.now c.loop-segment-test.false))
    c.loop-segment.invariant.1
