use Rattle.std.proofs.Common.{◌-◌, None, get_or, drop, sym, ◌∙◌, subst, arith}
use Rattle.osc_elf.specs.Pieces.{IsOwner}
use Rattle.osc_elf.proofs.Owning.{owner-next}
use Rattle.osc_elf.proofs.pieces.owners.Goals as goal

pub loop-index-preserved : goal.loop-index-preserved
loop-index-preserved c =
    record {
      bound = omega (arith, c.loop-index.invariant.bound);
      len = c.paint.ensures.len ∙ c.loop-index.invariant.len;
      skips = c.paint.ensures.skips;
      owned =
          λ k inside.
          subst (IsOwner c.args.segments.now (drop (c.loop-index.index - 1) c.args.segments.now) (get_or c.args.borders.now k 0))
          (sym (c.paint.ensures.each k (omega (arith, c.loop-index.invariant.len))))
          (owner-next c.args.segments.now c.index-segments-index.result (c.loop-index.index - 1) c.loop-index.index
          c.count_below-from.result c.count_below-to.result (get_or c.args.borders.now k 0) k (get_or c.loop-index.owners.items k None)
          (omega arith) (omega (arith, c.loop-index.invariant.bound)) c.index-segments-index.is (λ low. c.count_below-from.ensures.below k low)
          (λ high. c.count_below-from.ensures.from k high inside) (λ low. rw (← c.end.ensures) (c.count_below-to.ensures.below k low))
          (λ high. rw (← c.end.ensures) (c.count_below-to.ensures.from k high inside)) (c.loop-index.invariant.owned k inside));
    }
