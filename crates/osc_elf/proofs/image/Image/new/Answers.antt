use Rattle.std.proofs.Common.{rules, subst, arith}
use Rattle.std.specs.List.{All}
use Rattle.std.proofs.lemmas.Grind.{common_steps}
use Rattle.osc_elf.specs.Pieces.{HasBorders, AreOwners}
use Rattle.osc_elf.proofs.image.Image.new.Goals as goal

pub invariant_of-result : goal.invariant_of-result
invariant_of-result c = (
  search rules,
  record {
    rising = c.in_ok-borders.ensures.rising;
    zero = c.in_ok-borders.ensures.zero;
    both = subst (All (HasBorders c.in_ok-borders.borders.items)) c.deref.ensures.value c.in_ok-borders.ensures.both;
    len = grind (arith, common_steps, c.deref-3.ensures.value, c.in_ok-owners.ensures.len);
    owned =
        subst (λ ss. AreOwners ss ss c.in_ok-borders.borders.items c.in_ok-owners.owners.items) c.deref-2.ensures.value
        (subst (λ bs. AreOwners c.deref-2.result.now c.deref-2.result.now bs c.in_ok-owners.owners.items) c.deref-3.ensures.value
        c.in_ok-owners.ensures.owned);
  },
)
