use Rattle.std.proofs.Common.{◌∙◌, arith}
use Rattle.osc_judge.proofs.Booted.{one-more, pages-ended, none-yet, is-mapped}
use Rattle.osc_judge.proofs.boot.image_pages.Goals as goal

pub loop-number-init : goal.loop-number-init
loop-number-init c = (c.new-pages.ensures.items ∙ none-yet c.args.image.now, omega arith)

pub loop-number-preserved : goal.loop-number-preserved
loop-number-preserved c = (
  one-more c.args.image.now c.loop-number.from c.in-Some.number c.loop-number.pages.items c.push.new.self.items c.loop-number.invariant.0 c.in-Some.ensures.next
      (is-mapped c.args.image.now c.in-Some.number c.in-Some.ensures.next.mapped) (rw c.in_ok-page.ensures at c.in_ok-push.ensures.items),
  let below = c.in-Some.ensures.bound in omega (arith, below),
)

pub returns : goal.returns
returns c = c.loop-number.invariant.0 ∙ pages-ended c.args.image.now c.loop-number.from c.loop-number.invariant.1 c.in_default.ensures.next
