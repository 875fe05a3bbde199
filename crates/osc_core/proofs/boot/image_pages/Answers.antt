-- One more page, and the end.
use Rattle.std.proofs.Common.{sym, ◌∙◌, arith}
use Rattle.osc_core.proofs.Pages.{one_more, pages_all}
use Rattle.osc_core.proofs.boot.image_pages.Goals as goal

pub loop-page-preserved-in-Continue-1 : goal.loop-page-preserved-in-Continue-1
loop-page-preserved-in-Continue-1 c = (
  one_more c.args.image.now c.loop-page.from c.in-Some.page c.in-Some-page_bits.bits c.loop-page.pages.items c.push.new.self.items c.loop-page.invariant.0 c.in-Some.ensures.next
      (sym c.page_bits.ensures ∙ c.in-Some-page_bits.is) c.in_ok-push.ensures.items,
  let below = c.in-Some.ensures.bound in omega (arith, below),
)

pub returns : goal.returns
returns c = c.loop-page.invariant.0 ∙ pages_all c.args.image.now c.loop-page.from c.loop-page.invariant.1 c.in_default.ensures.next
