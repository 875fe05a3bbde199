use Rattle.std.proofs.Common.{arith, ◌∙◌}
use Rattle.osc_listing.proofs.Lines.{page-all}
use Rattle.osc_listing.proofs.listing.listing_of.Goals as goal

pub returns : goal.returns
returns c =
    c.loop-page.invariant ∙ page-all c.args.image.now c.loop-page.page (omega (arith, c.loop-page.auto, c.loop-page-test.false))
