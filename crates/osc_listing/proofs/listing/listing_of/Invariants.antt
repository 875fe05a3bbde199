use Rattle.std.proofs.Common.{◌≡◌}
use Rattle.osc_listing.specs.Listing.{text_below}
use Rattle.osc_listing.proofs.listing.listing_of.Given as goal

-- the text has the lines of the pages before this one
abbrev pub invariant-loop-page : goal.invariant-loop-page
invariant-loop-page l = l.text.items ≡ text_below l.image l.page
