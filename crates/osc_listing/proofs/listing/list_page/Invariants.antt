use Rattle.std.proofs.Common.{◌≡◌, ◌++◌}
use Rattle.osc_listing.specs.Listing.{first_lines}
use Rattle.osc_listing.proofs.listing.list_page.Given as goal

-- the text has the lines of the words before the index
abbrev pub invariant-loop-index : goal.invariant-loop-index
invariant-loop-index l = l.text.items ≡ l.fn.text.items ++ first_lines l.image l.page l.index
