use Rattle.std.proofs.Common.{◌≡◌, take}
use Rattle.osc_memory.proofs.pages.pages_copied.Given as goal

abbrev pub invariant-loop-page : goal.invariant-loop-page
invariant-loop-page l = l.copy.items ≡ take l.page-index l.pages
