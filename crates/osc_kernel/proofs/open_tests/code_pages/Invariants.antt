-- The pages so far.
use Rattle.osc_open.specs.Laying.{pages_of}
use Rattle.osc_kernel.proofs.Ascending.{StandBefore}
use Rattle.osc_kernel.proofs.open_tests.code_pages.Given as goal

abbrev pub invariant-loop-page : goal.invariant-loop-page
invariant-loop-page l = StandBefore l.page (pages_of l.pages.items)
