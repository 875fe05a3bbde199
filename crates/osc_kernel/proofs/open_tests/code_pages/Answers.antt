-- One page more.
use Rattle.std.proofs.Common.{◌+◌, arith, refl, subst, sym}
use Rattle.osc_open.specs.Laying.{pages_of}
use Rattle.osc_kernel.proofs.Ascending.{StandBefore, one_page_more}
use Rattle.osc_kernel.proofs.open_tests.code_pages.Goals as goal

pub loop-page-preserved : goal.loop-page-preserved
loop-page-preserved c =
    let page = c.loop-page.page in
    subst (λ xs. StandBefore (page + 1) (pages_of xs)) (sym c.in_ok-push.ensures.items)
    (one_page_more page (record { 0 = 10 }) c.loop-page.pages.items (omega arith) (omega arith) refl c.loop-page.invariant)
