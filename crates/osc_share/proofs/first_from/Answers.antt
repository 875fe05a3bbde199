-- The next page is the first one, where it is no shadow page.
use Rattle.std.proofs.Common.{◌≡◌, arith, Some}
use Rattle.osc_paging.specs.KeptTables.{mapping_of}
use Rattle.osc_share.proofs.Pages.{first_page, no_page_left, none_before}
use Rattle.osc_share.proofs.first_from.Goals as goal

pub returns-in_err-page : goal.returns-in_err-page
returns-in_err-page c =
    rw c.from_residual.ensures
    (no_page_left c.args.from c.args.tables.now c.in_err-page.ensures.order.range (λ q s l. c.in_err-page.ensures.next q s))

pub returns-then-page-ge-FIRST_SHADOW_PAGE : goal.returns-then-page-ge-FIRST_SHADOW_PAGE
returns-then-page-ge-FIRST_SHADOW_PAGE c =
    no_page_left c.args.from c.args.tables.now c.in_ok-page.ensures.order.range
    (none_before c.args.from c.in_ok-page.page c.args.tables.now c.in_ok-page.ensures.next (let past = c.if-page-ge-FIRST_SHADOW_PAGE.true in omega arith))

pub returns : goal.returns
returns c =
    let mapped : mapping_of c.args.tables.now c.in_ok-page.page ≡ Some c.unwrap-mapping.result = (let at = c.at.ensures in let there = c.unwrap-mapping.ensures in cc) in
    first_page c.args.from c.in_ok-page.page c.unwrap-mapping.result c.args.tables.now c.in_ok-page.ensures.order c.in_ok-page.ensures.next
    (let low = c.if-page-ge-FIRST_SHADOW_PAGE.false in omega arith) mapped
