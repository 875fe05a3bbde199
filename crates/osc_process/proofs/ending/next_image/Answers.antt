-- The next page is the first one, where it is one of the image or the stack.
use Rattle.std.proofs.Common.{◌≡◌, ◌≤◌, Some, arith}
use Rattle.osc_paging.specs.KeptTables.{mapping_of}
use Rattle.osc_fork.proofs.Firsts.{first_page, no_page_left, none_before}
use Rattle.osc_process.proofs.ending.next_image.Goals as goal

pub returns-in_default-2-clause-first : goal.returns-in_default-2-clause-first
returns-in_default-2-clause-first c =
    no_page_left c.args.from 2097152 c.args.tables.now c.in_default.ensures.order.range (omega arith) (λ q s l. c.in_default.ensures.next q s)

pub returns-in_default-clause-first : goal.returns-in_default-clause-first
returns-in_default-clause-first c =
    no_page_left c.args.from 2097152 c.args.tables.now c.in-Some.ensures.order.range (omega arith)
    (none_before c.args.from 2097152 c.in-Some.page c.args.tables.now c.in-Some.ensures.next (let f = c.if-page-lt-FIRST_SHARED_PAGE.false in omega (arith, f)))

pub returns-in-Some-clause-first : goal.returns-in-Some-clause-first
returns-in-Some-clause-first c =
    let mapped : mapping_of c.args.tables.now c.in-Some.page ≡ Some c.unwrap-mapping.result = (let at = c.at.ensures in let there = c.unwrap-mapping.ensures in cc) in
    first_page c.args.from c.in-Some.page 2097152 c.unwrap-mapping.result c.args.tables.now (omega arith) c.in-Some.ensures.order c.in-Some.ensures.next (let f = c.if-page-lt-FIRST_SHARED_PAGE.true in omega (arith, f)) mapped
