-- The frames that are wanted, where they are no more than the free ones without the tables.
use Rattle.std.proofs.Common.{◌≡◌, ◌+◌, ◌<◌, nat_lt, true, false, ◌∙◌, arith, sym, subst, ap}
use Rattle.std.proofs.lemmas.Bool.Decides.{nat_tests}
use Rattle.osc_frames.specs.Free.{free_count}
use Rattle.osc_paging.specs.KeptTables.{need, levels_of}
use Rattle.osc_space.specs.Share.{next_shared_page}
use Rattle.osc_tables.specs.Calls.{AllCanonical}
use Rattle.osc_share.proofs.Shares.{few_shared, all_canonical, need_is}
use Rattle.osc_share.proofs.sharing.lacks_frames.Goals as goal

pub returns-then-n-free : goal.returns-then-n-free
returns-then-n-free c =
    let free : c.from-free.result ≡ free_count c.args.frames.now = c.from-free.ensures ∙ c.free_count.ensures in
    let over = c.if-n-free.true in
    grind (arith, nat_tests, free, over)

pub next_shared_page-first-requires-clause-few : goal.next_shared_page-first-requires-clause-few
next_shared_page-first-requires-clause-few c =
    let a = c.requires.agrees in
    let shared = few_shared c.args.tables.now a.regions c.args.frames.now a.agree in
    omega (arith, shared, a.agree.few)

pub need-requires : goal.need-requires
need-requires c =
    let a = c.requires.agrees in
    let free : c.from-free.result ≡ free_count c.args.frames.now = c.from-free.ensures ∙ c.free_count.ensures in
    subst (λ first. AllCanonical (levels_of c.args.tables.now) first c.args.n) (sym c.next_shared_page-first.ensures.next)
    (all_canonical c.args.n c.args.tables.now a.regions c.args.frames.now a.agree c.next_shared_page-first.ensures.order (omega (arith, free, c.if-n-free.false)))

pub returns : goal.returns
returns c =
    let a = c.requires.agrees in
    let free : c.from-free.result ≡ free_count c.args.frames.now = c.from-free.ensures ∙ c.free_count.ensures in
    let is : c.need.result ≡ need c.args.tables.now (next_shared_page c.args.tables.now) c.args.n =
    c.need.ensures ∙ need_is c.args.n c.next_shared_page-first.result c.args.tables.now a.regions c.args.frames.now a.agree c.next_shared_page-first.ensures.order c.next_shared_page-first.ensures.next in
    let within = c.if-n-free.false in
    grind (arith, nat_tests, free, is, within)
