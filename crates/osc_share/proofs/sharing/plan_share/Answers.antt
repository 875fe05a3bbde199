-- The reasons in the order of the tests, and what the steps ask for.
use Rattle.std.proofs.Common.{◌≡◌, ◌+◌, ◌*◌, ◌<◌, ◌≤◌, ◌∙◌, nat_lt, true, false, arith, sym, subst, refl, ap}
use Rattle.std.proofs.lemmas.Bool.Decides.{nat_tests}
use Rattle.osc_frames.specs.Free.{free_count}
use Rattle.osc_paging.specs.KeptTables.{need}
use Rattle.osc_space.specs.Share.{next_shared_page}
use Rattle.osc_space.proofs.RefusalLawProofs.{share_refused}
use Rattle.osc_share.specs.InRow.{CanShare}
use Rattle.osc_share.specs.Plan.{sharing}
use Rattle.osc_share.proofs.Fitting.{given_fits}
use Rattle.osc_share.proofs.Shares.{few_shared, can_share}
use Rattle.osc_share.proofs.sharing.plan_share.Goals as goal

pub returns-then-n-eq0-clause-plan : goal.returns-then-n-eq0-clause-plan
returns-then-n-eq0-clause-plan c =
    ((share_refused c.args.n (sharing c.args.tables.now c.args.regions.now c.args.frames.now c.args.jobs.now.pushed)).empty (c.if-n-eq0.true), refl)

pub lacks_frames-requires : goal.lacks_frames-requires
lacks_frames-requires c = record { agrees = record { regions = c.args.regions.now; agree = c.requires.agrees } }

pub returns-then-lacks_frames-clause-plan : goal.returns-then-lacks_frames-clause-plan
returns-then-lacks_frames-clause-plan c =
    let none = c.if-n-eq0.false in
    let lack : nat_lt (free_count c.args.frames.now) (c.args.n + need c.args.tables.now (next_shared_page c.args.tables.now) c.args.n) ≡ true = sym c.lacks_frames.ensures ∙ c.if-lacks_frames.true in
    ((share_refused c.args.n (sharing c.args.tables.now c.args.regions.now c.args.frames.now c.args.jobs.now.pushed)).lack (omega arith) (grind (arith, nat_tests, lack)), refl)

pub next_shared_page-first-requires-clause-few : goal.next_shared_page-first-requires-clause-few
next_shared_page-first-requires-clause-few c =
    let shared = few_shared c.args.tables.now c.args.regions.now c.args.frames.now c.requires.agrees in
    omega (arith, shared, c.requires.agrees.few)

pub share_pages-requires-clause-can : goal.share_pages-requires-clause-can
share_pages-requires-clause-can c =
    let enough : nat_lt (free_count c.args.frames.now) (c.args.n + need c.args.tables.now (next_shared_page c.args.tables.now) c.args.n) ≡ false = sym c.lacks_frames.ensures ∙ c.if-lacks_frames.false in
    subst (λ first. CanShare first c.args.n c.args.tables.now c.args.regions.now c.args.frames.now c.args.jobs.now) (sym c.next_shared_page-first.ensures.next)
    (can_share c.args.n c.args.tables.now c.args.regions.now c.args.frames.now c.args.jobs.now c.requires.agrees c.requires.spare c.next_shared_page-first.ensures.order (grind (arith, nat_tests, enough)))

pub overflow_mul-result : goal.overflow_mul-result
overflow_mul-result c =
    let shared = few_shared c.args.tables.now c.args.regions.now c.args.frames.now c.requires.agrees in
    omega (arith, shared, c.requires.agrees.few, c.next_shared_page-first.ensures.next)

pub returns-clause-plan : goal.returns-clause-plan
returns-clause-plan c =
    let none = c.if-n-eq0.false in
    let enough : nat_lt (free_count c.args.frames.now) (c.args.n + need c.args.tables.now (next_shared_page c.args.tables.now) c.args.n) ≡ false = sym c.lacks_frames.ensures ∙ c.if-lacks_frames.false in (
      (share_refused c.args.n (sharing c.args.tables.now c.args.regions.now c.args.frames.now c.args.jobs.now.pushed)).none (omega arith) (grind (arith, nat_tests, enough)),
      ap (λ n. n * 4096) c.next_shared_page-first.ensures.next,
      c.share_pages.ensures.plan,
    )

pub returns-clause-fits : goal.returns-clause-fits
returns-clause-fits c space =
    given_fits c.args.n (c.next_shared_page-first.result * 4096) space (sharing c.args.tables.now c.args.regions.now c.args.frames.now c.args.jobs.now.pushed)
    (sharing c.share_pages.new.tables c.share_pages.new.regions c.share_pages.new.frames c.share_pages.new.jobs.pushed) (returns-clause-plan c)
