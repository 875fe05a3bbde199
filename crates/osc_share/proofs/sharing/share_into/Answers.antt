-- What is asked once the frames are taken.
use Rattle.std.proofs.Common.{◌∙◌, ◌++◌, false, length, map, ap, sym, subst}
use Rattle.osc_paging.specs.TableChanges.{zero_job}
use Rattle.osc_space.specs.Fork.{set_free}
use Rattle.osc_share.specs.InRow.{AreUnheld, CanMap}
use Rattle.osc_share.proofs.Shares.{are_unheld, can_map_then}
use Rattle.osc_share.proofs.sharing.share_into.Goals as goal

pub hold_all-requires-clause-unheld : goal.hold_all-requires-clause-unheld
hold_all-requires-clause-unheld c =
    subst (λ frames. AreUnheld c.args.regions.now frames) (sym c.take_zeroed.ensures.taken)
    (are_unheld c.args.first (length c.args.taken.now) c.args.tables.now c.args.regions.now c.args.frames.now c.args.jobs.now c.requires.can)

pub map_all-requires : goal.map_all-requires
map_all-requires c =
    let n = length c.args.taken.now in
    let is = c.take_zeroed.ensures.taken in
    let frames_are = c.take_zeroed.ensures.frames ∙ ap (λ xs. set_free false xs c.args.frames.now) is in
    let pushed_are = c.take_zeroed.ensures.pushed ∙ ap (λ xs. c.args.jobs.now.pushed ++ map zero_job xs) is in
    let then = can_map_then c.args.first n c.args.tables.now c.args.regions.now c.args.frames.now c.args.jobs.now c.take_zeroed.new.jobs c.requires.can pushed_are c.take_zeroed.ensures.room in
    subst (λ k. CanMap c.args.first k c.args.tables.now c.take_zeroed.new.frames c.take_zeroed.new.jobs) (sym c.take_zeroed.auto.taken)
    (subst (λ f. CanMap c.args.first n c.args.tables.now f c.take_zeroed.new.jobs) (sym frames_are) then)
