use Rattle.osc_judge.proofs.Booted.{zeros-next}
use Rattle.osc_judge.proofs.boot.add_zeros.Goals as goal

pub loop-place-preserved : goal.loop-place-preserved
loop-place-preserved c =
    zeros-next c.args.pages.now.items c.loop-place.pages.items c.push.new.self.items c.args.first c.loop-place.place c.loop-place.invariant
    (rw (c.new-page.ensures, c.in_ok-row.ensures) at c.in_ok-push.ensures.items)
