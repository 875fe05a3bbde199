-- One more hart.
use Rattle.std.proofs.Common.{sym}
use Rattle.osc_machine.specs.Start.{first_hart}
use Rattle.osc_core.proofs.Lists.{map_next}
use Rattle.osc_core.proofs.boot.new_harts.Goals as goal

pub loop-number-preserved : goal.loop-number-preserved
loop-number-preserved c =
    rw (c.in_ok-push.ensures.items, c.in_ok-new.ensures, c.first_user.ensures, c.loop-number.invariant)
    (sym (map_next (first_hart c.args.config.now c.args.start.now) c.loop-number.number))
