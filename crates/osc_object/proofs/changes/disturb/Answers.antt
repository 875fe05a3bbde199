use Rattle.std.proofs.Common.{arith}
use Rattle.osc_memory.proofs.Finds.{mapped-set}
use Rattle.osc_object.proofs.changes.disturb.Goals as goal

pub loop-hart-preserved : goal.loop-hart-preserved
loop-hart-preserved c =
    mapped-set _ c.args.harts.now c.loop-hart.harts c.loop-hart.hart-index c.hart-item.result c.disturb.new.self (omega arith) c.loop-hart.invariant c.hart-item.is (rw (← c.hart-item.is) at c.disturb.ensures)
