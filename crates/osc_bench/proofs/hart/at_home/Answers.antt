-- A new box names no frame.
use Rattle.std.proofs.Common.{sym, subst}
use Rattle.osc_guest.specs.Ranges.{BoxIn}
use Rattle.osc_bench.proofs.hart.at_home.Goals as goal

pub returns : goal.returns
returns c = subst (BoxIn 5) (sym c.in_ok-hart_box.ensures) (c.boxes_fit.ensures.empty 5)
