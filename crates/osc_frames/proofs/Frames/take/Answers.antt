use Rattle.std.proofs.Common.{true, false, arith}
use Rattle.std.proofs.lemmas.List.{length-set}
use Rattle.osc_frames.proofs.FreeCount.{free_count-set, least_is_free}
use Rattle.osc_frames.proofs.Frames.take.Goals as goal

pub invariant_of-self : goal.invariant_of-self
invariant_of-self c =
    let row = c.self.inside.row in
    let frame = c.in_ok-frame.frame in
    let told = c.in_ok-frame.ensures in
    let sums = free_count-set row frame true false (least_is_free row frame told.least) in
    let long = length-set row frame false in
    rw c.drop_out.ensures (omega (arith, c.self.invariant.0), omega (arith, c.self.invariant.1))
