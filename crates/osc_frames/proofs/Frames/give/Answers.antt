use Rattle.std.proofs.Common.{◌≡◌, Bool, true, false, List, Some, ap, ◌∙◌, arith}
use Rattle.std.proofs.Common.{slice_get}
use Rattle.std.proofs.lemmas.List.{length-set}
use Rattle.osc_frames.proofs.FreeCount.{free_count-set}
use Rattle.osc_frames.proofs.Frames.give.Goals as goal

pub invariant_of-self : goal.invariant_of-self
invariant_of-self c =
    let row = c.self.inside.row in
    let taken : slice_get row c.args.frame ≡ Some false = ap (λ (ns : List Bool). slice_get ns c.args.frame) c.self.view_is ∙ c.requires in
    let sums = free_count-set row c.args.frame false true taken in
    let long = length-set row c.args.frame true in
    rw c.put.ensures (omega (arith, c.self.invariant.0), omega (arith, c.self.invariant.1))
