use Rattle.std.proofs.Common.{arith}
use Rattle.osc_frames.proofs.Rows.{length-numbers, top_of_row}
use Rattle.osc_frames.proofs.words.BitRowBitWords.top.Goals as goal

pub returns-clause-below : goal.returns-clause-below
returns-clause-below g c =
    let row = c.self.inside in
    let long = length-numbers row.groups.items row.count in
    let short = c.self.invariant.below in
    rw (← c.self.view_is) (omega arith)

pub returns-clause-bits : goal.returns-clause-bits
returns-clause-bits g c = rw (← c.self.view_is) (top_of_row c.self.invariant)
