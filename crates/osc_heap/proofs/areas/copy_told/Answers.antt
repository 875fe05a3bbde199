-- Each area is told alike.
use Rattle.std.proofs.Common.{arith}
use Rattle.std.proofs.lemmas.List.{same_lists}
use Rattle.osc_heap.proofs.areas.copy_told.Goals as goal

pub returns : goal.returns
returns c =
    let i = c.loop-i.invariant in
    let from = c.requires.from.areas in
    let to = i.told.areas in
    let past = c.loop-i-test.false in
    same_lists c.loop-i.into.items c.args.told.now (omega arith) (λ k d l. i.each k d (omega arith))
