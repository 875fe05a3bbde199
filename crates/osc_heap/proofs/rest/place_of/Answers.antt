-- The middle page decides for those before it or for those after it.
use Rattle.std.proofs.Common.{◌+◌, ◌-◌, ◌/◌, arith}
use Rattle.osc_heap.proofs.Places.{ascending_le, place_is}
use Rattle.osc_heap.proofs.rest.place_of.Goals as goal

pub loop-low-preserved-then-pages-middle : goal.loop-low-preserved-then-pages-middle
loop-low-preserved-then-pages-middle c =
    let i = c.loop-low.invariant in
    let order = i.order in
    let within = i.within in
    let some = c.loop-low-test.true in
    let middle = c.if-pages-middle.true in
    record {
      order = omega arith;
      within = within;
      below = λ k d l. (let h = ascending_le k (c.loop-low.low + (c.loop-low.high - c.loop-low.low) / 2) d (record { page = 0; frame = 0 }) c.args.pages.now c.requires (omega arith) (omega arith) in omega arith);
      from = i.from;
    }

pub loop-low-preserved : goal.loop-low-preserved
loop-low-preserved c =
    let i = c.loop-low.invariant in
    let order = i.order in
    let within = i.within in
    let some = c.loop-low-test.true in
    let middle = c.if-pages-middle.false in
    record {
      order = omega arith;
      within = omega arith;
      below = i.below;
      from = λ k d l m. (let h = ascending_le (c.loop-low.low + (c.loop-low.high - c.loop-low.low) / 2) k (record { page = 0; frame = 0 }) d c.args.pages.now c.requires l m in omega arith);
    }

pub returns : goal.returns
returns c =
    let i = c.loop-low.invariant in
    let order = i.order in
    let within = i.within in
    let past = c.loop-low-test.false in
    place_is c.args.pages.now c.args.page c.loop-low.low (omega arith) i.below (λ k d l m. i.from k d (omega arith) m)
