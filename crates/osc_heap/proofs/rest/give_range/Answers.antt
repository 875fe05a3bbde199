-- What stands between the places of the range's ends is what is in it.
use Rattle.std.proofs.Common.{◌≡◌, ◌+◌, length, rules, arith, sym, ap, ◌∙◌}
use Rattle.std.specs.Vec.{vec_len}
use Rattle.osc_slot.specs.Heap.{give_back}
use Rattle.osc_heap.proofs.Places.{place, place_le}
use Rattle.osc_heap.proofs.Ranges.{range, place_order}
use Rattle.osc_heap.proofs.rest.give_range.Goals as goal

pub give_part-requires : goal.give_part-requires
give_part-requires c =
    let at : c.place_of-at.result ≡ place c.args.first c.args.pages.now.items = rw c.deref.ensures.value at c.place_of-at.ensures in
    let end : c.place_of-end.result ≡ place (c.args.first + c.args.count) c.args.pages.now.items = rw c.deref-2.ensures.value at c.place_of-end.ensures in
    let order = place_order c.args.first (c.args.first + c.args.count) c.args.pages.now.items (omega arith) in
    let few = place_le (c.args.first + c.args.count) c.args.pages.now.items in
    let len : vec_len c.args.pages.now ≡ length c.args.pages.now.items = search rules in
    let r = range c.args.first c.args.count c.args.pages.now.items c.requires.ascending in
    record { order = rw (at, end) order; within = omega arith; taken = rw (at, end) (rw r.goes at c.requires.taken) }

pub returns : goal.returns
returns c =
    let at : c.place_of-at.result ≡ place c.args.first c.args.pages.now.items = rw c.deref.ensures.value at c.place_of-at.ensures in
    let end : c.place_of-end.result ≡ place (c.args.first + c.args.count) c.args.pages.now.items = rw c.deref-2.ensures.value at c.place_of-end.ensures in
    let r = range c.args.first c.args.count c.args.pages.now.items c.requires.ascending in
    record {
      pages = (rw (at, end) at c.give_part.ensures.pages) ∙ sym r.stays;
      free = (rw (at, end) at c.give_part.ensures.free) ∙ sym (ap (λ ps. give_back ps c.args.frames.now) r.goes);
      room = c.give_part.ensures.room;
    }
