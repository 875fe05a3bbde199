-- The backed pages stand where the first has its place.
use Rattle.std.proofs.Common.{◌≡◌, [], length, rules, arith, sym, ◌∙◌}
use Rattle.osc_slot.specs.Heap.{back}
use Rattle.osc_heap.proofs.Places.{place, place_le}
use Rattle.osc_heap.proofs.Ranges.{backed}
use Rattle.osc_heap.proofs.rest.back.Goals as goal

pub move_last-requires-clause-order : goal.move_last-requires-clause-order
move_last-requires-clause-order c =
    let at : c.place_of-at.result ≡ place c.args.first c.args.pages.now.items = rw c.deref.ensures.value at c.place_of-at.ensures in
    let few = place_le c.args.first c.args.pages.now.items in
    let len : c.len-before.result ≡ length c.args.pages.now.items = search rules in
    omega arith

pub returns : goal.returns
returns c =
    let at : c.place_of-at.result ≡ place c.args.first c.args.pages.now.items = rw c.deref.ensures.value at c.place_of-at.ensures in
    let len : c.len-before.result ≡ length c.args.pages.now.items = search rules in
    let b = backed c.args.count c.args.first c.args.pages.now.items c.args.frames.now c.requires.ascending c.requires.fresh in
    let moved = c.move_last.ensures.pages c.args.pages.now.items (back c.args.count c.args.first (record { pages = []; free = c.args.frames.now })).pages c.push_backed.ensures.pages (sym len) in
    record {
      pages = (rw at at moved) ∙ sym b.pages;
      free = c.push_backed.ensures.free ∙ sym b.free;
      room = search rules;
    }
