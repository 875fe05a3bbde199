-- A page of the table has the frame of its entry, a later one that of its place, and an earlier one none.
use Rattle.std.proofs.Common.{◌≡◌, ◌<◌, ◌≤◌, ◌+◌, ◌-◌, length, rules, arith, refl, sym, ◌∙◌}
use Rattle.osc_slot.specs.Areas.{first_page}
use Rattle.osc_heap.proofs.Held.{above_at, frame_before, frame_past_table, read_table}
use Rattle.osc_heap.proofs.Places.{rest_ascending}
use Rattle.osc_heap.proofs.pages.HeldPages.frame_of.Goals as goal

pub returns-then-page-lt-FIRST_PAGE : goal.returns-then-page-lt-FIRST_PAGE
returns-then-page-lt-FIRST_PAGE c =
    let before = c.if-page-lt-FIRST_PAGE.true in
    sym (frame_before first_page c.args.page c.args.self.now.table c.args.self.now.rest.items before (above_at (0x1FFFFFF + length c.args.self.now.table) c.args.page c.args.self.now.rest.items (omega arith) c.requires.held))

pub returns-then-at-len : goal.returns-then-at-len
returns-then-at-len c =
    let past = c.if-page-lt-FIRST_PAGE.false in
    let len : c.len.result ≡ length c.args.self.now.table = search rules in
    let within : c.args.page - first_page < length c.args.self.now.table = rw len at c.if-at-len.true in
    (read_table c.args.self.now.table c.args.self.now.rest.items c.args.page (c.args.page - first_page) c.get.result c.requires.held past refl within c.get.ensures).0

pub frame_of-requires : goal.frame_of-requires
frame_of-requires c = rw c.deref.ensures.value (rest_ascending first_page c.args.self.now.table c.args.self.now.rest.items c.requires.ascending)

pub returns : goal.returns
returns c =
    let past = c.if-page-lt-FIRST_PAGE.false in
    let len : c.len.result ≡ length c.args.self.now.table = search rules in
    let out : length c.args.self.now.table ≤ c.args.page - first_page = rw len at c.if-at-len.false in
    (rw c.deref.ensures.value at c.frame_of.ensures) ∙ sym (frame_past_table first_page c.args.page c.args.self.now.table c.args.self.now.rest.items (omega arith))
