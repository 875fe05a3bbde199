-- A page of the table gets the least free frame, and later pages get theirs.
use Rattle.std.proofs.Common.{◌≡◌, ◌<◌, ◌≤◌, ◌+◌, ◌-◌, length, rules, arith, refl, sym, ap, ◌∙◌}
use Rattle.osc_slot.specs.Areas.{first_page}
use Rattle.osc_slot.specs.Heap.{Backing}
use Rattle.osc_heap.proofs.Places.{rest_ascending}
use Rattle.osc_heap.proofs.Held.{frame_past_table, rest_le, back_past_table, above_back, back_one, back_none}
use Rattle.osc_heap.proofs.pages.HeldPages.back.Goals as goal

pub back-requires-clause-room : goal.back-requires-clause-room
back-requires-clause-room c =
    let few = rest_le first_page c.args.self.now.table c.args.self.now.rest.items in
    let room = c.requires.room in
    omega arith

pub back-requires-clause-ascending : goal.back-requires-clause-ascending
back-requires-clause-ascending c = rest_ascending first_page c.args.self.now.table c.args.self.now.rest.items c.requires.ascending

pub back-requires-clause-fresh : goal.back-requires-clause-fresh
back-requires-clause-fresh c = λ q l m.
    let len : c.len.result ≡ length c.args.self.now.table = search rules in
    let from = c.requires.fits.0 in
    let out : length c.args.self.now.table ≤ c.args.first - first_page = rw len at c.if-at-len.true in
    sym (frame_past_table first_page q c.args.self.now.table c.args.self.now.rest.items (omega arith)) ∙ c.requires.fresh q l m

pub returns-then-at-len-clause-pages : goal.returns-then-at-len-clause-pages
returns-then-at-len-clause-pages c =
    let len : c.len.result ≡ length c.args.self.now.table = search rules in
    let from = c.requires.fits.0 in
    let out : length c.args.self.now.table ≤ c.args.first - first_page = rw len at c.if-at-len.true in
    rw c.back.ensures.pages (sym (ap (λ (b : Backing). b.pages) (back_past_table first_page c.args.count c.args.first c.args.self.now.table c.args.self.now.rest.items c.args.frames.now (omega arith))))

pub returns-then-at-len-clause-free : goal.returns-then-at-len-clause-free
returns-then-at-len-clause-free c =
    let len : c.len.result ≡ length c.args.self.now.table = search rules in
    let from = c.requires.fits.0 in
    let out : length c.args.self.now.table ≤ c.args.first - first_page = rw len at c.if-at-len.true in
    c.back.ensures.free ∙ sym (ap (λ (b : Backing). b.free) (back_past_table first_page c.args.count c.args.first c.args.self.now.table c.args.self.now.rest.items c.args.frames.now (omega arith)))

pub returns-then-at-len-clause-held : goal.returns-then-at-len-clause-held
returns-then-at-len-clause-held c =
    let len : c.len.result ≡ length c.args.self.now.table = search rules in
    let from = c.requires.fits.0 in
    let out : length c.args.self.now.table ≤ c.args.first - first_page = rw len at c.if-at-len.true in
    rw c.back.ensures.pages (above_back (0x1FFFFFF + length c.args.self.now.table) c.args.count c.args.first (record { pages = c.args.self.now.rest.items; free = c.args.frames.now }) (omega arith) c.requires.held)

pub returns-then-count-gt0-clause-pages : goal.returns-then-count-gt0-clause-pages
returns-then-count-gt0-clause-pages c =
    let len : c.len.result ≡ length c.args.self.now.table = search rules in
    let from = c.requires.fits.0 in
    let some = c.if-count-gt0.true in
    let within : c.args.first - first_page < length c.args.self.now.table = rw len at c.if-at-len.false in
    let one = c.requires.one (omega arith) in
    rw c.set.ensures (sym (ap (λ (b : Backing). b.pages) (back_one c.args.count c.args.first (c.args.first - first_page) c.args.self.now.table c.args.self.now.rest.items c.args.frames.now c.take.result (omega arith) c.requires.held from refl within (c.requires.fresh c.args.first (omega arith) (omega arith)) c.take.ensures.least)))

pub returns-then-count-gt0-clause-free : goal.returns-then-count-gt0-clause-free
returns-then-count-gt0-clause-free c =
    let len : c.len.result ≡ length c.args.self.now.table = search rules in
    let from = c.requires.fits.0 in
    let some = c.if-count-gt0.true in
    let within : c.args.first - first_page < length c.args.self.now.table = rw len at c.if-at-len.false in
    let one = c.requires.one (omega arith) in
    c.take.ensures.after ∙ sym (ap (λ (b : Backing). b.free) (back_one c.args.count c.args.first (c.args.first - first_page) c.args.self.now.table c.args.self.now.rest.items c.args.frames.now c.take.result (omega arith) c.requires.held from refl within (c.requires.fresh c.args.first (omega arith) (omega arith)) c.take.ensures.least))

pub returns-else-count-gt0-clause-pages : goal.returns-else-count-gt0-clause-pages
returns-else-count-gt0-clause-pages c =
    let none = c.if-count-gt0.false in
    sym (ap (λ (b : Backing). b.pages) (back_none c.args.count c.args.first _ (omega arith)))

pub returns-else-count-gt0-clause-free : goal.returns-else-count-gt0-clause-free
returns-else-count-gt0-clause-free c =
    let none = c.if-count-gt0.false in
    sym (ap (λ (b : Backing). b.free) (back_none c.args.count c.args.first _ (omega arith)))
