-- The page of the table that is in the range gives its frame back, and so do later pages.
use Rattle.std.proofs.Common.{◌≡◌, ◌<◌, ◌≤◌, ◌+◌, ◌-◌, Some, None, length, rules, arith, refl, sym, ap, ◌∙◌}
use Rattle.osc_slot.specs.Areas.{first_page}
use Rattle.osc_slot.specs.Heap.{give_back}
use Rattle.osc_heap.specs.Layout.{pages_from}
use Rattle.osc_heap.proofs.Places.{rest_ascending}
use Rattle.osc_heap.proofs.Held.{page_with, past_table_goes, past_table_stays, above_filter, gives_one, can_give_one, give_one, none_goes, all_stay}
use Rattle.osc_heap.proofs.pages.HeldPages.give_range.Goals as goal

pub give_range-requires-clause-ascending : goal.give_range-requires-clause-ascending
give_range-requires-clause-ascending c = rest_ascending first_page c.args.self.now.table c.args.self.now.rest.items c.requires.ascending

pub give_range-requires-clause-taken : goal.give_range-requires-clause-taken
give_range-requires-clause-taken c =
    let len : c.len.result ≡ length c.args.self.now.table = search rules in
    let from = c.requires.fits.0 in
    let out : length c.args.self.now.table ≤ c.args.first - first_page = rw len at c.if-at-len.true in
    rw (past_table_goes first_page c.args.first c.args.count c.args.self.now.table c.args.self.now.rest.items (omega arith)) at c.requires.taken

pub returns-then-at-len-clause-pages : goal.returns-then-at-len-clause-pages
returns-then-at-len-clause-pages c =
    let len : c.len.result ≡ length c.args.self.now.table = search rules in
    let from = c.requires.fits.0 in
    let out : length c.args.self.now.table ≤ c.args.first - first_page = rw len at c.if-at-len.true in
    rw c.give_range.ensures.pages (sym (past_table_stays first_page c.args.first c.args.count c.args.self.now.table c.args.self.now.rest.items (omega arith)))

pub returns-then-at-len-clause-free : goal.returns-then-at-len-clause-free
returns-then-at-len-clause-free c =
    let len : c.len.result ≡ length c.args.self.now.table = search rules in
    let from = c.requires.fits.0 in
    let out : length c.args.self.now.table ≤ c.args.first - first_page = rw len at c.if-at-len.true in
    c.give_range.ensures.free ∙ ap (λ ps. give_back ps c.args.frames.now) (sym (past_table_goes first_page c.args.first c.args.count c.args.self.now.table c.args.self.now.rest.items (omega arith)))

pub returns-then-at-len-clause-held : goal.returns-then-at-len-clause-held
returns-then-at-len-clause-held c = rw c.give_range.ensures.pages (above_filter (0x1FFFFFF + length c.args.self.now.table) _ c.args.self.now.rest.items c.requires.held)

pub give-requires : goal.give-requires
give-requires c =
    let len : c.len.result ≡ length c.args.self.now.table = search rules in
    let from = c.requires.fits.0 in
    let some = c.if-count-gt0.true in
    let within : c.args.first - first_page < length c.args.self.now.table = rw len at c.if-at-len.false in
    let one = c.requires.one (omega arith) in
    let g = gives_one c.args.count c.args.first (c.args.first - first_page) c.args.self.now.table c.args.self.now.rest.items c.get.result (omega arith) c.requires.held from refl within c.get.ensures in
    can_give_one c.args.frames.now c.args.first c.in-Some.frame (rw (g.goes, c.in-Some.is) at c.requires.taken)

pub returns-in-Some-clause-pages : goal.returns-in-Some-clause-pages
returns-in-Some-clause-pages c =
    let len : c.len.result ≡ length c.args.self.now.table = search rules in
    let from = c.requires.fits.0 in
    let some = c.if-count-gt0.true in
    let within : c.args.first - first_page < length c.args.self.now.table = rw len at c.if-at-len.false in
    let one = c.requires.one (omega arith) in
    let g = gives_one c.args.count c.args.first (c.args.first - first_page) c.args.self.now.table c.args.self.now.rest.items c.get.result (omega arith) c.requires.held from refl within c.get.ensures in
    rw c.set.ensures (sym g.stays)

pub returns-in-Some-clause-free : goal.returns-in-Some-clause-free
returns-in-Some-clause-free c =
    let len : c.len.result ≡ length c.args.self.now.table = search rules in
    let from = c.requires.fits.0 in
    let some = c.if-count-gt0.true in
    let within : c.args.first - first_page < length c.args.self.now.table = rw len at c.if-at-len.false in
    let one = c.requires.one (omega arith) in
    let g = gives_one c.args.count c.args.first (c.args.first - first_page) c.args.self.now.table c.args.self.now.rest.items c.get.result (omega arith) c.requires.held from refl within c.get.ensures in
    c.give.ensures ∙ sym (give_one c.args.frames.now c.args.first (Some c.in-Some.frame)) ∙ sym (ap (λ ps. give_back ps c.args.frames.now) (g.goes ∙ ap (page_with c.args.first) c.in-Some.is))

pub returns-in-None-clause-pages : goal.returns-in-None-clause-pages
returns-in-None-clause-pages c =
    let len : c.len.result ≡ length c.args.self.now.table = search rules in
    let from = c.requires.fits.0 in
    let some = c.if-count-gt0.true in
    let within : c.args.first - first_page < length c.args.self.now.table = rw len at c.if-at-len.false in
    let one = c.requires.one (omega arith) in
    let g = gives_one c.args.count c.args.first (c.args.first - first_page) c.args.self.now.table c.args.self.now.rest.items c.get.result (omega arith) c.requires.held from refl within c.get.ensures in
    sym (g.stays ∙ ap (λ t. pages_from first_page t c.args.self.now.rest.items) (g.same c.in-None.is))

pub returns-in-None-clause-free : goal.returns-in-None-clause-free
returns-in-None-clause-free c =
    let len : c.len.result ≡ length c.args.self.now.table = search rules in
    let from = c.requires.fits.0 in
    let some = c.if-count-gt0.true in
    let within : c.args.first - first_page < length c.args.self.now.table = rw len at c.if-at-len.false in
    let one = c.requires.one (omega arith) in
    let g = gives_one c.args.count c.args.first (c.args.first - first_page) c.args.self.now.table c.args.self.now.rest.items c.get.result (omega arith) c.requires.held from refl within c.get.ensures in
    sym (give_one c.args.frames.now c.args.first None) ∙ sym (ap (λ ps. give_back ps c.args.frames.now) (g.goes ∙ ap (page_with c.args.first) c.in-None.is))

pub returns-else-count-gt0-clause-pages : goal.returns-else-count-gt0-clause-pages
returns-else-count-gt0-clause-pages c =
    let none = c.if-count-gt0.false in
    sym (all_stay c.args.first c.args.count _ (omega arith))

pub returns-else-count-gt0-clause-free : goal.returns-else-count-gt0-clause-free
returns-else-count-gt0-clause-free c =
    let none = c.if-count-gt0.false in
    sym (give_one c.args.frames.now c.args.first None) ∙ sym (ap (λ ps. give_back ps c.args.frames.now) (none_goes c.args.first c.args.count _ (omega arith)))
