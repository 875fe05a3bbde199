-- The slots that are left are the pages.
use Rattle.std.proofs.Common.{rules, ◌∙◌, ◌≡◌, ap, filter, length}
use Rattle.std.proofs.lemmas.Fn.{filter_same}
use Rattle.osc_tables.proofs.PagePlaces.{is_page, pages_in-closed, length-closed, SlotsAscend-closed}
use Rattle.osc_tables.proofs.page_list.close_gaps.Goals as goal

pub returns-clause-pages : goal.returns-clause-pages
returns-clause-pages c =
    let closed : c.retain.new.self.items ≡ filter is_page c.args.slots.now.items = filter_same _ is_page _ (λ x b f k. search rules) _ _ c.retain.ensures.filtered in
    rw closed (pages_in-closed c.args.slots.now.items)

pub returns-clause-ascend : goal.returns-clause-ascend
returns-clause-ascend c =
    let closed : c.retain.new.self.items ≡ filter is_page c.args.slots.now.items = filter_same _ is_page _ (λ x b f k. search rules) _ _ c.retain.ensures.filtered in
    rw closed (SlotsAscend-closed c.args.slots.now.items c.requires.ascend)

pub returns-clause-len : goal.returns-clause-len
returns-clause-len c =
    let closed : c.retain.new.self.items ≡ filter is_page c.args.slots.now.items = filter_same _ is_page _ (λ x b f k. search rules) _ _ c.retain.ensures.filtered in
    c.retain.new.self.ok.0 ∙ ap length closed ∙ length-closed c.args.slots.now.items
