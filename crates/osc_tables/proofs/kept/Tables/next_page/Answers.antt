-- The page of the least number is the next one.
use Rattle.std.proofs.Common.{sym, ◌∙◌}
use Rattle.osc_tables.specs.Inside.{kept}
use Rattle.osc_tables.proofs.Canonical.{next_page_at, least_small, no_next_page}
use Rattle.osc_tables.proofs.kept.Tables.next_page.Goals as goal

pub page_of-requires-clause-range : goal.page_of-requires-clause-range
page_of-requires-clause-range c = least_small _ c.in_ok-number.number c.in_ok-found.found c.self.inside.pages.pages c.self.invariant.0.pages_lie (sym c.next.ensures ∙ c.in_ok-found.was)

pub returns-clause-next : goal.returns-clause-next
returns-clause-next c =
    rw (← c.self.view_is, c.page_of.ensures)
    (next_page_at _ c.args.from c.in_ok-number.number c.in_ok-found.found c.self.invariant.0.range c.self.invariant.0.ascend c.self.invariant.0.pages_lie (sym c.least_from.ensures ∙ c.in_ok-number.was) (sym c.next.ensures ∙ c.in_ok-found.was))

pub returns-in_err-found-clause-next : goal.returns-in_err-found-clause-next
returns-in_err-found-clause-next c =
    rw (← c.self.view_is, c.from_residual-in_err-found.ensures)
    (no_next_page (kept c.self.inside.top c.self.inside.pages.pages c.self.inside.tables.items c.self.inside.aside.items c.self.inside.pages.room c.self.inside.count) c.args.from c.in_ok-number.number c.self.invariant.0.range (sym c.least_from.ensures ∙ c.in_ok-number.was) (sym c.next.ensures ∙ c.in_err-found.was))
