-- An entry of a page stands in the page's slot alone.
use Rattle.osc_cache.proofs.SlotFacts.{misses_where_none_allows}
use Rattle.osc_cache.proofs.translations.Cache.look.Goals as goal

pub returns-clause-miss : goal.returns-clause-miss
returns-clause-miss c =
    rw (← c.self.view_is, c.seen_in.ensures, c.slot_of.ensures)
    (misses_where_none_allows c.self.inside.slots c.args.page c.args.access c.self.invariant)
