-- No slot has an entry.
use Rattle.osc_paging.specs.Boxes.{no_entries}
use Rattle.osc_cache.proofs.SlotFacts.{no_entries_stand}
use Rattle.osc_cache.proofs.translations.Cache.clear.Goals as goal

pub invariant_of-self : goal.invariant_of-self
unfolding no_entries
invariant_of-self c = no_entries_stand
