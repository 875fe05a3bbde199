-- No slot has an entry.
use Rattle.osc_paging.specs.Boxes.{no_entries}
use Rattle.osc_cache.proofs.SlotFacts.{no_entries_stand}
use Rattle.osc_cache.proofs.translations.Cache.new.Goals as goal

pub invariant_of-result : goal.invariant_of-result
unfolding no_entries
invariant_of-result c = no_entries_stand
