-- The law, proved of the definitions.
use Rattle.osc_caches.proofs.Stores.{stores_leave}
use Rattle.osc_caches.proofs.Copies.{heap_calls_copy}
use Rattle.osc_caches.proofs.laws.stores_leave.Goals as goal

pub returns-clause-stores : goal.returns-clause-stores
returns-clause-stores c = stores_leave

pub returns-clause-copies : goal.returns-clause-copies
returns-clause-copies c = heap_calls_copy
