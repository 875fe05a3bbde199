-- The law, proved of the definitions.
use Rattle.osc_caches.proofs.Working.{work_keeps_showing}
use Rattle.osc_caches.proofs.laws.work_keeps_showing.Goals as goal

pub returns : goal.returns
returns c = work_keeps_showing
