-- The entries are those of the kernel in hand.
use Rattle.osc_turns.proofs.Jobs.{entry_asks}
use Rattle.osc_turns.proofs.asks.job_ask.Goals as goal

pub returns : goal.returns
returns c = entry_asks c.args.progress.now c.args.kernel.now c.entry_for-entry.result c.ask.result c.entry_for-entry.ensures c.requires c.ask.ensures
