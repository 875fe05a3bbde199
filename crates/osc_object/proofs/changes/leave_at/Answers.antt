use Rattle.std.proofs.Common.{sym}
use Rattle.osc_memory.proofs.Finds.{set-changed, changed-past}
use Rattle.osc_object.proofs.changes.leave_at.Goals as goal

pub returns-then-at-threads : goal.returns-then-at-threads
returns-then-at-threads c = rw c.leave.ensures (set-changed _ c.args.threads.now c.args.at _ c.if-at-threads.true)

pub returns-else-at-threads : goal.returns-else-at-threads
returns-else-at-threads c = sym (changed-past _ c.args.threads.now c.args.at c.if-at-threads.false)
