use Rattle.std.proofs.Common.{sym}
use Rattle.osc_memory.proofs.Finds.{set-changed, changed-past}
use Rattle.osc_object.proofs.changes.hold.Goals as goal

pub returns-in_ok-hold : goal.returns-in_ok-hold
returns-in_ok-hold c = rw c.in_ok-hold.ensures (set-changed _ c.args.processes.now c.args.pid _ c.if-place-processes.true)

pub returns-else-place-processes : goal.returns-else-place-processes
returns-else-place-processes c = sym (changed-past _ c.args.processes.now c.args.pid c.if-place-processes.false)
