use Rattle.std.proofs.Common.{sym}
use Rattle.osc_memory.proofs.Finds.{set-changed, changed-past}
use Rattle.osc_object.proofs.changes.serve.Goals as goal

pub returns-in_ok-serve : goal.returns-in_ok-serve
returns-in_ok-serve c = rw c.in_ok-serve.ensures (set-changed _ c.args.processes.now c.args.pid _ c.if-place-processes.true)

pub returns-else-place-processes : goal.returns-else-place-processes
returns-else-place-processes c = sym (changed-past _ c.args.processes.now c.args.pid c.if-place-processes.false)
