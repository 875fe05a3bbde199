use Rattle.std.proofs.Common.{sym}
use Rattle.osc_memory.proofs.Finds.{set-changed, changed-past}
use Rattle.osc_memory.proofs.memory.put_in_objects.Goals as goal

pub returns-then-at-objects : goal.returns-then-at-objects
returns-then-at-objects c = rw c.put.ensures (set-changed _ c.args.objects.now c.args.object _ c.if-at-objects.true)

pub returns-else-at-objects : goal.returns-else-at-objects
returns-else-at-objects c = sym (changed-past _ c.args.objects.now c.args.object c.if-at-objects.false)
