use Rattle.std.proofs.Common.{sym}
use Rattle.osc_memory.proofs.Finds.{set-changed, changed-past}
use Rattle.osc_object.proofs.changes.answer.Goals as goal

pub returns-then-at-harts : goal.returns-then-at-harts
returns-then-at-harts c = rw c.answer.ensures (set-changed _ c.args.harts.now c.args.number _ c.if-at-harts.true)

pub returns-else-at-harts : goal.returns-else-at-harts
returns-else-at-harts c = sym (changed-past _ c.args.harts.now c.args.number c.if-at-harts.false)
