use Rattle.std.proofs.Common.{sym}
use Rattle.osc_memory.proofs.Finds.{set-changed, changed-past}
use Rattle.osc_object.proofs.changes.put_in_page.Goals as goal

pub returns-then-at-shared : goal.returns-then-at-shared
returns-then-at-shared c = rw c.put.ensures (set-changed _ c.args.shared.now c.args.page _ c.if-at-shared.true)

pub returns-else-at-shared : goal.returns-else-at-shared
returns-else-at-shared c = sym (changed-past _ c.args.shared.now c.args.page c.if-at-shared.false)
