-- The leaf tables, and then the boxes.
use Rattle.osc_space.specs.Objects.{facts}
use Rattle.osc_tables.specs.Calls.{changed}
use Rattle.osc_shadow.specs.Flushing.{leaves_over}
use Rattle.osc_shadow.proofs.Clears.{flushes}
use Rattle.osc_shadow.proofs.flushing.flush.Goals as goal

pub returns-clause-next : goal.returns-clause-next
returns-clause-next c free =
    flushes c.args.harts (leaves_over c.args.tables.now c.args.marks.now.objects (facts c.args.marks.now.objects c.args.gone.now)) c.give_leaves_up.new.tables free c.give_leaves_up.new.jobs.pushed c.clear_boxes.new.jobs.pushed
    (changed c.args.tables.now free c.args.jobs.now.pushed) (c.give_leaves_up.ensures.next free) c.clear_boxes.ensures.pushed
