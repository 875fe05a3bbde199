-- One table more has given its frame back.
use Rattle.std.proofs.Common.{◌∙◌}
use Rattle.osc_tables.proofs.KeptChanges.{gives_one, no_table}
use Rattle.osc_tables.proofs.kept.give_all.Goals as goal

pub give-requires : goal.give-requires
give-requires c =
    (gives_one c.args.tables.now c.loop-t.t-index c.loop-t.frames no_table c.loop-t-test.true c.loop-t.invariant.differ c.loop-t.invariant.taken).first

pub loop-t-preserved : goal.loop-t-preserved
loop-t-preserved c =
    let one = gives_one c.args.tables.now c.loop-t.t-index c.loop-t.frames no_table c.loop-t-test.true c.loop-t.invariant.differ c.loop-t.invariant.taken in
    rw c.give.ensures (record { left = one.left ∙ c.loop-t.invariant.left; differ = one.differ; taken = one.taken })
