-- The two needs differ by what the leaf table lacks.
use Rattle.std.proofs.Common.{refl, ◌+◌, ◌-◌, ◌%◌}
use Rattle.osc_shadow.proofs.Linked.{linked_says}
use Rattle.osc_shadow.proofs.leaves.is_linked.Goals as goal

pub returns : goal.returns
returns c =
    linked_says c.args.tables.now c.args.leaf (c.args.leaf - c.args.leaf % 2) (c.args.leaf - c.args.leaf % 2 + 1 - c.args.leaf % 2) c.need.result c.need-2.result
    c.requires.top c.requires.low refl refl c.need.ensures c.need-2.ensures
