-- A table lies within the range.
use Rattle.std.proofs.Common.{arith}
use Rattle.osc_tables.proofs.KeptFacts.{range_small}
use Rattle.osc_tables.proofs.kept.place_of.Goals as goal

pub overflow_mul-first : goal.overflow_mul-first
overflow_mul-first c =
    let most = range_small c.args.top c.requires.top in
    let within = c.requires.range in
    rw c.pages_below.ensures (omega arith)
