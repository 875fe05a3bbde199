-- The number of a table is small.
use Rattle.std.proofs.Common.{sym, arith, ◌≡◌, Some}
use Rattle.osc_paging.specs.KeptTables.{piece_of}
use Rattle.osc_tables.proofs.KeptFacts.{lies_small}
use Rattle.osc_tables.proofs.kept.Tables.entry.Goals as goal

pub overflow_mul-number : goal.overflow_mul-number
overflow_mul-number c =
    let found : piece_of c.self.inside.tables.items c.args.frame ≡ Some c.in-Some.piece = rw (← c.deref.ensures.value) (sym c.in-Some.ensures) in
    let small = lies_small c.self.inside.top c.self.inside.tables.items c.args.frame c.in-Some.piece c.self.invariant.0.range c.self.invariant.0.tables_lie found in
    omega arith

pub overflow_add-number : goal.overflow_add-number
overflow_add-number c =
    let found : piece_of c.self.inside.tables.items c.args.frame ≡ Some c.in-Some.piece = rw (← c.deref.ensures.value) (sym c.in-Some.ensures) in
    let small = lies_small c.self.inside.top c.self.inside.tables.items c.args.frame c.in-Some.piece c.self.invariant.0.range c.self.invariant.0.tables_lie found in
    omega (arith, c.from.ensures)
