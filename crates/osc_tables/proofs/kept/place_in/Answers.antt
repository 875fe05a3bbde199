-- A table lies within the range.
use Rattle.std.proofs.Common.{suc, sym, ◌∙◌, arith}
use Rattle.osc_tables.proofs.KeptFacts.{lies}
use Rattle.osc_tables.proofs.kept.place_in.Goals as goal

pub place_of-requires-clause-level : goal.place_of-requires-clause-level
place_of-requires-clause-level c =
    let within = (lies (suc c.args.top) c.args.tables.now c.args.frame c.in_ok-piece.piece c.requires.tables (sym c.piece_of.ensures ∙ c.in_ok-piece.was)).0 in
    omega arith

pub place_of-requires-clause-range : goal.place_of-requires-clause-range
place_of-requires-clause-range c =
    (lies (suc c.args.top) c.args.tables.now c.args.frame c.in_ok-piece.piece c.requires.tables (sym c.piece_of.ensures ∙ c.in_ok-piece.was)).1
