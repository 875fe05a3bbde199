-- What is left decides.
use Rattle.std.proofs.Common.{◌≡◌, drop}
use Rattle.osc_paging.specs.KeptTables.{piece_of}
use Rattle.osc_tables.proofs.table_list.piece_of.Given as goal

abbrev pub invariant-loop-t : goal.invariant-loop-t
invariant-loop-t l = piece_of l.tables l.frame ≡ piece_of (drop l.t-index l.tables) l.frame
