-- The tables from here on are still to be given back.
use Rattle.std.proofs.Common.{◌≡◌, drop}
use Rattle.osc_paging.specs.TableChanges.{frames_given}
use Rattle.osc_tables.specs.Calls.{AllTaken}
use Rattle.osc_tables.specs.Inside.{Differ}
use Rattle.osc_tables.proofs.kept.give_all.Given as goal

abbrev pub invariant-loop-t : goal.invariant-loop-t
invariant-loop-t l = record {
  left : frames_given (drop l.t-index l.tables) l.frames ≡ frames_given l.tables l.fn.frames;
  differ : Differ (drop l.t-index l.tables);
  taken : AllTaken (drop l.t-index l.tables) l.frames;
}
