-- So many tables are copied.
use Rattle.std.proofs.Common.{◌≡◌, ◌≤◌, take}
use Rattle.std.specs.Prelude.{map}
use Rattle.std.specs.Vec.{vec_len, vec_capacity}
use Rattle.osc_paging.specs.TableChanges.{renamed_table}
use Rattle.osc_tables.proofs.table_list.copy_tables.Given as goal

abbrev pub invariant-loop-t : goal.invariant-loop-t
invariant-loop-t l = record {
  copied : l.into.items ≡ map (renamed_table l.names) (take l.t-index l.tables);
  len : vec_len l.into ≡ l.t-index;
  capacity : vec_capacity l.fn.into ≤ vec_capacity l.into;
}
