-- So many slots are copied.
use Rattle.std.proofs.Common.{◌≡◌, ◌≤◌, take}
use Rattle.std.specs.Prelude.{map}
use Rattle.std.specs.Vec.{vec_len, vec_capacity}
use Rattle.osc_tables.specs.Slots.{renamed_slot}
use Rattle.osc_tables.proofs.page_list.copy_slots.Given as goal

abbrev pub invariant-loop-slot : goal.invariant-loop-slot
invariant-loop-slot l = record {
  copied : l.into.items ≡ map (renamed_slot l.names) (take l.slot-index l.slots);
  len : vec_len l.into ≡ l.slot-index;
  capacity : vec_capacity l.fn.into ≤ vec_capacity l.into;
}
