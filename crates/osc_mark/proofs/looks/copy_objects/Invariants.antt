-- So many objects are copied.
use Rattle.std.proofs.Common.{◌≡◌, ◌≤◌, take}
use Rattle.std.specs.Vec.{vec_len, vec_capacity}
use Rattle.osc_mark.proofs.looks.copy_objects.Given as goal

abbrev pub invariant-loop-object : goal.invariant-loop-object
invariant-loop-object l = record {
  copied : l.into.items ≡ take l.object-index l.objects;
  len : vec_len l.into ≡ l.object-index;
  capacity : vec_capacity l.fn.into ≤ vec_capacity l.into;
}
