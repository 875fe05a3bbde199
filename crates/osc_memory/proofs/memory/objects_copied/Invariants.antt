use Rattle.std.proofs.Common.{◌≡◌, take}
use Rattle.osc_memory.proofs.memory.objects_copied.Given as goal

abbrev pub invariant-loop-object : goal.invariant-loop-object
invariant-loop-object l = l.copy.items ≡ take l.object-index l.objects
