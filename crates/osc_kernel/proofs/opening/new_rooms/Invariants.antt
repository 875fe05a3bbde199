-- The rooms so far.
use Rattle.std.proofs.Common.{◌≡◌, replicate}
use Rattle.osc_process.specs.Parts.{unused}
use Rattle.osc_kernel.proofs.opening.new_rooms.Given as goal

abbrev pub invariant-loop-made : goal.invariant-loop-made
invariant-loop-made l = l.rooms.items ≡ replicate l._made (unused l.config.levels l.config.frames l.config.shadows)
