use Rattle.std.proofs.Common.{◌≡◌, drop}
use Rattle.osc_machine.specs.Views.{held_kernel}
use Rattle.osc_core.proofs.counts.kernel_held.Given as goal

abbrev pub invariant-loop-hart : goal.invariant-loop-hart
invariant-loop-hart l = held_kernel (drop l.hart-index l.harts) ≡ held_kernel l.harts
