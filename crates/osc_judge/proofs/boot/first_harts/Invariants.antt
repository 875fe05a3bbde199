use Rattle.std.proofs.Common.{◌≡◌, ◌∷◌, replicate}
use Rattle.osc_world.specs.declared.Value.TheVariants.{Num}
use Rattle.osc_world.specs.States.{boot_hart, idle}
use Rattle.osc_judge.proofs.boot.first_harts.Given as goal

abbrev pub invariant-loop : goal.invariant-loop
invariant-loop l = l.harts.items ≡ boot_hart Num l.entry ∷ replicate l.counter idle
