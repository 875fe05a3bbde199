use Rattle.osc_hart.specs.Within.{Driven}
use Rattle.osc_hart.proofs.tests.expect_asks.Given as goal

-- hart and box stay within the machine
abbrev pub invariant-loop-ask : goal.invariant-loop-ask
invariant-loop-ask g l = Driven 64 l.hart.hart l.world.home
