use Rattle.osc_hart.specs.Within.{Driven}
use Rattle.osc_hart.proofs.tests.reserved.Given as goal

-- hart and box stay within the machine
abbrev pub invariant-steps : goal.invariant-steps
invariant-steps g l = Driven 64 l.hart.hart l.world.home

abbrev pub invariant-others : goal.invariant-others
invariant-others g l = Driven 64 l.hart.hart l.world.home
