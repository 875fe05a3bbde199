use Rattle.osc_hart.specs.Within.{Driven}
use Rattle.osc_bench.proofs.hart.stepped.Given as goal

-- hart and box stay within the machine
abbrev pub invariant-loop : goal.invariant-loop
invariant-loop l = Driven 5 l.hart.hart l.memory.home
