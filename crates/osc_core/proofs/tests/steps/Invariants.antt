-- The machine stays sound.
use Rattle.osc_core.specs.Shared.{state_of}
use Rattle.osc_core.specs.Sound.{Sound}
use Rattle.osc_core.proofs.tests.steps.Given as goal

abbrev pub invariant-loop-made : goal.invariant-loop-made
invariant-loop-made l = Sound (state_of l.machine l.harts)
