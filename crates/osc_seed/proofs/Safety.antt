-- A run from the start on the heap with shadows is safe.
use Rattle.std.proofs.Common.{ℕ, List, sym, subst}
use Rattle.osc_machine.specs.Parts.{State}
use Rattle.osc_machine.specs.Safe.{Safe}
use Rattle.osc_every_run.proofs.Steps.{every_run_is_safe}
use Rattle.osc_seed.specs.Seeded.{SafeFromStart}

pub safe-from-start : (s : State) (made : List ℕ) → SafeFromStart s made
safe-from-start s made file image config fit is_image room oscar same =
    subst (λ (z : State). Safe z made) (sym same) (every_run_is_safe file image config made fit is_image room oscar)
