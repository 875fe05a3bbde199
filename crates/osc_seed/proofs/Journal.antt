-- The journal of a run from the start tells what the kernel keeps, and memory is refused by it.
use Rattle.std.proofs.Common.{ℕ, List, sym, subst}
use Rattle.osc_machine.specs.Parts.{State}
use Rattle.osc_machine.specs.Agreements.{ReplayAgrees}
use Rattle.osc_machine.specs.Refusals.{setting_of, RefusesByRule}
use Rattle.osc_machine.specs.Run.{run}
use Rattle.osc_ledger.proofs.ReplayRuns.{runs_agree_with_replay}
use Rattle.osc_refusals.proofs.Rule.{runs_refuse_by_rule}
use Rattle.osc_seed.specs.Seeded.{ToldFromStart, RefusedFromStart}

pub told-from-start : (s : State) (made : List ℕ) → ToldFromStart s made
told-from-start s made file image config fit is_image room same =
    subst (λ (z : State). ReplayAgrees config (run z made).state) (sym same) (runs_agree_with_replay file image config made fit is_image room)

pub refused-from-start : (s : State) (made : List ℕ) → RefusedFromStart s made
refused-from-start s made file image config fit is_image room same =
    subst (λ (z : State). RefusesByRule (setting_of image config) z made) (sym same) (runs_refuse_by_rule file image config made fit is_image room)
