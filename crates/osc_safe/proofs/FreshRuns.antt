-- No page is granted twice, all along a run.
use Rattle.std.proofs.Common.{ℕ, List, [], ◌∷◌}
use Rattle.osc_machine.specs.DeadPages.{no_past, pasts_from}
use Rattle.osc_machine.specs.Step.{step}
use Rattle.osc_machine.specs.Run.{Ran, with_step, run_on, run}
use Rattle.osc_machine.specs.Start.{start_of}
use Rattle.osc_safe.specs.Fresh.{RunsGrantOnce}
use Rattle.osc_safe.proofs.KernelRows.{kernels_step}
use Rattle.osc_safe.proofs.StandingRuns.{first_ran}
use Rattle.osc_safe.proofs.TellingRuns.{Known, known-step, first-known}
use Rattle.osc_safe.proofs.FreshGrants.{FreshIn, fresh-append, fresh-trace, step-fresh}

fresh-step : (ran : Ran) (n : ℕ) → Known ran → FreshIn (no_past ∷ []) ran.trace → FreshIn (no_past ∷ []) (with_step ran (step ran.state n)).trace
fresh-step ran n k f =
    let g = kernels_step ran.state n k.kernel k.both.holds k.both.stands k.has in
    fresh-append ran.trace (step ran.state n).shows (no_past ∷ []) f
    (step-fresh (pasts_from (no_past ∷ []) ran.trace) k.kernel g.next (step ran.state n).shows g.fits k.told g.goes)

fresh-on : (picks : List ℕ) (ran : Ran) → Known ran → FreshIn (no_past ∷ []) ran.trace → FreshIn (no_past ∷ []) (run_on picks ran).trace
unfolding run_on
fresh-on [] ran k f = f
fresh-on (n ∷ picks) ran k f = fresh-on picks (with_step ran (step ran.state n)) (known-step ran n k) (fresh-step ran n k f)

pub runs_grant_once : RunsGrantOnce
runs_grant_once file image config picks fit is_image room =
    fresh-trace (run (start_of image config) picks).trace (fresh-on picks (first_ran image config) (first-known file image config fit is_image room) tt)
