-- In every run each process has the tables that the journal tells.
use Rattle.std.proofs.Common.{ℕ, ◌≡◌, ◌≤◌, None, Ok, List, [], ◌∷◌, arith, subst}
use Rattle.osc_word.specs.declared.settings.Config.{Config}
use Rattle.osc_word.specs.Limits.{first_fault}
use Rattle.osc_image.specs.Image.{Image, pages}
use Rattle.osc_image.specs.Frames.{needed_frames}
use Rattle.osc_image.specs.Form.{image_of}
use Rattle.osc_calls.specs.Kernel.{KernelState}
use Rattle.osc_calls.specs.Open.{open_kernel}
use Rattle.osc_settled.proofs.Laying.{ranges}
use Rattle.osc_machine.specs.Parts.{State}
use Rattle.osc_machine.specs.Step.{step}
use Rattle.osc_machine.specs.Run.{Ran, with_step, run_on}
use Rattle.osc_machine.specs.Start.{start_of}
use Rattle.osc_machine.specs.Laws.{HasKernel}
use Rattle.osc_machine.proofs.KernelLaws.{start_has_kernel}
use Rattle.osc_safe.proofs.HoldingSteps.{steps_hold}
use Rattle.osc_safe.proofs.KernelRows.{kernels_step}
use Rattle.osc_safe.proofs.StandingSteps.{steps_stand}
use Rattle.osc_safe.proofs.StandingRuns.{Both, first_ran, started-both}
use Rattle.osc_ledger.specs.Replays.{ReplayFits}
use Rattle.osc_ledger.proofs.ReplaySteps.{step-goes}
use Rattle.osc_ledger.proofs.ReplayRuns.{opens-fit}
use Rattle.osc_counted.proofs.ImageSteps.{the-kernel}
use Rattle.osc_tabled.specs.Tabled.{TablesFit, RunsFitTables}
use Rattle.osc_tabled.proofs.StartTables.{starts_fit_tables}
use Rattle.osc_tabled.proofs.TableSteps.{steps_keep_tables}

-- the one kernel of a state
record Stand (image : List ℕ) (s : State) : Type 0 where
  kernel : KernelState
  has : HasKernel s kernel
  told : ReplayFits kernel
  tabled : TablesFit image kernel

fit-on : (image picks : List ℕ) (ran : Ran) → Both ran → Stand image ran.state → Stand image (run_on picks ran).state
unfolding run_on
fit-on image [] ran b w = w
fit-on image (n ∷ picks) ran b w =
    let g = kernels_step ran.state n w.kernel b.holds b.stands w.has in
    fit-on image picks (with_step ran (step ran.state n)) (record { holds = steps_hold ran.state n b.holds; stands = steps_stand ran.state n b.holds b.stands })
    (record {
      kernel = g.next;
      has = g.has;
      told = (step-goes g.fits.words w.kernel g.next (step ran.state n).shows g.fits.fits g.goes w.told).fits;
      tabled = steps_keep_tables g.fits.words image w.kernel g.next (step ran.state n).shows g.fits.fits g.goes w.told w.tabled;
    })

starts-fit : (image : Image) (config : Config) → 1 ≤ config.harts → TablesFit (pages image) (open_kernel image config) → Stand (pages image) (start_of image config)
unfolding start_of
starts-fit image config some tabled =
    record { kernel = open_kernel image config; has = start_has_kernel image config (open_kernel image config); told = opens-fit image config some; tabled = tabled }

pub runs_fit_tables : RunsFitTables
runs_fit_tables file image config picks k valid taken enough has =
    let w = fit-on (pages image) picks (first_ran image config) (started-both file image config valid taken enough)
    (starts-fit image config (let r = ranges config valid in let l = r.harts in omega (arith, l)) (starts_fit_tables file image config valid taken enough)) in
    subst (TablesFit (pages image)) (the-kernel _ w.kernel k w.has has) w.tabled
