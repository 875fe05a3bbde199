-- What each step of the kernel keeps holds all along each run.
use Rattle.std.proofs.Common.{ℕ, ◌≡◌, ◌≤◌, None, Ok, List, [], ◌∷◌, arith, sym, subst, ◌∙◌}
use Rattle.osc_word.specs.declared.settings.Config.{Config}
use Rattle.osc_word.specs.declared.steps.Label.{Label}
use Rattle.osc_word.specs.Limits.{first_fault}
use Rattle.osc_image.specs.Image.{Image}
use Rattle.osc_image.specs.Frames.{needed_frames}
use Rattle.osc_image.specs.Form.{image_of}
use Rattle.osc_calls.specs.Kernel.{KernelState}
use Rattle.osc_calls.specs.Open.{open_kernel}
use Rattle.osc_settled.specs.KernelFits.{KernelFits}
use Rattle.osc_machine.specs.Parts.{State}
use Rattle.osc_machine.specs.Step.{step}
use Rattle.osc_machine.specs.Run.{Ran, with_step, run, run_on}
use Rattle.osc_machine.specs.Start.{start_of}
use Rattle.osc_machine.specs.Laws.{HasKernel}
use Rattle.osc_machine.proofs.KernelLaws.{start_has_kernel}
use Rattle.osc_safe.specs.KernelSteps.{KernelStep}
use Rattle.osc_safe.proofs.HoldingSteps.{steps_hold}
use Rattle.osc_safe.proofs.KernelRows.{kernels_step}
use Rattle.osc_safe.proofs.StandingSteps.{steps_stand}
use Rattle.osc_safe.proofs.StandingRuns.{Both, first_ran, started-both}

abbrev pub StepsKeep : (KernelState → Type 0) → Type 0
StepsKeep P = (words : List ℕ) (old new : KernelState) (shows : List Label) → KernelFits words old → KernelStep old new shows → P old → P new

-- the one kernel of a state
record Stand (P : KernelState → Type 0) (s : State) : Type 0 where
  kernel : KernelState
  has : HasKernel s kernel
  it : P kernel

keep-on : (P : KernelState → Type 0) → StepsKeep P → (picks : List ℕ) (ran : Ran) → Both ran → Stand P ran.state → Stand P (run_on picks ran).state
unfolding run_on
keep-on P keeps [] ran b w = w
keep-on P keeps (n ∷ picks) ran b w =
    let g = kernels_step ran.state n w.kernel b.holds b.stands w.has in
    let f = g.fits in
    keep-on P keeps picks (with_step ran (step ran.state n)) (record { holds = steps_hold ran.state n b.holds; stands = steps_stand ran.state n b.holds b.stands })
    (record { kernel = g.next; has = g.has; it = keeps f.words w.kernel g.next (step ran.state n).shows f.fits g.goes w.it })

starts : (P : KernelState → Type 0) (image : Image) (config : Config) → P (open_kernel image config) → Stand P (start_of image config)
unfolding start_of
starts P image config it = record { kernel = open_kernel image config; has = start_has_kernel image config (open_kernel image config); it = it }

pub runs-keep : (P : KernelState → Type 0) → StepsKeep P → (file : List ℕ) (image : Image) (config : Config) (picks : List ℕ) (k : KernelState)
    → first_fault config ≡ None → image_of file ≡ Ok image → needed_frames config.levels image ≤ config.frames
    → P (open_kernel image config) → HasKernel (run (start_of image config) picks).state k → P k
runs-keep P keeps file image config picks k fit is_image room it has =
    let w = keep-on P keeps picks (first_ran image config) (started-both file image config fit is_image room) (starts P image config it) in
    let own = w.has in
    let same : w.kernel ∷ [] ≡ k ∷ [] = sym own.one ∙ has.one in
    subst P (let q : w.kernel ≡ k = grind (arith, same) in q) w.it
