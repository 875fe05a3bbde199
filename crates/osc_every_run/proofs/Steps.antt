-- Each step keeps all that a run relies on, so each run does, and is safe.
use Rattle.std.proofs.Common.{ℕ, ◌≡◌, ◌≤◌, None, Ok, List, [], ◌∷◌, take, ap, ◌∙◌}
use Rattle.osc_word.specs.declared.settings.Config.{Config}
use Rattle.osc_word.specs.declared.settings.HeapKind.TheVariants.{Oscar}
use Rattle.osc_word.specs.Limits.{first_fault}
use Rattle.osc_image.specs.Image.{Image}
use Rattle.osc_image.specs.Frames.{needed_frames}
use Rattle.osc_image.specs.Form.{image_of}
use Rattle.osc_calls.specs.Kernel.{KernelState}
use Rattle.osc_calls.specs.Open.{open_kernel}
use Rattle.osc_machine.specs.Laws.{HasKernel}
use Rattle.osc_machine.specs.Parts.{State}
use Rattle.osc_machine.specs.Run.{Ran, with_step, run_on}
use Rattle.osc_machine.specs.Start.{start_of}
use Rattle.osc_machine.specs.Step.{step}
use Rattle.osc_machine.proofs.KernelLaws.{start_has_kernel}
use Rattle.osc_safe.proofs.HoldingSteps.{steps_hold}
use Rattle.osc_safe.proofs.KernelRows.{kernels_step}
use Rattle.osc_safe.proofs.StandingRuns.{first_ran, started-both}
use Rattle.osc_safe.proofs.StandingSteps.{steps_stand}
use Rattle.osc_records.proofs.Runs.{runs_record}
use Rattle.osc_records.proofs.Steps.{steps_record}
use Rattle.osc_blocks.proofs.BlockSteps.{steps_keep_blocks}
use Rattle.osc_blocks.proofs.ConfigSteps.{steps_keep_config, runs_keep_config}
use Rattle.osc_blocks.proofs.ReplacedSteps.{steps_keep_replaced, runs_keep_replaced}
use Rattle.osc_relying.specs.Relying.{Relies}
use Rattle.osc_relying.specs.SafeWhere.{ReliesAt}
use Rattle.osc_relying.proofs.LevelSteps.{steps_keep_levels}
use Rattle.osc_relying.proofs.SafeWhere.{safe_where_relying}
use Rattle.osc_relying.proofs.ShutSteps.{steps_shut}
use Rattle.osc_relying.proofs.StartRelies.{starts_rely}
use Rattle.osc_lasting.specs.Lasting.{StepsLast}
use Rattle.osc_lasting.proofs.BeginSteps.{begins_last}
use Rattle.osc_lasting.proofs.PlanSteps.{plans_last}
use Rattle.osc_lasting.proofs.JobSteps.{jobs_last}
use Rattle.osc_lasting.proofs.FinishSteps.{finishes_last}
use Rattle.osc_stored.proofs.BesideSteps.{steps_keep_beside, runs_fit_beside}
use Rattle.osc_stored.proofs.Storing.{stores_keep}
use Rattle.osc_walks.specs.Walking.{Walkable}
use Rattle.osc_walks.proofs.Canonical.{steps_stay_canonical, runs_stay_canonical}
use Rattle.osc_walks.proofs.Roots.{steps_keep_roots, start_roots_open}
use Rattle.osc_walks.proofs.Walking.{walks_keep}
use Rattle.osc_boxes.proofs.BoxSteps.{steps_keep_boxes}
use Rattle.osc_every_run.specs.EveryRun.{RunsRely, EveryRunIsSafe}

steps_last : StepsLast
steps_last = record { begins = begins_last; plans = plans_last; jobs = jobs_last; finishes = finishes_last }

-- a state with its kernel, and what a run keeps of them
record Goes (s : State) : Type 0 where
  kernel : KernelState
  keeps : Walkable s kernel

-- ---- one step
step-goes : (s : State) (n : ℕ) → Goes s → Goes (step s n).state
step-goes s n g =
    let k = g.kernel in
    let w = g.keeps in
    let to = kernels_step s n k w.holds w.stands w.has in
    let now = to.next in
    let shows = (step s n).shows in
    let fits = to.fits in
    let r = w.relies in
    let stored = stores_keep s n k w.holds w.stands w.has w.heap r w.beside in
    let walks = walks_keep steps_last s n k now w to.has in
    let boxes = steps_keep_boxes s n k now steps_last w.holds w.stands w.recorded w.has w.heap w.replaced r to.has (walks n) in record {
      kernel = now;
      keeps = record {
        holds = steps_hold s n w.holds;
        stands = steps_stand s n w.holds w.stands;
        recorded = steps_record s n w.holds w.stands w.recorded;
        has = to.has;
        heap = ap (λ (z : Config). z.heap) (steps_keep_config k now shows to.goes) ∙ w.heap;
        relies = record {
          words = stored.agree;
          shows = stored.show;
          boxes = boxes.boxes;
          starts = boxes.starts;
          walks = walks;
          levels = steps_keep_levels k now shows to.goes r.levels;
          blocks = steps_keep_blocks fits.words k now shows fits.fits w.heap to.goes r.blocks;
          shut = steps_shut s n w.holds w.stands w.recorded r.shut;
        };
        canonical = steps_stay_canonical s n w.canonical;
        beside = steps_keep_beside k now shows fits to.goes w.beside;
        roots = steps_keep_roots k now shows fits w.heap to.goes w.roots;
        replaced = steps_keep_replaced k now shows to.goes w.replaced;
      };
    }

-- ---- runs
goes-on : (picks : List ℕ) (ran : Ran) → Goes ran.state → Goes (run_on picks ran).state
unfolding run_on
goes-on [] ran g = g
goes-on (n ∷ picks) ran g = goes-on picks (with_step ran (step ran.state n)) (step-goes ran.state n g)

opened : (image : Image) (config : Config) → HasKernel (start_of image config) (open_kernel image config)
unfolding start_of
opened image config = start_has_kernel image config (open_kernel image config)

starts-going : (file : List ℕ) (image : Image) (config : Config) → first_fault config ≡ None → image_of file ≡ Ok image → needed_frames config.levels image ≤ config.frames → config.heap ≡ Oscar
    → Goes (first_ran image config).state
unfolding run_on
starts-going file image config fit is_image room oscar =
    let k = open_kernel image config in
    let both = started-both file image config fit is_image room in
    let has = opened image config in record {
      kernel = k;
      keeps = record {
        holds = both.holds;
        stands = both.stands;
        recorded = runs_record file image config [] fit is_image room;
        has = has;
        heap = ap (λ (z : Config). z.heap) (runs_keep_config file image config [] k fit is_image room has) ∙ oscar;
        relies = starts_rely file image config fit is_image room oscar;
        canonical = runs_stay_canonical file image config [] fit is_image room;
        beside = runs_fit_beside file image config [] k fit is_image room has;
        roots = start_roots_open image config;
        replaced = runs_keep_replaced file image config [] k fit is_image room has;
      };
    }

pub runs_rely : RunsRely
runs_rely file image config picks fit is_image room oscar =
    let g = goes-on picks (first_ran image config) (starts-going file image config fit is_image room oscar) in
    let w = g.keeps in record { kernel = g.kernel; has = w.has; heap = w.heap; relies = w.relies }

pub every_run_is_safe : EveryRunIsSafe
every_run_is_safe file image config picks fit is_image room oscar =
    safe_where_relying file image config picks fit is_image room (λ i. runs_rely file image config (take i picks) fit is_image room oscar)
