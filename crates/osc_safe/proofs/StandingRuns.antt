-- The kernel fits at the start, and all along each run.
use Rattle.std.proofs.Common.{ℕ, ◌+◌, ◌≡◌, ◌≤◌, None, Ok, List, [], ◌∷◌, arith, refl, subst}
use Rattle.osc_word.specs.declared.settings.Config.{Config}
use Rattle.osc_word.specs.declared.orders.Start.{Start}
use Rattle.osc_word.specs.Limits.{first_fault}
use Rattle.osc_image.specs.Image.{Image}
use Rattle.osc_image.specs.Frames.{needed_frames}
use Rattle.osc_image.specs.Form.{image_of}
use Rattle.osc_calls.specs.Kernel.{KernelState, Quiet}
use Rattle.osc_calls.specs.Open.{open_kernel, open_start}
use Rattle.osc_settled.proofs.ImageStart.{images_start}
use Rattle.osc_machine.specs.Step.{step}
use Rattle.osc_machine.specs.Run.{Ran, with_step, run_on}
use Rattle.osc_machine.specs.Start.{first_hart, started, start_of}
use Rattle.osc_safe.specs.Holding.{Holds}
use Rattle.osc_safe.specs.Standing.{AtHome, HandStands, Stands, RunsStand}
use Rattle.osc_safe.proofs.HoldingSteps.{steps_hold}
use Rattle.osc_safe.proofs.HoldingRuns.{each-first, runs_hold}
use Rattle.osc_safe.proofs.StandingSteps.{steps_stand}

-- ---- the start
opens-quiet : (image : Image) (config : Config) → (open_kernel image config).under_way ≡ Quiet
unfolding open_kernel
opens-quiet image config = refl

first-hand : (config : Config) (start : Start) (n : ℕ) → HandStands n (first_hart config start n)
first-hand config start n k e = absurd (let b : ⊥ = grind (arith, e) in b)

started-stands : (image : Image) (config : Config) (kernel : KernelState) → AtHome kernel → Stands (started image config kernel)
started-stands image config kernel home = record {
  home = λ k e. (let same : kernel ≡ k = grind (arith, e) in subst AtHome same home);
  hand = λ n h e. (let same : 0 + n ≡ n = omega arith in subst (λ z. HandStands z h) same (each-first HandStands config (open_start image kernel) (first-hand config (open_start image kernel)) 0 config.harts n h e));
}

-- ---- runs
-- both go on together
pub record Both (ran : Ran) : Type 0 where
  pub holds : Holds ran.state
  pub stands : Stands ran.state

pub both_on : (picks : List ℕ) (ran : Ran) → Both ran → Both (run_on picks ran)
unfolding run_on
both_on [] ran b = b
both_on (n ∷ picks) ran b =
    both_on picks (with_step ran (step ran.state n)) (record { holds = steps_hold ran.state n b.holds; stands = steps_stand ran.state n b.holds b.stands })

-- the machine before its first step
abbrev pub first_ran : Image → Config → Ran
first_ran image config = record { state = start_of image config; commits = []; trace = [] }

pub started-both : (file : List ℕ) (image : Image) (config : Config) → first_fault config ≡ None → image_of file ≡ Ok image → needed_frames config.levels image ≤ config.frames → Both (first_ran image config)
unfolding start_of run_on
started-both file image config fit is_image room =
    let kernel = open_kernel image config in
    let fits = images_start file image config fit is_image room in record {
      holds = runs_hold image config kernel [];
      stands = started-stands image config kernel (record { fits = record { words = _; fits = fits }; quiet = opens-quiet image config });
    }

pub runs_stand : RunsStand
runs_stand file image config picks fit is_image room = let b = both_on picks (first_ran image config) (started-both file image config fit is_image room) in b.stands
