-- What a run has shown is true of the objects, all along it.
use Rattle.std.proofs.Common.{ℕ, zero, suc, ◌≡◌, ◌≤◌, ◌==◌, true, false, Some, None, Ok, List, [], ◌∷◌, length, slice_get, arith, refl, sym, ap, subst, ◌∙◌}
use Rattle.std.specs.List.{list_any}
use Rattle.osc_word.specs.declared.settings.Config.{Config}
use Rattle.osc_word.specs.declared.steps.Label.{Label}
use Rattle.osc_word.specs.Limits.{first_fault}
use Rattle.osc_image.specs.Image.{Image}
use Rattle.osc_image.specs.Frames.{needed_frames}
use Rattle.osc_image.specs.Form.{image_of}
use Rattle.osc_space.specs.Agree.{is_waiting}
use Rattle.osc_calls.specs.Kernel.{KernelState, Process}
use Rattle.osc_calls.specs.Open.{open_kernel}
use Rattle.osc_machine.specs.Parts.{State}
use Rattle.osc_machine.specs.Step.{step}
use Rattle.osc_machine.specs.Run.{Ran, with_step, run_on, run}
use Rattle.osc_machine.specs.Start.{start_of}
use Rattle.osc_machine.specs.Laws.{HasKernel}
use Rattle.osc_machine.specs.DeadPages.{Past, no_past, past_of, pasts_from}
use Rattle.osc_machine.proofs.KernelLaws.{start_has_kernel}
use Rattle.osc_safe.specs.KernelSteps.{KernelStep, Kept, Begins, Plans, EndsJob, Finishes}
use Rattle.osc_safe.specs.Telling.{PastFits, IsDead, KernelTold, RunsTell}
use Rattle.osc_safe.proofs.HoldingSteps.{steps_hold}
use Rattle.osc_safe.proofs.StandingSteps.{steps_stand}
use Rattle.osc_safe.proofs.KernelRows.{kernels_step}
use Rattle.osc_safe.proofs.StandingRuns.{Both, first_ran, started-both}
use Rattle.osc_safe.proofs.Tells.{touches-keep, rests-of, told-of}
use Rattle.osc_safe.proofs.FinishTells.{labels-on, begun-tells, planned-tells, done-tells, finished-tells}

-- ---- a step
pub step-tells : (pasts : List Past) (old new : KernelState) (shows : List Label) → KernelTold pasts old → KernelStep old new shows → KernelTold (pasts_from pasts shows) new
step-tells pasts old new shows t (Kept e q) = rw e (subst (λ z. KernelTold z old) (sym (touches-keep shows pasts q)) t)
step-tells pasts old new shows t (Begins hart regs pc asked u e f) = rw (e, f) (begun-tells hart regs pc asked pasts old (rests-of pasts old t))
step-tells pasts old new shows t (Plans found c u e f) = rw (e, f) (planned-tells pasts old c found u (rests-of pasts old t))
step-tells pasts old new shows t (EndsJob word job n e f) = rw (e, f) (done-tells word pasts old t)
step-tells pasts old new shows t (Finishes n e f) = rw (e, f) (finished-tells pasts old t)

-- ---- runs
-- a machine whose kernel is known, with what it has shown
pub record Known (ran : Ran) : Type 0 where
  pub both : Both ran
  pub kernel : KernelState
  pub has : HasKernel ran.state kernel
  pub told : KernelTold (pasts_from (no_past ∷ []) ran.trace) kernel

pub known-step : (ran : Ran) (n : ℕ) → Known ran → Known (with_step ran (step ran.state n))
known-step ran n k =
    let g = kernels_step ran.state n k.kernel k.both.holds k.both.stands k.has in record {
      both = record { holds = steps_hold ran.state n k.both.holds; stands = steps_stand ran.state n k.both.holds k.both.stands };
      kernel = g.next;
      has = g.has;
      told = subst (λ z. KernelTold z g.next) (sym (labels-on ran.trace (step ran.state n).shows (no_past ∷ [])))
          (step-tells (pasts_from (no_past ∷ []) ran.trace) k.kernel g.next (step ran.state n).shows k.told g.goes);
    }

pub known-on : (picks : List ℕ) (ran : Ran) → Known ran → Known (run_on picks ran)
unfolding run_on
known-on [] ran k = k
known-on (n ∷ picks) ran k = known-on picks (with_step ran (step ran.state n)) (known-step ran n k)

-- ---- the start
no-past : (x p : Process) → x.space.objects ≡ [] → Some x ≡ Some p → PastFits p.space (length p.space.objects) no_past
no-past x p o e = record {
  granted = λ i z d. absurd (let b : ⊥ = grind (arith, d) in b);
  waiting = λ i z d. absurd (let b : ⊥ = grind (arith, d) in b);
  dead = λ i z d. absurd (let b : ⊥ = grind (arith, d) in b);
  over = λ i z d. absurd (let b : ⊥ = grind (arith, d) in b);
}

none-waits : (x p : Process) (object : ℕ) → x.space.waiting ≡ [] → Some x ≡ Some p → is_waiting p.space object ≡ true → ⊥
none-waits x p object o e w =
    let same : x ≡ p = grind (arith, e) in
    let none : is_waiting p.space object ≡ false = ap (λ (z : Process). is_waiting z.space object) (sym same) ∙ ap (λ ws. list_any (λ waits. waits == object) ws) o in
    grind (arith, none, w)

first-each : (image : Image) (config : Config) (pid : ℕ) (p : Process) → slice_get (open_kernel image config).processes pid ≡ Some p → PastFits p.space (length p.space.objects) (past_of (no_past ∷ []) pid)
unfolding open_kernel
first-each image config zero p e = no-past _ p refl e
first-each image config (suc pid) p e = absurd (let b : ⊥ = grind (arith, e) in b)

first-waits : (image : Image) (config : Config) (pid object : ℕ) (p : Process) → slice_get (open_kernel image config).processes pid ≡ Some p → is_waiting p.space object ≡ true → IsDead p.space.objects object
unfolding open_kernel
first-waits image config zero object p e w = absurd (none-waits _ p object refl e w)
first-waits image config (suc pid) object p e w = absurd (let b : ⊥ = grind (arith, e) in b)

first-told : (image : Image) (config : Config) → KernelTold (no_past ∷ []) (open_kernel image config)
unfolding open_kernel
first-told image config = told-of (no_past ∷ []) (open_kernel image config) refl (record { count = refl; each = first-each image config; waits = first-waits image config })

pub first-known : (file : List ℕ) (image : Image) (config : Config) → first_fault config ≡ None → image_of file ≡ Ok image → needed_frames config.levels image ≤ config.frames → Known (first_ran image config)
unfolding start_of
first-known file image config fit is_image room = record {
  both = started-both file image config fit is_image room;
  kernel = open_kernel image config;
  has = start_has_kernel image config (open_kernel image config);
  told = first-told image config;
}

only-one : (s : State) (a b : KernelState) → HasKernel s a → HasKernel s b → a ≡ b
only-one s a b p q = let e : a ∷ [] ≡ b ∷ [] = sym p.one ∙ q.one in grind (arith, e)

pub runs_tell : RunsTell
runs_tell file image config picks fit is_image room k has =
    let known = known-on picks (first_ran image config) (first-known file image config fit is_image room) in
    subst (KernelTold (pasts_from (no_past ∷ []) (run (start_of image config) picks).trace)) (only-one (run (start_of image config) picks).state known.kernel k known.has has) known.told
