-- What the journal tells fits at the start, and all along each run.
use Rattle.std.proofs.Common.{ℕ, zero, suc, ◌≡◌, ◌≤◌, cond, Some, None, Ok, List, [], ◌∷◌, ◌++◌, map, replicate, slice_get, slice_set, arith, refl, sym, ap, subst, ◌∙◌}
use Rattle.std.specs.Option.{option_to_list}
use Rattle.std.proofs.lemmas.List.Sums.{sum_by-cons}
use Rattle.osc_word.specs.declared.settings.Config.{Config}
use Rattle.osc_word.specs.Limits.{first_fault}
use Rattle.osc_image.specs.Image.{Image}
use Rattle.osc_image.specs.Frames.{needed_frames}
use Rattle.osc_image.specs.Form.{image_of}
use Rattle.osc_calls.specs.declared.HartRecord.{HartRecord}
use Rattle.osc_calls.specs.declared.HartRecord.TheVariants.{Idle, Runs}
use Rattle.osc_calls.specs.Kernel.{KernelState, runs}
use Rattle.osc_calls.specs.Finish.{finish}
use Rattle.osc_calls.specs.Open.{open_kernel}
use Rattle.osc_settled.proofs.Laying.{ranges}
use Rattle.osc_settled.proofs.Lists.{some_same}
use Rattle.osc_machine.specs.Parts.{State}
use Rattle.osc_machine.specs.Step.{step}
use Rattle.osc_machine.specs.Run.{Ran, with_step, run_on, run}
use Rattle.osc_machine.specs.Start.{start_of}
use Rattle.osc_machine.specs.Laws.{kernels_held, HasKernel}
use Rattle.osc_machine.specs.Replay.{Ledger, first_ledger, noted_from, replay}
use Rattle.osc_machine.specs.Agreements.{account_told, account_kept}
use Rattle.osc_machine.proofs.KernelLaws.{start_has_kernel}
use Rattle.osc_safe.proofs.HoldingSteps.{steps_hold}
use Rattle.osc_safe.proofs.KernelRows.{kernels_step}
use Rattle.osc_safe.proofs.StandingSteps.{steps_stand}
use Rattle.osc_safe.proofs.StandingRuns.{Both, first_ran, started-both, both_on}
use Rattle.osc_ledger.specs.Replays.{ReplayFits, RunsFitReplay, RunsAgreeWithReplay}
use Rattle.osc_ledger.proofs.ThreadTells.{running}
use Rattle.osc_ledger.proofs.ReplaySteps.{IsUncommitted, uncommitted, step-goes}

-- ---- the start
none-run : (harts pid : ℕ) → running (replicate harts Idle) pid ≡ 0
none-run zero pid = refl
none-run (suc harts) pid =
    let sum = sum_by-cons (λ (r : HartRecord). cond (runs pid r) 1 0) Idle (replicate harts Idle) in let later = none-run harts pid in omega (arith, sum, later)

first-runs : (harts : ℕ) → 1 ≤ harts → running (slice_set (replicate harts Idle) 0 (Runs 0 None)) 0 ≡ 1
first-runs zero l = absurd (let z : ⊥ = omega (arith, l) in z)
first-runs (suc harts) l =
    let sum = sum_by-cons (λ (r : HartRecord). cond (runs 0 r) 1 0) (Runs 0 None) (replicate harts Idle) in let others = none-run harts 0 in omega (arith, sum, others)

pub opens-fit : (image : Image) (config : Config) → 1 ≤ config.harts → ReplayFits (open_kernel image config)
unfolding open_kernel finish noted_from
opens-fit image config some = record {
  accounts = refl;
  threads = λ pid l at goes. threads-fit pid l at;
  spawned = sum_by-cons (λ (l : Ledger). l.spawned) first_ledger [];
}
  where
    threads-fit : (pid : ℕ) (l : Ledger) → slice_get (first_ledger ∷ []) pid ≡ Some l → l.threads ≡ running (slice_set (replicate config.harts Idle) 0 (Runs 0 None)) pid
    threads-fit zero l at = ap (λ (m : Ledger). m.threads) (sym (some_same first_ledger l at)) ∙ sym (first-runs config.harts some)
    threads-fit (suc pid) l at = absurd (let z : ⊥ = grind (arith, at) in z)

-- ---- runs
-- the one kernel of a state
pub record Stand (config : Config) (s : State) : Type 0 where
  pub kernel : KernelState
  pub has : HasKernel s kernel
  pub fit : ReplayFits kernel
  pub same : kernel.config ≡ config

fit-on : (config : Config) (picks : List ℕ) (ran : Ran) → Both ran → Stand config ran.state → Stand config (run_on picks ran).state
unfolding run_on
fit-on config [] ran b w = w
fit-on config (n ∷ picks) ran b w =
    let g = kernels_step ran.state n w.kernel b.holds b.stands w.has in
    let on = step-goes g.fits.words w.kernel g.next (step ran.state n).shows g.fits.fits g.goes w.fit in
    fit-on config picks (with_step ran (step ran.state n)) (record { holds = steps_hold ran.state n b.holds; stands = steps_stand ran.state n b.holds b.stands })
    (record { kernel = g.next; has = g.has; fit = on.fits; same = on.config ∙ w.same })

opens-config : (image : Image) (config : Config) → (open_kernel image config).config ≡ config
unfolding open_kernel
opens-config image config = refl

starts-fit : (image : Image) (config : Config) → 1 ≤ config.harts → Stand config (start_of image config)
unfolding start_of
starts-fit image config some =
    record { kernel = open_kernel image config; has = start_has_kernel image config (open_kernel image config); fit = opens-fit image config some; same = opens-config image config }

pub stands-at : (file : List ℕ) (image : Image) (config : Config) (picks : List ℕ) → first_fault config ≡ None → image_of file ≡ Ok image → needed_frames config.levels image ≤ config.frames
    → Stand config (run (start_of image config) picks).state
stands-at file image config picks fit is_image room =
    fit-on config picks (first_ran image config) (started-both file image config fit is_image room) (starts-fit image config (let r = ranges config fit in let l = r.harts in omega (arith, l)))

the-kernel : (s : State) (j k : KernelState) → HasKernel s j → HasKernel s k → j ≡ k
the-kernel s j k a b = let same : j ∷ [] ≡ k ∷ [] = sym a.one ∙ b.one in (let q : j ≡ k = grind (arith, same) in q)

pub runs_fit_replay : RunsFitReplay
runs_fit_replay file image config picks k fit is_image room has =
    let w = stands-at file image config picks fit is_image room in subst ReplayFits (the-kernel _ w.kernel k w.has has) w.fit

pub runs_agree_with_replay : RunsAgreeWithReplay
runs_agree_with_replay file image config picks fit is_image room k home =
    let w = stands-at file image config picks fit is_image room in
    let b = both_on picks (first_ran image config) (started-both file image config fit is_image room) in
    let quiet = (b.stands.home k home).quiet in
    let is : w.kernel ≡ k = at-home w.kernel k (run (start_of image config) picks).state w.has home in
    let f : ReplayFits k = subst ReplayFits is w.fit in
    let same : k.config ≡ config = ap (λ (x : KernelState). x.config) (sym is) ∙ w.same in
    ap (λ c. map account_told (replay c k.journal)) (sym same) ∙ f.accounts ∙ ap (map account_kept) (uncommitted k (subst IsUncommitted (sym quiet) tt))
  where
    at-home : (j k : KernelState) (s : State) → HasKernel s j → s.kernel ≡ Some k → j ≡ k
    at-home j k s a e = one (kernels_held s.harts) (sym (ap (λ o. option_to_list o ++ kernels_held s.harts) e) ∙ a.one)
      where
        one : (rest : List KernelState) → k ∷ rest ≡ j ∷ [] → j ≡ k
        one rest f = let q : k ≡ j = cc in sym q
