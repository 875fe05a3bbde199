-- A write stands all along each run.
use Rattle.std.proofs.Common.{ℕ, ◌≡◌, List, [], ◌∷◌, arith, sym, subst, ◌∙◌}
use Rattle.osc_word.specs.declared.settings.Config.{Config}
use Rattle.osc_image.specs.Image.{Image}
use Rattle.osc_calls.specs.Kernel.{KernelState}
use Rattle.osc_calls.specs.Open.{open_kernel}
use Rattle.osc_machine.specs.Parts.{State}
use Rattle.osc_machine.specs.Step.{step}
use Rattle.osc_machine.specs.Run.{Ran, with_step, run_on}
use Rattle.osc_machine.specs.Start.{start_of}
use Rattle.osc_machine.specs.Laws.{HasKernel}
use Rattle.osc_machine.proofs.KernelLaws.{start_has_kernel}
use Rattle.osc_safe.proofs.HoldingSteps.{steps_hold}
use Rattle.osc_safe.proofs.KernelRows.{kernels_step}
use Rattle.osc_safe.proofs.StandingSteps.{steps_stand}
use Rattle.osc_safe.proofs.StandingRuns.{Both, first_ran, started-both}
use Rattle.osc_written.specs.Written.{Written, RunsWrite}
use Rattle.osc_written.proofs.WrittenRows.{step-writes}

-- the one kernel of a state stands
record Stand (s : State) : Type 0 where
  kernel : KernelState
  has : HasKernel s kernel
  written : Written kernel

writes-on : (picks : List ℕ) (ran : Ran) → Both ran → Stand ran.state → Stand (run_on picks ran).state
unfolding run_on
writes-on [] ran b w = w
writes-on (n ∷ picks) ran b w =
    let g = kernels_step ran.state n w.kernel b.holds b.stands w.has in
    writes-on picks (with_step ran (step ran.state n)) (record { holds = steps_hold ran.state n b.holds; stands = steps_stand ran.state n b.holds b.stands })
    (record { kernel = g.next; has = g.has; written = step-writes w.kernel g.next (step ran.state n).shows g.fits g.goes w.written })

opens-written : (image : Image) (config : Config) → Written (open_kernel image config)
unfolding open_kernel
opens-written image config done p buf len total e = absurd (let b : ⊥ = grind (arith, e) in b)

starts-written : (image : Image) (config : Config) → Stand (start_of image config)
unfolding start_of
starts-written image config = record { kernel = open_kernel image config; has = start_has_kernel image config (open_kernel image config); written = opens-written image config }

pub runs_write : RunsWrite
runs_write file image config picks k fit is_image room has =
    let w = writes-on picks (first_ran image config) (started-both file image config fit is_image room) (starts-written image config) in
    let own = w.has in
    let same : w.kernel ∷ [] ≡ k ∷ [] = sym own.one ∙ has.one in
    subst Written (let q : w.kernel ≡ k = grind (arith, same) in q) w.written
