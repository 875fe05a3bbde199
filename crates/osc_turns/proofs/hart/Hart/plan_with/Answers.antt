-- A call that is planned.
use Rattle.std.proofs.Common.{true, Some, ◌∙◌, ap}
use Rattle.std.specs.Option.{option_to_list}
use Rattle.osc_word.specs.declared.settings.Config.{Config}
use Rattle.osc_calls.specs.Kernel.{KernelState}
use Rattle.osc_turns.proofs.Config.{plan_kept}
use Rattle.osc_turns.specs.Seen.{planned_with, place_seen}
use Rattle.osc_turns.proofs.Begun.{plan_commits}
use Rattle.osc_turns.proofs.Labels.{plan_labelled}
use Rattle.osc_turns.proofs.Turning.{goes_on}
use Rattle.osc_turns.proofs.hart.Hart.plan_with.Goals as goal

pub place_on-place-requires-clause-commits : goal.place_on-place-requires-clause-commits
place_on-place-requires-clause-commits c = rw c.plan.ensures.kernel (plan_commits _ c.args.kernel.kernel c.requires.waits)

pub go_on-requires-clause-commits : goal.go_on-requires-clause-commits
go_on-requires-clause-commits c t = rw c.plan.ensures.kernel (plan_commits _ c.args.kernel.kernel c.requires.waits)

pub returns : goal.returns
returns c =
    c.go_on.ensures (planned_with c.args.found c.args.kernel.kernel).shows (plan_labelled _ c.args.kernel.kernel c.label-label.result (ap option_to_list c.label-label.ensures ∙ c.plan.ensures.shown))
    ∙ goes_on c.args.self.now true (planned_with c.args.found c.args.kernel.kernel) c.plan.new.self.kernel (place_seen c.place_on-place.result (Some c.plan.new.self)) c.boxes.result.now c.plan.ensures.kernel c.place_on-place.ensures.place c.boxes.ensures.boxes

pub go_on-requires-clause-counted : goal.go_on-requires-clause-counted
go_on-requires-clause-counted c = ap (λ (k : KernelState). k.config.harts) c.plan.ensures.kernel ∙ ap (λ (f : Config). f.harts) (plan_kept _ c.args.kernel.kernel) ∙ c.requires.counted
