use Rattle.std.proofs.Common.{ap, sym, ◌∙◌}
use Rattle.osc_core.specs.Shared.{Seen}
use Rattle.osc_judged.proofs.Following.{judged_step, judged_still}
use Rattle.osc_judged.proofs.judged.judged_step.Goals as goal

pub returns-in_ok-step-in-Some-clause-world : goal.returns-in_ok-step-in-Some-clause-world
returns-in_ok-step-in-Some-clause-world c =
    judged_step _ _ _ _ (sym (ap (λ (x : Seen). x.event) c.step.ensures.step) ∙ c.in-Some.is) c.in_ok-step-in-Some.ensures.run

pub returns-in-None-clause-world : goal.returns-in-None-clause-world
returns-in-None-clause-world c = judged_still _ _ (sym (ap (λ (x : Seen). x.event) c.step.ensures.step) ∙ c.in-None.is)
