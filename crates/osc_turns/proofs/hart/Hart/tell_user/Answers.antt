-- A hart outside a call.
use Rattle.std.proofs.Common.{◌∙◌, ap}
use Rattle.osc_machine.specs.Parts.{HartState}
use Rattle.osc_turns.proofs.Outside.{calls_outside}
use Rattle.osc_turns.proofs.hart.Hart.tell_user.Goals as goal

pub invariant_of-self : goal.invariant_of-self
invariant_of-self c =
    (c.self.invariant.0, c.self.invariant.1, c.self.invariant.2, calls_outside c.self.inside.place _ _ (ap (λ (h : HartState). h.place) c.self.view_is ∙ c.requires.outside), c.self.invariant.4)
