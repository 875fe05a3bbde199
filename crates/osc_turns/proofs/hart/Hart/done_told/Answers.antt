-- The kernel was given.
use Rattle.std.proofs.Common.{sym, ◌∙◌, ap}
use Rattle.osc_calls.specs.Finish.{finish}
use Rattle.osc_machine.specs.Parts.{HartState}
use Rattle.osc_turns.specs.Seen.{place_seen}
use Rattle.osc_turns.proofs.Giving.{returned, given}
use Rattle.osc_turns.proofs.hart.Hart.done_told.Goals as goal

pub returns-in-Returning : goal.returns-in-Returning
returns-in-Returning c =
    c.give_kernel.ensures c.in-Returning.full
    ∙ returned c.args.self.now c.self.inside.place c.self.inside.kernel c.in-Returning.full c.in-Returning.is
    (ap (λ (h : HartState). h.place) (sym c.self.view_is)) (ap (λ (h : HartState). h.kernel) (sym c.self.view_is))

pub returns-in-Returned : goal.returns-in-Returned
returns-in-Returned c =
    let fits = rw c.in-Returned.is at c.self.invariant.2 in
    let k = c.in-Returned.before.value.kernel in
    c.resume.ensures (finish k).shows c.in-Returned.full fits.2
    ∙ given c.args.self.now c.in-Returned.resume k c.in-Returned.full fits.1
    (ap (λ (h : HartState). h.place) (sym c.self.view_is) ∙ ap (λ p. place_seen p c.self.inside.kernel) c.in-Returned.is)
