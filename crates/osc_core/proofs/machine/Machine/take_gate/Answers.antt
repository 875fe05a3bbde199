-- What is told fits.
use Rattle.std.proofs.Common.{IfSome, slice_get, subst}
use Rattle.osc_machine.specs.declared.HartAsk.TheVariants as does
use Rattle.osc_turns.specs.Answers.{AnswerFits}
use Rattle.osc_core.specs.Shared.{Shared}
use Rattle.osc_core.specs.Acting.{gate_told}
use Rattle.osc_core.proofs.Opening.{told_fits}
use Rattle.osc_core.proofs.machine.Machine.take_gate.Goals as goal

pub returns-clause-fits : goal.returns-clause-fits
returns-clause-fits c harts =
    subst (λ (m : Shared). IfSome (gate_told c.args.only (slice_get m.gates c.args.frame)) (AnswerFits harts (does.TakeGate c.args.frame c.args.only))) c.self.view_is
    (told_fits c.self.inside.gates.items c.args.only c.args.frame harts)
