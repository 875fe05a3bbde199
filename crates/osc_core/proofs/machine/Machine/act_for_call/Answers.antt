-- What comes home, and the gates.
use Rattle.std.proofs.Common.{option_map, sym, ◌∙◌}
use Rattle.osc_turns.specs.Answers.{said}
use Rattle.osc_core.proofs.Acts.{gave_box, gave_kernel, took_gate}
use Rattle.osc_core.proofs.machine.Machine.act_for_call.Goals as goal

pub returns-in-GiveBox-clause-done : goal.returns-in-GiveBox-clause-done
returns-in-GiveBox-clause-done c =
    gave_box c.args.self.now c.give_box.new.self c.args.hart.now c.hand_box-hart_box.new.self c.hand_box-hart_box.result c.in-GiveBox.number c.giving_looks_away.ensures c.requires.hand
    (sym c.in-GiveBox.is ∙ c.ask.ensures) c.hand_box-hart_box.ensures.rest c.hand_box-hart_box.ensures.given c.give_box.ensures

pub returns-in-GiveKernel-clause-done : goal.returns-in-GiveKernel-clause-done
returns-in-GiveKernel-clause-done c =
    gave_kernel c.args.self.now _ c.args.hart.now c.hand_kernel.new.self c.hand_kernel.result c.self-in-GiveKernel.view_is c.giving_looks_away.ensures
    (sym c.in-GiveKernel.is ∙ c.ask.ensures) c.hand_kernel.ensures.rest c.hand_kernel.ensures.given

pub returns-in-TakeGate-clause-done : goal.returns-in-TakeGate-clause-done
returns-in-TakeGate-clause-done c =
    took_gate c.args.self.now c.take_gate.new.self c.args.hart.now c.in-TakeGate.frame c.in-TakeGate.only (option_map said c.take_gate.result)
    (sym c.in-TakeGate.is ∙ c.ask.ensures) c.take_gate.ensures.told c.take_gate.ensures.gates c.take_gate.ensures.fits
