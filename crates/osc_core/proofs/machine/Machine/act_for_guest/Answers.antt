-- What comes home, and the gates.
use Rattle.std.proofs.Common.{option_map, sym, ◌∙◌, ap}
use Rattle.osc_machine.specs.Turns.{guest_ask}
use Rattle.osc_turns.specs.Answers.{said}
use Rattle.osc_core.proofs.Acts.{gave_box, took_gate}
use Rattle.osc_core.proofs.machine.Machine.act_for_guest.Goals as goal

pub returns-in-GiveBox-clause-done : goal.returns-in-GiveBox-clause-done
returns-in-GiveBox-clause-done c =
    gave_box c.args.self.now c.give_box.new.self c.args.hart.now c.hand_box-hart_box.new.self c.hand_box-hart_box.result c.number-number.result c.giving_looks_away.ensures c.requires.ready.hand
    (rw (c.number-number.ensures) (sym (c.requires.asks ∙ ap (guest_ask c.args.hart.now.number) c.in-GiveBox.is))) c.hand_box-hart_box.ensures.rest c.hand_box-hart_box.ensures.given c.give_box.ensures

pub returns-in-TakeGate-clause-done : goal.returns-in-TakeGate-clause-done
returns-in-TakeGate-clause-done c =
    took_gate c.args.self.now c.take_gate.new.self c.args.hart.now c.in-TakeGate.frame c.in-TakeGate.only (option_map said c.take_gate.result)
    (sym (c.requires.asks ∙ ap (guest_ask c.args.hart.now.number) c.in-TakeGate.is)) c.take_gate.ensures.told c.take_gate.ensures.gates c.take_gate.ensures.fits
