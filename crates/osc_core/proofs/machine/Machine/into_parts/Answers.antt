-- What is at home moves out whole.
use Rattle.std.proofs.Common.{sym, ◌∙◌, subst}
use Rattle.osc_core.specs.Parts.{AllHome}
use Rattle.osc_core.proofs.Moving.{are_parts, are_versions, have_room}
use Rattle.osc_core.proofs.machine.Machine.into_parts.Goals as goal

pub returns-clause-machine : goal.returns-clause-machine
returns-clause-machine c =
    are_parts c.self.inside.words.items c.self.inside.gates.items c.self.inside.boxes c.self.inside.kernel c.self.inside.config c.move_out-boxes.result.0.items c.unwrap.result
    (subst AllHome (sym c.self.view_is) c.requires.home) c.move_out-boxes.ensures.boxes c.unwrap.ensures
    ∙ c.self.view_is

pub returns-clause-versions : goal.returns-clause-versions
returns-clause-versions c = are_versions c.self.inside.gates.items (subst AllHome (sym c.self.view_is) c.requires.home).gates

pub returns-clause-room : goal.returns-clause-room
returns-clause-room c = have_room c.self.inside.boxes c.move_out-boxes.result.0.items c.move_out-boxes.result.1 c.move_out-boxes.ensures.boxes c.move_out-boxes.ensures.room
