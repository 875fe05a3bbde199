-- The row at the room's area has the length of its area.
use Rattle.std.proofs.Common.{arith, ◌≡◌, ap, ◌∙◌, length}
use Rattle.std.proofs.lemmas.Grind.{common_steps}
use Rattle.osc_heap.specs.Layout.{row_of}
use Rattle.osc_heap.proofs.Changes.{room_sized}
use Rattle.osc_heap.proofs.areas.area_for.Goals as goal

pub returns-clause-size : goal.returns-clause-size
returns-clause-size c =
    let row : c.wide.result.now ≡ row_of c.args.areas.now c.args.room = rw c.area_of.ensures at c.wide.ensures in
    ap length row ∙ room_sized c.args.frames c.args.areas.now c.args.room c.requires.is_room.0 c.requires.areas.1 c.requires.is_room.2
