-- What the journal tells, computed.
use Rattle.std.proofs.Common.{refl}
use Rattle.osc_class.specs.Rooms.{room_of}
use Rattle.osc_slot.specs.Least.{least, any, passing}
use Rattle.osc_slot.specs.Slots.{beside, empty_page, block_frames}
use Rattle.osc_slot.specs.Ordered.{insert_by}
use Rattle.osc_machine.specs.Replay.{noted_from}
use Rattle.osc_machine.proofs.worked.batches_replayed.Goals as goal

pub returns-clause-moved : goal.returns-clause-moved
unfolding noted_from room_of least any passing beside empty_page block_frames insert_by
returns-clause-moved c = refl
