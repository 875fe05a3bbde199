-- The end of a thread.
use Rattle.std.proofs.Common.{arith}
use Rattle.osc_kernel.proofs.Rooms.{rooms_records, rooms_kept}
use Rattle.osc_kernel.proofs.ending.end_thread.Goals as goal

pub returns-then-is_last-clause-rooms : goal.returns-then-is_last-clause-rooms
returns-then-is_last-clause-rooms c = rooms_records c.args.state.now _ _ 0 _ c.end_process.ensures.state (omega arith) c.requires.rooms

pub returns-else-is_last-clause-rooms : goal.returns-else-is_last-clause-rooms
returns-else-is_last-clause-rooms c = rooms_kept c.args.state.now _ _ _ _ _ _ _ _ _ _ 0 _ (omega arith) c.requires.rooms
