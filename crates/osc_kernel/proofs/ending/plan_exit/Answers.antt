-- An exit.
use Rattle.std.proofs.Common.{arith}
use Rattle.osc_kernel.proofs.Rooms.{rooms_records}
use Rattle.osc_kernel.proofs.ending.plan_exit.Goals as goal

pub returns-clause-rooms : goal.returns-clause-rooms
returns-clause-rooms c = rooms_records c.args.state.now _ _ 0 _ c.end_process.ensures.state (omega arith) c.requires.can.rooms
