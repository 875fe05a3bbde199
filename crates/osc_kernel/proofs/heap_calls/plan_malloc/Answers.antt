-- A malloc.
use Rattle.std.proofs.Common.{ap}
use Rattle.osc_kernel.proofs.Rooms.{rooms_process}
use Rattle.osc_kernel.proofs.Heaps.{caller_is}
use Rattle.osc_kernel.proofs.heap_calls.plan_malloc.Goals as goal

pub returns-clause-rooms : goal.returns-clause-rooms
returns-clause-rooms c =
    rooms_process c.args.state.now _ c.index_mut-process.result.now _ _ _ _ _ _
    (caller_is c.args.state.now c.args.calling.now _ _ _ c.requires.can c.pid.ensures c.index_mut-process.ensures.value)
    (ap (λ q. q.status) c.malloc-answer.ensures.rest) c.malloc-answer.ensures.sizes c.malloc-answer.ensures.room c.requires.can.rooms
