-- The end of a process.
use Rattle.std.proofs.Common.{◌-◌, arith, refl, ap}
use Rattle.osc_kernel.proofs.Rooms.{item_at, rooms_ended, some_unended}
use Rattle.osc_kernel.proofs.Givings.{ended_kernel}
use Rattle.osc_kernel.proofs.finishing.end.Goals as goal

pub end-requires : goal.end-requires
end-requires c = record {
  can = (c.requires.can c.index_mut-process.result.now
      (item_at c.args.state.now.processes.items c.args.pid _ c.index_mut-process.result.now c.requires.within c.index_mut-process.ensures.value)).0;
}

pub overflow_sub-state : goal.overflow_sub-state
overflow_sub-state c =
    let there = item_at c.args.state.now.processes.items c.args.pid _ c.index_mut-process.result.now c.requires.within c.index_mut-process.ensures.value in
    let l = some_unended c.args.state.now 1 c.args.pid c.index_mut-process.result.now c.requires.rooms there (c.requires.can c.index_mut-process.result.now there).1 in
    omega (arith, l)

pub returns-clause-kernel : goal.returns-clause-kernel
returns-clause-kernel c = λ p at.
    ended_kernel c.args.state.now c.args.pid c.args.status c.index_mut-process.result.now p c.end.new.self c.end.new.frames c.end.new.regions (c.args.state.now.unended - 1)
    (item_at c.args.state.now.processes.items c.args.pid _ c.index_mut-process.result.now c.requires.within c.index_mut-process.ensures.value)
    at c.end.ensures.process c.end.ensures.regions c.end.ensures.free

pub returns-clause-rooms : goal.returns-clause-rooms
returns-clause-rooms c =
    let there = item_at c.args.state.now.processes.items c.args.pid _ c.index_mut-process.result.now c.requires.within c.index_mut-process.ensures.value in
    rooms_ended c.args.state.now _ c.args.status c.index_mut-process.result.now _ _ _ _ there (c.requires.can c.index_mut-process.result.now there).1
    (ap (λ q. q.status) c.end.ensures.process) c.end.ensures.sizes refl c.requires.rooms
