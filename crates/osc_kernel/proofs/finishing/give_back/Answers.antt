-- What a call gives back.
use Rattle.std.proofs.Common.{drop, refl, ap}
use Rattle.osc_kernel.proofs.Rooms.{item_at, rooms_process}
use Rattle.osc_kernel.proofs.Givings.{given_back}
use Rattle.osc_kernel.proofs.finishing.give_back.Goals as goal

pub finish-requires : goal.finish-requires
finish-requires c = record {
  returns = c.requires.can c.index_mut-process.result.now
      (item_at c.args.state.now.processes.items c.args.pid _ c.index_mut-process.result.now c.requires.within c.index_mut-process.ensures.value);
}

pub returns-clause-kernel : goal.returns-clause-kernel
returns-clause-kernel c = λ p at.
    given_back c.args.state.now c.args.pid c.index_mut-process.result.now p c.finish.new.self c.finish.new.frames
    (item_at c.args.state.now.processes.items c.args.pid _ c.index_mut-process.result.now c.requires.within c.index_mut-process.ensures.value)
    at c.finish.ensures.rest (c.finish.ensures.after (drop c.args.state.now.done c.args.state.now.jobs.pushed))

pub returns-clause-rooms : goal.returns-clause-rooms
returns-clause-rooms c =
    rooms_process c.args.state.now _ c.index_mut-process.result.now _ _ _ _ _ _
    (item_at c.args.state.now.processes.items c.args.pid _ c.index_mut-process.result.now c.requires.within c.index_mut-process.ensures.value)
    (ap (λ q. q.status) c.finish.ensures.rest) c.finish.ensures.sizes refl c.requires.rooms
