-- A fork.
use Rattle.std.proofs.Common.{ap}
use Rattle.osc_calls.specs.Kernel.{Process}
use Rattle.osc_kernel.proofs.Forks.{rooms_forked}
use Rattle.osc_kernel.proofs.forking.fork.Goals as goal

pub returns-clause-rooms : goal.returns-clause-rooms
returns-clause-rooms c =
    let made = c.make_child-child in
    let has = c.requires.can.caller.has in
    rooms_forked c.args.state.now made.new.state c.add_child.new.state made.result _ _
    (record { make = made.ensures.rest; add = c.add_child.ensures.rest; items = c.add_child.ensures.items; capacity = c.add_child.ensures.capacity })
    0 c.args.calling.now c.requires.can c.requires.granted made.ensures.sized
    (ap (λ (q : Process). q.status) (made.ensures.child has.process has.at)) made.ensures.rooms made.ensures.room made.ensures.names
