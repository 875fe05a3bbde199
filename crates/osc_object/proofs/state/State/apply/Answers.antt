use Rattle.osc_object.proofs.state.State.apply.Goals as goal

pub returns-in-Steps : goal.returns-in-Steps
returns-in-Steps c = rw c.in-Steps.is c.step.ensures

pub returns-in_ok-call_heap-in-Heaps : goal.returns-in_ok-call_heap-in-Heaps
returns-in_ok-call_heap-in-Heaps c = rw c.in-Heaps.is c.in_ok-call_heap-in-Heaps.ensures

pub returns-in_ok-write-in-Writes : goal.returns-in_ok-write-in-Writes
returns-in_ok-write-in-Writes c = rw c.in-Writes.is (rw c.deref.ensures.value at (c.in_ok-write-in-Writes.ensures c.args.pid))

pub returns-in_ok-share-in-Shares : goal.returns-in_ok-share-in-Shares
returns-in_ok-share-in-Shares c = rw c.in-Shares.is c.in_ok-share-in-Shares.ensures

pub returns-in_ok-fork-in-Forks : goal.returns-in_ok-fork-in-Forks
returns-in_ok-fork-in-Forks c = rw c.in-Forks.is c.in_ok-fork-in-Forks.ensures

pub returns-in_ok-spawn-in-Spawns : goal.returns-in_ok-spawn-in-Spawns
returns-in_ok-spawn-in-Spawns c = rw c.in-Spawns.is c.in_ok-spawn-in-Spawns.ensures

pub returns-in-Exits : goal.returns-in-Exits
returns-in-Exits c = rw c.in-Exits.is (c.exit.ensures c.args.number)

pub returns-in-Leaves : goal.returns-in-Leaves
returns-in-Leaves c = rw c.in-Leaves.is c.leave.ensures
