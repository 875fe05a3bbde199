use Rattle.osc_object.specs.Turns.{turn_from}
use Rattle.osc_object.proofs.state.State.call_heap.Goals as goal

pub returns : goal.returns
returns c = λ hart process h p.
    let here = rw (← c.self.view_is) at p in
    rw (← c.in_ok-value.ensures (turn_from c.args.self.now c.args.number hart c.args.pid process) (rw c.deref.ensures.value here)) (c.in_ok-serve.ensures hart process h p)
