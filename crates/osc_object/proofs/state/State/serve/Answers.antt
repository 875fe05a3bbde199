use Rattle.std.proofs.Common.{◌∙◌}
use Rattle.osc_memory.specs.Places.{heap_shown}
use Rattle.osc_object.proofs.Applies.{served-is}
use Rattle.osc_object.proofs.state.State.serve.Goals as goal

pub returns : goal.returns
returns c = λ hart process h p. c.in_ok-change_by_heap.ensures ∙ served-is c.args.self.now c.args.number c.args.pid hart process h p (heap_shown c.args.deed) c.args.value
