use Rattle.osc_memory.proofs.Finds.{numbers-next}
use Rattle.osc_memory.proofs.process.add_numbers.Goals as goal

pub loop-number-preserved : goal.loop-number-preserved
loop-number-preserved c =
    numbers-next c.args.numbers.now.items c.loop-number.numbers.items c.push.new.self.items c.args.first c.loop-number.number c.loop-number.invariant c.in_ok-push.ensures.items
