use Rattle.osc_asm.proofs.Targets.{all-do}
use Rattle.osc_asm.proofs.builder.Builder.finish.Goals as goal

pub returns-clause-does : goal.returns-clause-does
returns-clause-does c =
    all-do c.args.self.now c.in_ok-check.ensures.first c.in_ok-check.ensures.short c.in_ok-check.ensures.inside
