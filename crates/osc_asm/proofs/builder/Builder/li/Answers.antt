use Rattle.osc_asm.proofs.TwoParts.{loads}
use Rattle.osc_asm.proofs.builder.Builder.li.Goals as goal

pub returns-clause-gives : goal.returns-clause-gives
returns-clause-gives c = loads c.args.rd c.args.value c.requires.value
