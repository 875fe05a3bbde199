use Rattle.std.proofs.Common.{arith}
use Rattle.osc_elf.proofs.Reaching.{permits-beyond}
use Rattle.osc_elf.proofs.image.Image.limit.Goals as goal

pub returns-clause-beyond : goal.returns-clause-beyond
returns-clause-beyond c = λ access page above.
    rw (← c.self.view_is)
    (permits-beyond c.self.inside.file.items c.self.inside.segments.items access page
    (omega (arith, c.self.invariant.0.end, c.len.ensures)))
