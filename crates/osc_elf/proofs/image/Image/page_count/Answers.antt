use Rattle.std.proofs.Common.{arith, length, ◌∙◌, ap}
use Rattle.osc_elf.proofs.Counting.{pages-limit}
use Rattle.osc_elf.proofs.image.Image.page_count.Goals as goal

pub returns-clause-count : goal.returns-clause-count
returns-clause-count c =
    c.loop-page.invariant.0
    ∙ ap length
    (pages-limit c.args.self.now c.loop-page.page c.limit-page-end.result (omega arith) c.limit-page-end.ensures.bound
    c.limit-page-end.ensures.beyond)
