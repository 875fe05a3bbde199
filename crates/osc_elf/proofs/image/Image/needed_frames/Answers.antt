use Rattle.std.proofs.Common.{arith}
use Rattle.osc_elf.proofs.Counting.{needed-is}
use Rattle.osc_elf.proofs.image.Image.needed_frames.Goals as goal

pub returns : goal.returns
returns c =
    rw (needed-is c.args.levels c.args.self.now c.requires)
    (omega (arith, c.page_count.ensures.count, c.tables.ensures.count, c.tables-2.ensures.count))
