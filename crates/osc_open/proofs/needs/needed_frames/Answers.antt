use Rattle.std.proofs.Common.{arith}
use Rattle.osc_open.specs.Laying.{pages_of}
use Rattle.osc_open.proofs.Counted.{frames-are, length-pages}
use Rattle.osc_open.proofs.needs.needed_frames.Goals as goal

pub returns : goal.returns
returns c =
    omega (arith, frames-are c.args.levels 16 (pages_of c.args.pages.now) c.requires.levels c.requires.pages, length-pages c.args.pages.now)
