use Rattle.std.proofs.Common.{arith}
use Rattle.osc_open.specs.Laying.{pages_of}
use Rattle.osc_open.proofs.Counted.{length-pages}
use Rattle.osc_open.proofs.Start.{few_pages}
use Rattle.osc_open.proofs.open_tables.Goals as goal

pub needed_frames-needed-requires-clause-few : goal.needed_frames-needed-requires-clause-few
needed_frames-needed-requires-clause-few c =
    let few = few_pages 16 (pages_of c.args.pages.now) (omega arith) c.requires.pages in
    omega (arith, few, length-pages c.args.pages.now)
