-- The parts together are a word.
use Rattle.std.proofs.Common.{arith}
use Rattle.osc_hart.proofs.Parts.{part_whole}
use Rattle.osc_hart.proofs.words.with_part.Goals as goal

pub at_byte-requires-clause-room : goal.at_byte-requires-clause-room
at_byte-requires-clause-room c =
    omega (arith, part_whole c.args.address c.args.width c.args.word c.args.number c.requires.width c.requires.aligned c.requires.fits c.ranges.word.fits)

pub overflow_add-result : goal.overflow_add-result
overflow_add-result c =
    omega (arith, c.below_byte.ensures, c.at_byte.ensures, part_whole c.args.address c.args.width c.args.word c.args.number c.requires.width c.requires.aligned c.requires.fits c.ranges.word.fits)

pub overflow_add-result-2 : goal.overflow_add-result-2
overflow_add-result-2 c =
    rw (c.from_byte.ensures, c.from.ensures, c.below_byte.ensures, c.at_byte.ensures)
    (omega (arith, part_whole c.args.address c.args.width c.args.word c.args.number c.requires.width c.requires.aligned c.requires.fits c.ranges.word.fits))
