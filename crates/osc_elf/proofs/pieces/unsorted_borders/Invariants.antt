use Rattle.std.proofs.Common.{take}
use Rattle.std.specs.List.{All, Contains}
use Rattle.osc_elf.specs.Pieces.{HasBorders}
use Rattle.osc_elf.proofs.pieces.unsorted_borders.Given as goal

abbrev pub invariant-loop-segment : goal.invariant-loop-segment
invariant-loop-segment l = Contains l.borders.items 0 × All (HasBorders l.borders.items) (take l.segment-index l.segments)
