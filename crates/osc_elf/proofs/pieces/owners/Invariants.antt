use Rattle.std.proofs.Common.{◌≡◌, ◌≤◌, drop, length, vec_len}
use Rattle.osc_elf.specs.Pieces.{AreOwners}
use Rattle.osc_elf.specs.Painting.{AreSkips}
use Rattle.osc_elf.proofs.pieces.owners.Given as goal

abbrev pub invariant-loop-index : goal.invariant-loop-index
invariant-loop-index l =
    record {
      bound : l.index ≤ length l.segments;
      len : vec_len l.owners ≡ length l.borders;
      skips : AreSkips l.owners.items l.skips.items;
      owned : AreOwners l.segments (drop l.index l.segments) l.borders l.owners.items;
    }

abbrev pub decreases-loop-index : goal.decreases-loop-index
decreases-loop-index l = l.index
