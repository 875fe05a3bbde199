use Rattle.std.proofs.Common.{◌≡◌, ◌≤◌, take}
use Rattle.osc_elf.specs.Segments.{last_end}
use Rattle.osc_elf.proofs.permitted.last_end.Given as goal

abbrev pub invariant-loop-segment : goal.invariant-loop-segment
invariant-loop-segment l = (l.last ≡ last_end (take l.segment-index l.segments)) × (l.last ≤ 1048576)
