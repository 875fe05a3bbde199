use Rattle.std.proofs.Common.{ℕ, ◌≡◌, ◌<◌, None}
use Rattle.osc_image.specs.Form.{segment_why, segments_of}
use Rattle.osc_elf.specs.Segments.{all_shown}
use Rattle.osc_elf.proofs.program_headers.read_headers.Given as goal

abbrev pub invariant-loop-index : goal.invariant-loop-index
invariant-loop-index l =
    ((k : ℕ) → k < l.index → segment_why l.file k ≡ None) × (all_shown l.file l.segments.items ≡ segments_of l.file l.index)
