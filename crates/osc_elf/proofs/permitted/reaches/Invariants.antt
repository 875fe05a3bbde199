use Rattle.std.proofs.Common.{ℕ, ◌≡◌, ◌<◌, take, get_or, vec_len}
use Rattle.osc_elf.specs.Reach.{reach_at}
use Rattle.osc_elf.proofs.permitted.reaches.Given as goal

abbrev pub invariant-loop-segment : goal.invariant-loop-segment
invariant-loop-segment l =
    (vec_len l.reaches ≡ l.limit)
    × ((page : ℕ) → page < l.limit → get_or l.reaches.items page 0 ≡ reach_at (take l.segment-index l.segments) l.access page)
