use Rattle.std.proofs.Common.{ℕ, ◌≡◌, ◌+◌, ◌<◌, get_or, vec_len}
use Rattle.osc_elf.proofs.pieces.successors.Given as goal

abbrev pub invariant-loop-border : goal.invariant-loop-border
invariant-loop-border l = (vec_len l.skips ≡ l.border) × ((k : ℕ) → k < l.border → get_or l.skips.items k 0 ≡ k + 1)
