-- The words that are left become 0 yet.
use Rattle.std.proofs.Common.{◌≡◌, ◌+◌, ◌-◌, ◌*◌}
use Rattle.osc_paging.specs.JobWords.{zeroed}
use Rattle.osc_core.proofs.laying.zero.Given as goal

abbrev pub invariant-loop-past : goal.invariant-loop-past
invariant-loop-past l =
    zeroed (l.at.frame * 512 + l.at.index + l.past) (l.count - l.past) l.words ≡ zeroed (l.at.frame * 512 + l.at.index + 0) (l.count - 0) l.fn.words
