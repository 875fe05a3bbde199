use Rattle.std.proofs.Common.{ℕ, ◌≡◌, ◌<◌, ◌-◌, All, length}
use Rattle.osc_fork.specs.Names.{frames_between, mark_all}
use Rattle.osc_fork.proofs.marking.mark_pages.Given as goal

-- the pages from here on are still to be marked
abbrev pub invariant-loop-next : goal.invariant-loop-next
invariant-loop-next l = record {
  left : mark_all (frames_between l.from l.to l.tables) l.names ≡ mark_all (frames_between l.fn.from l.to l.tables) l.fn.names;
  frames : All (λ (frame : ℕ). frame < length l.names) (frames_between l.from l.to l.tables);
}

abbrev pub decreases-loop-next : goal.decreases-loop-next
decreases-loop-next l = l.to - l.from
