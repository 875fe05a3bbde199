-- What a fork that is not refused leaves of a memory whose parts fit. This project's own.
use Rattle.std.specs.Prelude.{ℕ, ◌≡◌, List}
use Rattle.osc_word.specs.declared.settings.HeapKind.{HeapKind}
use Rattle.osc_space.specs.Space.{Space, Draft}
use Rattle.osc_space.specs.Fork.{Forked}
use Rattle.osc_space.specs.Share.{Regions, join}
use Rattle.osc_parts.specs.Settled.{Settled}
use Rattle.osc_parts.specs.ForkFits.{ForkFits}
use Rattle.osc_fork.specs.declared.plan.ForkPlan.{ForkPlan}
use Rattle.osc_fork.specs.declared.plan.ForkPlan.TheVariants.{Copied, NoFrames}
use Rattle.osc_fork.specs.Plan.{Forking, forked_to, after_jobs}

-- the parent's memory, with the free frames and the jobs before the call
abbrev pub draft_before : Space → Forking → Draft
draft_before s old = record { space = s; free = old.free; jobs = old.jobs }

-- What was made is a child whose jobs follow the earlier ones. Where the parent was settled before the
-- call, for some regions, both fit beside each other and beside all others, with the regions that the
-- child has joined.
pub record FitsForked (s : Space) (old : Forking) (names : List ℕ) (new : Forking) : Type 0 where
  pub made : Forked
  pub is : forked_to s.waiting names new ≡ after_jobs old.jobs made
  pub fits : (kind : HeapKind) (batch : ℕ) (entries : ℕ → ℕ → ℕ) (words : List ℕ) (regions : Regions)
      → Settled kind batch entries words regions (draft_before s old)
      → ForkFits kind batch entries words regions (join new.tables regions) (draft_before s old) made

abbrev pub FitsAfter : Space → ForkPlan → Forking → List ℕ → Forking → Type 0
FitsAfter s Copied old names new = FitsForked s old names new
FitsAfter s NoFrames old names new = Unit {0}
