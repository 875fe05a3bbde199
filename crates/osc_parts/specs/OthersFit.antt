-- What a call leaves of another process's memory: all of it.
use Rattle.std.specs.Prelude.{ℕ, ◌+◌, ◌≤◌, List}
use Rattle.osc_word.specs.declared.settings.HeapKind.{HeapKind}
use Rattle.osc_word.specs.declared.job_list.Job.{Job}
use Rattle.osc_paging.specs.Agree.{Agrees}
use Rattle.osc_paging.specs.JobWords.{words_after}
use Rattle.osc_space.specs.Space.{Space, Draft, Outcome}
use Rattle.osc_space.specs.Share.{Regions}
use Rattle.osc_space.specs.Finish.{finished}
use Rattle.osc_parts.specs.Frames.{among, frames_held, frames_mapped}
use Rattle.osc_parts.specs.Settled.{PartsFit, Settled}
use Rattle.osc_parts.specs.PlanFits.{PlanFits}

-- no frame that the first holds alone is one of the second's, held alone or of a region
abbrev pub HoldsApart : Space → Space → Type 0
HoldsApart s t = (frame : ℕ) → among frame (frames_held s) + among frame (frames_mapped t) ≤ 1

-- the memory of another process beside a draft
pub record StandsBeside (kind : HeapKind) (batch : ℕ) (entries : ℕ → ℕ → ℕ) (words : List ℕ) (regions : Regions) (other : Space) (d : Draft) : Type 0 where
  pub parts : PartsFit kind batch regions other d.free
  pub apart : HoldsApart d.space other
  pub apart_back : HoldsApart other d.space
  pub tables : Agrees other.tables d.free (words_after entries d.jobs words)

-- it stands beside what the plan made, and beside what the return makes of that, whatever jobs and
-- words there are then
pub record OthersFit (kind : HeapKind) (batch : ℕ) (entries : ℕ → ℕ → ℕ) (words : List ℕ) (regions : Regions) (other : Space) (o : Outcome) : Type 0 where
  pub planned : StandsBeside kind batch entries words regions other o.draft
  pub parts : PartsFit kind batch regions other (finished o.closing o.draft).free
  pub apart : HoldsApart (finished o.closing o.draft).space other
  pub apart_back : HoldsApart other (finished o.closing o.draft).space
  pub agrees : (now : List ℕ) (jobs : List Job) → Agrees other.tables o.draft.free (words_after entries jobs now)
      → Agrees other.tables (finished o.closing o.draft).free (words_after entries jobs now)

abbrev pub PlansKeepOthers : Type 0
PlansKeepOthers =
    (kind other_kind : HeapKind) (batch other_batch : ℕ) (entries : ℕ → ℕ → ℕ) (words : List ℕ) (regions : Regions) (d : Draft) (o : Outcome) (other : Space)
    → Settled kind batch entries words regions d → PlanFits kind batch entries words regions d o
    → StandsBeside other_kind other_batch entries words regions other d
    → OthersFit other_kind other_batch entries words regions other o
