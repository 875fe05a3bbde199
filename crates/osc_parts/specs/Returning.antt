-- A call under way, as the kernel keeps it: jobs are done one by one and words change, until it returns.
use Rattle.std.specs.Prelude.{ℕ, ◌≡◌, ◌<◌, true, Some, List, slice_get}
use Rattle.osc_word.specs.declared.settings.HeapKind.{HeapKind}
use Rattle.osc_word.specs.declared.job_list.Job.{Job}
use Rattle.osc_slot.specs.declared.Block.{Block}
use Rattle.osc_slot.specs.Slots.{is_held}
use Rattle.osc_paging.specs.Agree.{AgreesAfter}
use Rattle.osc_space.specs.Space.{Space, Draft, Outcome, Closing}
use Rattle.osc_space.specs.Share.{Regions, holders}
use Rattle.osc_space.specs.Finish.{finished}
use Rattle.osc_parts.specs.Frames.{among, frames_held, FramesFit, Trades}
use Rattle.osc_parts.specs.Settled.{tables_of, PartsFit, Settled}
use Rattle.osc_parts.specs.PlanFits.{gives_block, with_jobs, PlanFits}
use Rattle.osc_parts.specs.OthersFit.{StandsBeside}

-- What is to be given back is held, and no frame that is held or free has a holder; and the return
-- leaves parts that fit. The words are said apart, since they and the jobs change.
pub record Returning (kind : HeapKind) (batch : ℕ) (entries : ℕ → ℕ → ℕ) (regions : Regions) (closing : Closing) (d : Draft) : Type 0 where
  pub frames : FramesFit d.space d.free
  pub private : (frame : ℕ) → 0 < among frame (frames_held d.space) → holders regions frame ≡ 0
  pub unheld : (frame : ℕ) → slice_get d.free frame ≡ Some true → holders regions frame ≡ 0
  pub held : (block : Block) → gives_block closing block ≡ true → is_held d.space.heap.held block ≡ true
  pub same : (jobs : List Job) → finished closing (with_jobs jobs d) ≡ with_jobs jobs (finished closing d)
  pub gives : Trades d.space d.free (finished closing d).space (finished closing d).free
  pub parts : PartsFit kind batch regions (finished closing d).space (finished closing d).free
  pub agrees : (now : List ℕ) (jobs : List Job) → AgreesAfter entries now (tables_of (with_jobs jobs d))
      → AgreesAfter entries now (tables_of (with_jobs jobs (finished closing d)))

-- each plan that fits begins one
abbrev pub PlansReturn : Type 0
PlansReturn =
    (kind : HeapKind) (batch : ℕ) (entries : ℕ → ℕ → ℕ) (words : List ℕ) (regions : Regions) (d : Draft) (o : Outcome)
    → Settled kind batch entries words regions d → PlanFits kind batch entries words regions d o
    → Returning kind batch entries regions o.closing o.draft

-- the jobs do not matter to it
abbrev pub JobsLeave : Type 0
JobsLeave =
    (kind : HeapKind) (batch : ℕ) (entries : ℕ → ℕ → ℕ) (regions : Regions) (closing : Closing) (jobs : List Job) (d : Draft)
    → Returning kind batch entries regions closing d → Returning kind batch entries regions closing (with_jobs jobs d)

-- the return leaves a memory that is settled, and others beside it
abbrev pub ReturnsSettle : Type 0
ReturnsSettle =
    (kind : HeapKind) (batch : ℕ) (entries : ℕ → ℕ → ℕ) (words : List ℕ) (regions : Regions) (closing : Closing) (d : Draft)
    → Returning kind batch entries regions closing d → AgreesAfter entries words (tables_of d)
    → Settled kind batch entries words regions (finished closing d)

abbrev pub ReturnsKeepOthers : Type 0
ReturnsKeepOthers =
    (kind other_kind : HeapKind) (batch other_batch : ℕ) (entries : ℕ → ℕ → ℕ) (words : List ℕ) (regions : Regions) (closing : Closing) (d : Draft) (other : Space)
    → Returning kind batch entries regions closing d → StandsBeside other_kind other_batch entries words regions other d
    → StandsBeside other_kind other_batch entries words regions other (finished closing d)
