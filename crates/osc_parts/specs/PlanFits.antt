-- What holds while a call is under way, from its plan until it returns, and what its return makes of
-- it. Each plan has it, also one that is refused, so no plan's condition is owed by a caller.
use Rattle.std.specs.Prelude.{ℕ, ◌≡◌, Bool, true, false, List}
use Rattle.osc_word.specs.declared.settings.HeapKind.{HeapKind}
use Rattle.osc_word.specs.declared.job_list.Job.{Job}
use Rattle.osc_slot.specs.declared.Block.{Block}
use Rattle.osc_slot.specs.Slots.{is_held}
use Rattle.osc_paging.specs.Agree.{AgreesAfter}
use Rattle.osc_paging.specs.CopyLaws.{KeepsTaken}
use Rattle.osc_space.specs.Space.{Draft, Outcome, Closing, Keeps, GivesBack}
use Rattle.osc_space.specs.Share.{Regions}
use Rattle.osc_space.specs.Finish.{finished}
use Rattle.osc_parts.specs.Frames.{FramesFit, Trades}
use Rattle.osc_parts.specs.Settled.{tables_of, PartsFit}
use Rattle.osc_parts.specs.Jobs.{PushesOwn}

-- the block is one of those that are given back
abbrev pub gives_block : Closing → Block → Bool
gives_block Keeps block = false
gives_block (GivesBack blocks) block = is_held blocks block

-- a draft with these jobs in place of its own
abbrev pub with_jobs : List Job → Draft → Draft
with_jobs jobs d = record d { jobs = jobs }

-- From the plan on no frame that was taken is free, each frame that the process holds more was free,
-- the words agree once the jobs are done, and each block to be given back is held.
-- Whatever jobs and words there are when the call returns: the return leaves them, frees exactly the
-- frames that the process holds no more, and leaves parts that fit and words that agree.
pub record PlanFits (kind : HeapKind) (batch : ℕ) (entries : ℕ → ℕ → ℕ) (words : List ℕ) (regions : Regions) (d : Draft) (o : Outcome) : Type 0 where
  pub takes : KeepsTaken d.free o.draft.free
  pub trades : Trades d.space d.free o.draft.space o.draft.free
  pub frames : FramesFit o.draft.space o.draft.free
  pub tables : AgreesAfter entries words (tables_of o.draft)
  pub pushes : PushesOwn d o.draft
  pub held : (block : Block) → gives_block o.closing block ≡ true → is_held o.draft.space.heap.held block ≡ true
  pub same : (jobs : List Job) → finished o.closing (with_jobs jobs o.draft) ≡ with_jobs jobs (finished o.closing o.draft)
  pub gives : Trades o.draft.space o.draft.free (finished o.closing o.draft).space (finished o.closing o.draft).free
  pub parts : PartsFit kind batch regions (finished o.closing o.draft).space (finished o.closing o.draft).free
  pub agrees : (now : List ℕ) (jobs : List Job) → AgreesAfter entries now (tables_of (with_jobs jobs o.draft))
      → AgreesAfter entries now (tables_of (with_jobs jobs (finished o.closing o.draft)))
