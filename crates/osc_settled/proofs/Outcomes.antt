-- The plan of a call on one process's memory keeps what holds.
use Rattle.std.proofs.Common.{◌≢◌, ℕ, ◌≡◌, ◌≤◌, ◌==◌, Bool, true, false, cond, Some, None, List, ◌++◌, slice_get, slice_set, arith, refl, ap, sym, ◌∙◌, subst, inl}
use Rattle.osc_space.specs.Space.{Outcome, Closing, Keeps, GivesBack}
use Rattle.osc_parts.specs.Jobs.{AllWriteWhere, IsOwn}
use Rattle.osc_parts.specs.PlanFits.{PlanFits}
use Rattle.osc_parts.proofs.Blocks.{all_weaker}
use Rattle.osc_calls.specs.Kernel.{KernelState, Process, Calling, Waiting, process_at}
use Rattle.osc_calls.specs.Refusals.{draft_of}
use Rattle.osc_calls.specs.Planned.{closing_effect, outcome_planned}
use Rattle.osc_settled.specs.Memory.{Memory, memory_of, SpaceFits, MemoryFits}
use Rattle.osc_settled.specs.Records.{is_living, ends_by, ending, RecordsFit, AllManned}
use Rattle.osc_settled.specs.UnderWay.{closing_of, HasAlone, made_by, record_by, EffectFits, WaitingFits, UnderWayFits}
use Rattle.osc_settled.specs.KernelFits.{SizesFit, KernelFits}
use Rattle.osc_settled.specs.KeepLaws.{FitsCaller, OutcomesKeep}
use Rattle.osc_settled.proofs.Lists.{get-put_same, length-put}
use Rattle.osc_settled.proofs.Memories.{made, closes_for, plan_memory}
use Rattle.osc_settled.proofs.Commits.{lives_none, none_lives, living_put, records_stay, Owed, commits}

-- ---- a call that waits
pub record Asks (words : List ℕ) (k : KernelState) (c : Calling) : Type 0 where
  pub sizes : SizesFit words k
  pub memory : MemoryFits words (memory_of k) (λ q. Keeps)
  pub records : RecordsFit k.processes k.threads k.records None
  pub manned : AllManned k.processes k.records None
  pub waits : WaitingFits k c

pub asks : (words : List ℕ) (k : KernelState) (c : Calling) → KernelFits words k → k.under_way ≡ Waiting c → Asks words k c
asks words k c f e = record {
  sizes = f.sizes;
  memory = subst (λ u. MemoryFits words (memory_of k) (closing_of u)) e f.memory;
  records = subst (λ u. RecordsFit k.processes k.threads k.records (ending u)) e f.records;
  manned = subst (λ u. AllManned k.processes k.records (ending u)) e f.manned;
  waits = subst (λ u. UnderWayFits k u) e f.under_way;
}

-- the caller's process is there and lives
pub caller_lives : (words : List ℕ) (k : KernelState) (c : Calling) → Asks words k c → is_living (process_at k c.pid) ≡ true
caller_lives words k c a = a.records.lives c.hart c.pid c.thread a.waits.caller

-- a call that gives nothing back
pub closes_nothing : (words : List ℕ) (m : Memory) (pid : ℕ) → MemoryFits words m (λ q. Keeps) → MemoryFits words m (closes_for pid Keeps)
closes_nothing words m pid f = record {
  spaces = λ q p at lives. go (pid == q) p (f.spaces q p at lives);
  bare = f.bare;
  uses = f.uses;
  holders = f.holders;
}
  where
    go : (b : Bool) (p : Process) → SpaceFits words m Keeps p.space → SpaceFits words m (cond b Keeps Keeps) p.space
    go true p s = s
    go false p s = s

-- ---- an effect by what is given back
ends_none : (closing : Closing) (pid : ℕ) → ends_by pid (closing_effect closing) ≡ None
ends_none Keeps pid = refl
ends_none (GivesBack blocks) pid = refl

made_caller : (closing : Closing) (pid : ℕ) → made_by (closing_effect closing) pid ≡ pid
made_caller Keeps pid = refl
made_caller (GivesBack blocks) pid = refl

effect_fits : (k : KernelState) (c : Calling) (closing : Closing) → EffectFits k c closing (closing_effect closing)
effect_fits k c Keeps = refl
effect_fits k c (GivesBack blocks) = tt

-- ---- the plan
pub outcome_owed : (words : List ℕ) (k : KernelState) (c : Calling) (p : Process) (o : Outcome)
    → Asks words k c → process_at k c.pid ≡ Some p → FitsCaller words k p o → Owed words c (outcome_planned c.pid p k o)
outcome_owed words k c p o a e f = record {
  sizes = record {
    config = a.sizes.config;
    memory = a.sizes.memory;
    free = any.takes.size ∙ a.sizes.free;
    regions = a.sizes.regions;
    records = a.sizes.records;
    processes = subst (λ n. n ≤ k.config.processes) (sym (length-put k.processes c.pid (made p o))) a.sizes.processes;
    threads = a.sizes.threads;
    journal = a.sizes.journal;
    output = (let x = a.sizes.output in let y = f.writes in omega (arith, x, y));
    peak = a.sizes.peak;
  };
  room = a.waits.room;
  memory = plan_memory words (memory_of k) c.pid p o a.memory a.waits.jobs e lives f.each;
  records = subst (λ ends. RecordsFit (slice_set k.processes c.pid (made p o)) k.threads k.records ends) (sym (ends_none o.closing c.pid))
      (records_stay k.processes (slice_set k.processes c.pid (made p o)) k.threads k.records None a.records
      (λ q. living_put k.processes c.pid p (made p o) q e refl) (length-put k.processes c.pid (made p o)));
  manned = λ q l n. a.manned q (sym (living_put k.processes c.pid p (made p o) q e refl) ∙ l) (no_end q);
  lives = none_lives (made p o) (slice_get (slice_set k.processes c.pid (made p o)) c.pid) there lives;
  caller = a.waits.caller ∙ ap (λ b. Some (record_by b c)) (sym f.answer);
  jobs = subst (λ x. AllWriteWhere (HasAlone k.regions x) o.draft.jobs) (sym (ap (slice_get (slice_set k.processes c.pid (made p o))) (made_caller o.closing c.pid) ∙ there))
      (all_weaker (IsOwn o.draft.space) (HasAlone k.regions (Some (made p o))) o.draft.jobs (λ frame h. inl h)
      (subst (λ js. AllWriteWhere (IsOwn o.draft.space) js) (sym (any.pushes.is ∙ ap (λ js. js ++ any.pushes.more) a.waits.jobs)) any.pushes.within));
  effect = effect_fits (outcome_planned c.pid p k o).kernel c o.closing;
}
  where
    no_end : (q : ℕ) → None ≢ Some q
    no_end q x = let z : ⊥ = grind (arith, x) in z

    any : PlanFits k.config.heap k.config.batch (λ frame index. 0) words k.regions (draft_of k p) o
    any = f.each (λ frame index. 0)

    lives : p.status ≡ None
    lives = lives_none p (process_at k c.pid) e (a.records.lives c.hart c.pid c.thread a.waits.caller)

    there : slice_get (slice_set k.processes c.pid (made p o)) c.pid ≡ Some (made p o)
    there = get-put_same k.processes c.pid p (made p o) e

pub outcomes_keep : OutcomesKeep
outcomes_keep words k c p o f u e g = commits words c (outcome_planned c.pid p k o) (outcome_owed words k c p o (asks words k c f u) e g)
