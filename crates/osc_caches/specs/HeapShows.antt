-- What the words show of the tables of a process that is in a call on the heap. This project's own.
use Rattle.std.specs.Prelude.{ℕ, ◌≡◌, ◌⊎◌, Bool, true, false, Some, List, ◌∷◌}
use Rattle.osc_word.specs.declared.calls.Answer.{Answer}
use Rattle.osc_word.specs.declared.calls.Answer.TheVariants.{Nothing}
use Rattle.osc_word.specs.declared.calls.Call.{Call}
use Rattle.osc_word.specs.declared.calls.Call.TheVariants.{Malloc, Free, Realloc}
use Rattle.osc_word.specs.declared.job_list.Job.{Job}
use Rattle.osc_word.specs.declared.settings.HeapKind.TheVariants.{Oscar}
use Rattle.osc_sv39.specs.declared.entries.Mapping.{Mapping}
use Rattle.osc_paging.specs.JobWords.{words_done}
use Rattle.osc_paging.specs.KeptTables.{KeptTables, mapping_at}
use Rattle.osc_space.specs.Space.{Space}
use Rattle.osc_space.specs.Header.{Found}
use Rattle.osc_calls.specs.Kernel.{KernelState, Process, Calling, UnderWay, Waiting, Returning, process_at}
use Rattle.osc_calls.specs.Requests.{meant}
use Rattle.osc_calls.specs.Plan.{plan}
use Rattle.osc_calls.specs.JobDone.{job_done, entries}
use Rattle.osc_settled.specs.KernelFits.{KernelFits}
use Rattle.osc_showing.specs.Showing.{Tidy, Shows}
use Rattle.osc_showing.specs.PlanTurns.{cleared_by}
use Rattle.osc_caches.specs.Going.{GoingPage}

abbrev pub is_heap_call : Call → Bool
is_heap_call (Malloc size) = true
is_heap_call (Free pointer) = true
is_heap_call (Realloc pointer size) = true
is_heap_call call = false

-- the caches that are to be cleared by the call under way
abbrev pub cleared_in : ℕ → UnderWay → ℕ
cleared_in harts (Returning done) = cleared_by harts done.closing
cleared_in harts under_way = 0

-- what the call under way answers
abbrev pub answer_in : UnderWay → Answer
answer_in (Returning done) = done.answer
answer_in under_way = Nothing

-- what became of tables by a call's plan: they were tidy, and each page that was mapped still is, or it goes
pub record OldGo (old : KeptTables) (s : Space) (answer : Answer) : Type 0 where
  pub free : List Bool
  pub tidy : Tidy old free
  pub pages : (number : ℕ) (m : Mapping) → mapping_at old.pages number ≡ Some m
      → (mapping_at s.tables.pages number ≡ Some m) ⊎ GoingPage s answer number m.frame

-- `old` are the tables at the call's plan
pub record CallShows (k : KernelState) (pid : ℕ) (words : List ℕ) : Type 0 where
  pub old : KeptTables
  pub p : Process
  pub is : process_at k pid ≡ Some p
  pub was : OldGo old p.space (answer_in k.under_way)
  pub shows : Shows (cleared_in k.config.harts k.under_way) old p.space.tables k.free k.jobs words

-- once a call on the heap with shadows is planned, refused or not
abbrev pub HeapPlansShow : Type 0
HeapPlansShow =
    (words : List ℕ) (found : Found) (k : KernelState) (c : Calling)
    → KernelFits words k → k.config.heap ≡ Oscar → k.under_way ≡ Waiting c → is_heap_call (meant c.call) ≡ true
    → CallShows (plan found k).kernel c.pid words

-- and after each of its jobs
abbrev pub HeapJobsShow : Type 0
HeapJobsShow =
    (word pid : ℕ) (words : List ℕ) (k : KernelState) (job : Job) (jobs : List Job)
    → CallShows k pid words → k.jobs ≡ job ∷ jobs → CallShows (job_done word k).kernel pid (words_done (entries k) job words)
