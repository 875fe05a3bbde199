-- What a fork asks of its process's parts, and what it answers and makes. It is this project's own.
use Rattle.std.specs.Prelude.{ℕ, ◌≡◌, ◌≤◌, Bool, Some, None, List, ◌++◌, length}
use Rattle.osc_word.specs.declared.job_list.Job.{Job}
use Rattle.osc_word.specs.declared.settings.HeapKind.{HeapKind}
use Rattle.osc_word.specs.declared.calls.Answer.TheVariants as answer
use Rattle.osc_paging.specs.KeptTables.{KeptTables}
use Rattle.osc_slot.specs.Heap.{Heap}
use Rattle.osc_mark.specs.Grants.{Grants}
use Rattle.osc_space.specs.Space.{Space, first_reason}
use Rattle.osc_space.specs.Share.{Regions}
use Rattle.osc_space.specs.Agree.{SpaceAgrees}
use Rattle.osc_space.specs.Fork.{Forked, fork_reasons, fork_plan}
use Rattle.osc_fork.specs.declared.plan.ForkPlan.{ForkPlan}
use Rattle.osc_fork.specs.declared.plan.ForkPlan.TheVariants.{Copied, NoFrames}

-- a memory of these parts, in which these objects wait
abbrev pub space_of : KeptTables → Grants → Heap → List ℕ → Space
space_of tables marks heap waiting =
    record { tables = tables; objects = marks.objects; waiting = waiting; shadows = marks.limit; heap = heap }

-- these are parts of a process that agree, in a machine of at most 4096 frames
pub record PartsAgree (tables : KeptTables) (marks : Grants) (heap : Heap) (free : List Bool) : Type 0 where
  pub few : length free ≤ 4096
  pub kind : HeapKind
  pub waiting : List ℕ
  pub regions : Regions
  pub agrees : SpaceAgrees kind (space_of tables marks heap waiting) regions free

-- what a fork changes: the parts of the child, the free frames and the jobs
pub record Forking : Type 0 where
  pub tables : KeptTables
  pub marks : Grants
  pub heap : Heap
  pub free : List Bool
  pub jobs : List Job

abbrev pub forking : KeptTables → Grants → Heap → List Bool → List Job → Forking
forking tables marks heap free jobs = record { tables = tables; marks = marks; heap = heap; free = free; jobs = jobs }

-- the child, where these objects wait, with the names of its frames
abbrev pub forked_to : List ℕ → List ℕ → Forking → Forked
forked_to waiting names f = record { child = space_of f.tables f.marks f.heap waiting; names = names; free = f.free; jobs = f.jobs }

-- more jobs before those of a fork
abbrev pub after_jobs : List Job → Forked → Forked
after_jobs jobs f = record f { jobs = jobs ++ f.jobs }

-- a fork answers its first reason and changes nothing then; where there is none, it is done
abbrev pub IsForkPlan : Space → ForkPlan → Forking → List ℕ → Forking → Type 0
IsForkPlan s Copied old names new =
    (first_reason (fork_reasons s old.free) ≡ None) × (forked_to s.waiting names new ≡ after_jobs old.jobs (fork_plan s old.free))
IsForkPlan s NoFrames old names new = (first_reason (fork_reasons s old.free) ≡ Some answer.NoFrames) × (new ≡ old)
