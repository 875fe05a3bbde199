-- The law of objects: they only grow. What was granted keeps its place, its pages, its size and its
-- addresses, whoever died stays dead by the same call, and no mark falls.
use Rattle.std.specs.Prelude.{ℕ, ◌≡◌, ◌≤◌, List, [], ◌∷◌, Option, Some, None}
use Rattle.osc_word.specs.declared.calls.Request.{Request}
use Rattle.osc_space.specs.declared.ObjectFact.{ObjectFact}
use Rattle.osc_space.specs.declared.ObjectState.TheVariants.{Dead}
use Rattle.osc_space.specs.Objects.{mark}
use Rattle.osc_space.specs.Header.{Found}
use Rattle.osc_calls.specs.Kernel.{KernelState, Process, process_at}
use Rattle.osc_calls.specs.Plan.{plan}
use Rattle.osc_calls.specs.Begin.{begin}
use Rattle.osc_calls.specs.JobDone.{job_done}
use Rattle.osc_calls.specs.Finish.{finish}

-- an object, and what is kept of it later
pub record StaysObject (o later : ObjectFact) : Type 0 where
  pub first : later.first ≡ o.first
  pub pages : later.pages ≡ o.pages
  pub size : later.size ≡ o.size
  pub user : later.user ≡ o.user
  pub canon : later.canon ≡ o.canon
  pub dead : (call : ℕ) → o.state ≡ Dead call → later.state ≡ Dead call

abbrev pub Grown : List ObjectFact → List ObjectFact → Type 0
Grown [] later = Unit {0}
Grown (o ∷ objects) [] = ⊥
Grown (o ∷ objects) (l ∷ later) = StaysObject o l × Grown objects later

-- so the mark does not fall
abbrev pub GrownMarks : Type 0
GrownMarks = (objects later : List ObjectFact) → Grown objects later → mark objects ≤ mark later

-- a process is there, and has all these objects
abbrev pub HasGrown : List ObjectFact → Option Process → Type 0
HasGrown objects None = ⊥
HasGrown objects (Some p) = Grown objects p.space.objects

abbrev pub KeepsObjects : KernelState → KernelState → Type 0
KeepsObjects kernel next =
    (pid : ℕ) (p : Process) → process_at kernel pid ≡ Some p → HasGrown p.space.objects (process_at next pid)

pub record ObjectsGrow : Type 0 where
  pub begun : (hart pc : ℕ) (regs : List ℕ) (request : Request) (kernel : KernelState)
      → KeepsObjects kernel (begin hart regs pc request kernel).kernel
  pub planned : (found : Found) (kernel : KernelState) → KeepsObjects kernel (plan found kernel).kernel
  pub job_done : (word : ℕ) (kernel : KernelState) → KeepsObjects kernel (job_done word kernel).kernel
  pub finished : (kernel : KernelState) → KeepsObjects kernel (finish kernel).kernel
