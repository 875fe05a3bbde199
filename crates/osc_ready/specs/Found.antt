-- What each step of a call finds of the process that it concerns. This project's own.
use Rattle.std.specs.Prelude.{ℕ, ◌≡◌, ◌<◌, ◌≤◌, true, All, List, [], length, slice_get, Option, Some, None, is_some}
use Rattle.osc_frames.specs.Free.{IsTaken}
use Rattle.osc_paging.specs.KeptTables.{root_of}
use Rattle.osc_space.specs.Space.{Space, first_reason}
use Rattle.osc_space.specs.Fork.{fork_plan, fork_reasons}
use Rattle.osc_space.specs.Share.{shared_frames}
use Rattle.osc_parts.specs.Frames.{FramesFit}
use Rattle.osc_parts.specs.Settled.{PartsFit}
use Rattle.osc_parts.specs.EndLaws.{AreHeld}
use Rattle.osc_calls.specs.declared.HartRecord.TheVariants.{Runs}
use Rattle.osc_calls.specs.Kernel.{KernelState, Process, Calling, Committed, Quiet, Waiting, Returning, Ends, process_at}
use Rattle.osc_share.specs.Holding.{AreDifferent, CanJoin, IsHeld}
use Rattle.osc_thread.specs.Lives.{is_alive}
use Rattle.osc_settled.specs.Memory.{Returns}
use Rattle.osc_settled.specs.KernelFits.{KernelFits}

-- ---- between two calls
-- a process that has not ended and whose parts fit, in a machine of at most 4096 frames; the frames of its
-- regions can be held once more
pub record ProcessFits (k : KernelState) (p : Process) : Type 0 where
  pub lives : p.status ≡ None
  pub parts : PartsFit k.config.heap k.config.batch k.regions p.space k.free
  pub few : length k.free ≤ 4096
  pub regions : length k.regions ≡ length k.free
  pub different : AreDifferent (shared_frames p.space.tables)
  pub joins : All (CanJoin k.regions) (shared_frames p.space.tables)

-- there is such a process of this number
pub record HasProcess (k : KernelState) (pid : ℕ) : Type 0 where
  pub process : Process
  pub at : process_at k pid ≡ Some process
  pub fits : ProcessFits k process

abbrev pub AskersFit : Type 0
AskersFit =
    (words : List ℕ) (k : KernelState) (hart pid : ℕ) (thread : Option ℕ)
    → KernelFits words k → k.under_way ≡ Quiet → slice_get k.records hart ≡ Some (Runs pid thread) → HasProcess k pid

-- ---- before a plan
-- the child of a fork that is not refused has a topmost table, and its regions can be held once more
pub record ChildFits (k : KernelState) (child : Space) : Type 0 where
  pub root : is_some (root_of child.tables) ≡ true
  pub different : AreDifferent (shared_frames child.tables)
  pub joins : All (CanJoin k.regions) (shared_frames child.tables)

pub record CallerFits (k : KernelState) (c : Calling) : Type 0 where
  pub has : HasProcess k c.pid
  pub jobs : k.jobs ≡ []
  pub room : length k.journal < k.config.journal
  pub hart : c.hart < length k.records
  pub runs : slice_get k.records c.hart ≡ Some (Runs c.pid c.thread)
  pub alive : (number : ℕ) → c.thread ≡ Some number → is_alive k.threads number ≡ true
  pub forks : first_reason (fork_reasons has.process.space k.free) ≡ None → ChildFits k (fork_plan has.process.space k.free).child

abbrev pub CallersFit : Type 0
CallersFit = (words : List ℕ) (k : KernelState) (c : Calling) → KernelFits words k → k.under_way ≡ Waiting c → CallerFits k c

-- ---- before a return
-- the call's process has not ended, and its return frees what it holds no more
pub record ReturnerFits (k : KernelState) (done : Committed) : Type 0 where
  pub process : Process
  pub at : process_at k done.calling.pid ≡ Some process
  pub lives : process.status ≡ None
  pub few : length k.free ≤ 4096
  pub hart : done.calling.hart < length k.records
  pub journal : 0 < length k.journal
  pub frames : FramesFit process.space k.free
  pub returns : Returns k.config.heap k.config.batch k.regions done.closing process.space k.free

abbrev pub ReturnersFit : Type 0
ReturnersFit =
    (words : List ℕ) (k : KernelState) (done : Committed) → KernelFits words k → k.under_way ≡ Returning done → ReturnerFits k done

-- a call that ends its process: the parts fit still, and the frames of its regions are held and taken
pub record EnderFits (k : KernelState) (done : Committed) (p : Process) : Type 0 where
  pub fits : ProcessFits k p
  pub held : All (IsHeld k.regions) (shared_frames p.space.tables)
  pub covered : AreHeld k.regions (shared_frames p.space.tables)
  pub taken : All (IsTaken k.free) (shared_frames p.space.tables)

abbrev pub EndersFit : Type 0
EndersFit =
    (words : List ℕ) (k : KernelState) (done : Committed) (p : Process) (status : ℕ)
    → KernelFits words k → k.under_way ≡ Returning done → done.effect ≡ Ends status → process_at k done.calling.pid ≡ Some p
    → EnderFits k done p
