-- What a run has shown is true of the objects that the kernel keeps: each page that it granted is one of an
-- object, and each page that waits or is dead is one of an object that died by the call that was shown. This
-- project's own.
use Rattle.std.specs.Prelude.{ℕ, ◌-◌, ◌≡◌, ◌<◌, ◌≤◌, ◌==◌, false, true, if◌then◌else◌, Some, None, Ok, List, [], ◌∷◌, length, slice_get}
use Rattle.osc_word.specs.declared.calls.Answer.{Answer}
use Rattle.osc_word.specs.declared.calls.Answer.TheVariants as answers
use Rattle.osc_word.specs.declared.settings.Config.{Config}
use Rattle.osc_word.specs.Limits.{first_fault}
use Rattle.osc_image.specs.Image.{Image}
use Rattle.osc_image.specs.Frames.{needed_frames}
use Rattle.osc_image.specs.Form.{image_of}
use Rattle.osc_space.specs.declared.ObjectFact.{ObjectFact}
use Rattle.osc_space.specs.declared.ObjectState.TheVariants.{Dead}
use Rattle.osc_space.specs.Space.{Space}
use Rattle.osc_space.specs.Objects.{fact}
use Rattle.osc_space.specs.Agree.{is_waiting}
use Rattle.osc_calls.specs.Kernel.{KernelState, Process, Committed, UnderWay, Returning, process_at}
use Rattle.osc_machine.specs.DeadPages.{Shadow, Grave, Past, no_past, past_of, pasts_from}
use Rattle.osc_machine.specs.Run.{Ran, run}
use Rattle.osc_machine.specs.Start.{start_of}
use Rattle.osc_machine.specs.Laws.{HasKernel}

-- ---- one process
-- a shadow is that of one of the first so many objects
pub record WasGranted (objects : List ObjectFact) (said : ℕ) (s : Shadow) : Type 0 where
  pub o : ObjectFact
  pub is : fact objects s.object ≡ Some o
  pub less : s.object < said
  pub first : s.first ≡ o.first
  pub pages : s.pages ≡ o.pages

-- and that object died by this call
pub record WasBuried (objects : List ObjectFact) (said : ℕ) (g : Grave) : Type 0 where
  pub was : WasGranted objects said g.shadow
  pub state : was.o.state ≡ Dead g.call

pub record PastFits (s : Space) (said : ℕ) (past : Past) : Type 0 where
  pub granted : (i : ℕ) (x : Shadow) → slice_get past.granted i ≡ Some x → WasGranted s.objects said x
  pub waiting : (i : ℕ) (g : Grave) → slice_get past.waiting i ≡ Some g → WasBuried s.objects said g
  pub dead : (i : ℕ) (g : Grave) → slice_get past.dead i ≡ Some g → WasBuried s.objects said g
  -- what is dead waits no more
  pub over : (i : ℕ) (g : Grave) → slice_get past.dead i ≡ Some g → is_waiting s g.shadow.object ≡ false

pub record IsDead (objects : List ObjectFact) (object : ℕ) : Type 0 where
  pub o : ObjectFact
  pub call : ℕ
  pub is : fact objects object ≡ Some o
  pub state : o.state ≡ Dead call

-- ---- the call under way
-- the objects that were told of: of so many all but the one that the call gives when it returns
abbrev pub told_before : Answer → ℕ → ℕ
told_before (answers.Given object pointer) count = object
told_before (answers.Moved old object pointer) count = object
told_before _ count = count

abbrev pub said_by : ℕ → UnderWay → ℕ → ℕ
said_by pid (Returning done) count = if done.calling.pid == pid then told_before done.answer count else count
said_by pid _ count = count

-- the object that a realloc moved is dead by its call, which is the last of so many, and does not wait
abbrev pub AnswerFits : Answer → ℕ → Space → Type 0
AnswerFits (answers.Moved old object pointer) calls s =
    (o : ObjectFact) × (fact s.objects old ≡ Some o) × (o.state ≡ Dead (calls - 1)) × (is_waiting s old ≡ false)
AnswerFits _ calls s = Unit {0}

-- ---- all processes
pub record KernelTold (pasts : List Past) (k : KernelState) : Type 0 where
  pub count : length pasts ≡ length k.processes
  pub each : (pid : ℕ) (p : Process) → process_at k pid ≡ Some p
      → PastFits p.space (said_by pid k.under_way (length p.space.objects)) (past_of pasts pid)
  pub waits : (pid object : ℕ) (p : Process) → process_at k pid ≡ Some p → is_waiting p.space object ≡ true → IsDead p.space.objects object
  pub answer : (done : Committed) (p : Process) → k.under_way ≡ Returning done → process_at k done.calling.pid ≡ Some p
      → AnswerFits done.answer (length k.journal) p.space

-- ---- the law
abbrev pub Told : Ran → Type 0
Told ran = (k : KernelState) → HasKernel ran.state k → KernelTold (pasts_from (no_past ∷ []) ran.trace) k

abbrev pub RunsTell : Type 0
RunsTell =
    (file : List ℕ) (image : Image) (config : Config) (picks : List ℕ)
    → first_fault config ≡ None → image_of file ≡ Ok image → needed_frames config.levels image ≤ config.frames
    → Told (run (start_of image config) picks)
