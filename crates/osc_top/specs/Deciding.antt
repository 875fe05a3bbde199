-- What is decided before anything is written. This project's own.
use Rattle.std.specs.Prelude.{◌≡◌, ◌≢◌, ℕ, List, Option, Result, Ok, Err, Vec}
use Rattle.std.specs.declared.alloc.Global.{Global}
use Rattle.osc_cli.specs.declared.task.Task.{Task}
use Rattle.osc_cli.specs.declared.task.Mode.TheVariants.{Gen}
use Rattle.osc_cli.specs.declared.task.WordsFault.{WordsFault}
use Rattle.osc_cli.specs.declared.task.WordsFault.TheVariants as words_fault
use Rattle.osc_top.specs.declared.outcome.Outcome.{Outcome}
use Rattle.osc_top.specs.declared.outcome.Outcome.TheVariants.{UnknownWords, BadOption, NoMemory}
use Rattle.osc_top.specs.declared.outcome.Refusal.{Refusal}
use Rattle.osc_top.specs.declared.outcome.Refusal.TheVariants as refusal
use Rattle.osc_top.specs.declared.decision.Decision.{Decision}
use Rattle.osc_top.specs.declared.decision.Decision.TheVariants.{Refused, Ran, Made}
use Rattle.osc_top.specs.declared.decision.Over.{Over}
use Rattle.osc_top.specs.Due.{Due, over_due, refused, HasGuestStatus}
use Rattle.osc_top.specs.Making.{done, IsDue}
use Rattle.osc_top.specs.Answer.{HasFile, TakesFront}
use Rattle.osc_core.specs.Shared.{state_of}
use Rattle.osc_core.specs.Sound.{Sound}
use Rattle.osc_machine.specs.Parts.{State}

-- the state of a run that is over
abbrev pub state_in : Over → State
state_in over = state_of over.machine over.harts.items

-- what a decision is due
abbrev pub due_in : Decision → Due
due_in (Refused outcome) = refused outcome
due_in (Ran over) = over_due over.picks (state_in over) over.verdict
due_in (Made output) = done output.items

-- a run that is over is one of a machine that is sound
abbrev pub IsSound : Decision → Type 0
IsSound (Refused outcome) = Unit {0}
IsSound (Ran over) = Sound (state_in over)
IsSound (Made output) = Unit {0}

-- what is due is decided
pub record Decides (d : Decision) (due : Due) : Type 0 where
  pub gives : due_in d ≡ due
  pub guest : HasGuestStatus (due_in d).outcome
  pub sound : IsSound d

-- something due that is wanted is decided
pub record DecidesFor (d : Decision) (IsWanted : Due → Type 0) : Type 0 where
  pub due : Due
  pub decides : Decides d due
  pub wanted : IsWanted due

-- the file of a task was had
pub record HasBytes (task : Task) (before after : Option (List ℕ)) (file : List ℕ) : Type 0 where
  pub all : List ℕ
  pub same : (due : Due) → IsDue task file due → IsDue task all due
  pub had : HasFile task.mode task.number before after all
  pub front : TakesFront task.mode before after

-- why nothing was run of a task, whose source's count may have risen
abbrev pub StopsTask : Task → Option (List ℕ) → Option (List ℕ) → Type 0 → Refusal → Type 0
StopsTask task before after rose refusal.Source = rose × (task.mode ≢ Gen) × TakesFront task.mode before after
StopsTask task before after rose refusal.Memory = TakesFront task.mode before after

abbrev pub Obtains : Task → Option (List ℕ) → Option (List ℕ) → Type 0 → Result (Vec ℕ Global) Refusal → Type 0
Obtains task before after rose (Ok file) = HasBytes task before after file.items
Obtains task before after rose (Err why) = StopsTask task before after rose why

-- ---- the whole of a task

-- a decision was made on the file of the task
pub record IsDecided (task : Task) (before after : Option (List ℕ)) (d : Decision) : Type 0 where
  pub file : List ℕ
  pub decides : DecidesFor d (IsDue task file)
  pub had : HasFile task.mode task.number before after file

abbrev pub ComesTo : Task → Option (List ℕ) → Option (List ℕ) → Type 0 → Result Decision Refusal → Type 0
ComesTo task before after rose (Ok d) = IsDecided task before after d
ComesTo task before after rose (Err why) = StopsTask task before after rose why

-- how a call ends whose words are no task
abbrev pub words_outcome : WordsFault → Outcome
words_outcome words_fault.Words = UnknownWords
words_outcome (words_fault.Value place) = BadOption place
words_outcome words_fault.Memory = NoMemory
