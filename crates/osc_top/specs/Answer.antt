-- What a call of the machine promises: what was decided, from the words and the source, and what was
-- delivered to out and err. This project's own.
use Rattle.std.specs.Prelude.{◌≡◌, ◌≢◌, ℕ, ◌<◌, ◌≤◌, ◌⊎◌, List, length, take, drop, Option, Some, None, Ok, Err}
use Rattle.clap.specs.Words.{Text}
use Rattle.osc_outside.specs.Bytes.{Appends}
use Rattle.osc_cli.specs.declared.task.Task.{Task}
use Rattle.osc_cli.specs.declared.task.Mode.{Mode}
use Rattle.osc_cli.specs.declared.task.Mode.TheVariants.{Run, Seed, Object, Gen, Asm, Disasm}
use Rattle.osc_cli.specs.declared.task.WordsFault.TheVariants as words_fault
use Rattle.osc_cli.specs.Words.{asked}
use Rattle.osc_gen.specs.Guest.{guest_file}
use Rattle.osc_top.specs.declared.outcome.Outcome.{Outcome}
use Rattle.osc_top.specs.declared.outcome.Outcome.TheVariants.{UnknownWords, BadOption, BadImage, NoRoom, SourceFault, NoMemory, Spent, Fault, Exit, BadText, Done}
use Rattle.osc_top.specs.Due.{Due, refused, status_of, sink_fault, source_fault}
use Rattle.osc_top.specs.Making.{IsDue}
use Rattle.osc_top.specs.Loading.{longest_read, TakesPart}

-- ---- the file

-- the file is all that the source had left, where it tells that; it was read to its end or to the most
-- bytes that are read
abbrev pub IsRead : Option (List ℕ) → Option (List ℕ) → List ℕ → Type 0
IsRead None after file = after ≡ None
IsRead (Some bytes) after file = (file ≡ bytes) × (after ≡ Some (drop longest_read bytes))

-- the file is the guest of the number in the mode that makes one, and the source is as before; else it is
-- what the source had
abbrev pub HasFile : Mode → ℕ → Option (List ℕ) → Option (List ℕ) → List ℕ → Type 0
HasFile Run number before after file = IsRead before after file
HasFile Seed number before after file = IsRead before after file
HasFile Object number before after file = IsRead before after file
HasFile Gen number before after file = (file ≡ guest_file number) × (after ≡ before)
HasFile Asm number before after file = IsRead before after file
HasFile Disasm number before after file = IsRead before after file

-- only the front of what the source had was taken, and nothing in the mode that reads no source
abbrev pub TakesFront : Mode → Option (List ℕ) → Option (List ℕ) → Type 0
TakesFront Run before after = TakesPart before after
TakesFront Seed before after = TakesPart before after
TakesFront Object before after = TakesPart before after
TakesFront Gen before after = after ≡ before
TakesFront Asm before after = TakesPart before after
TakesFront Disasm before after = TakesPart before after

-- ---- what a task comes to

-- the task's file was there whole, and what is due is what it gives
pub record FromFile (task : Task) (before after : Option (List ℕ)) (due : Due) : Type 0 where
  pub file : List ℕ
  pub gives : IsDue task file due
  pub had : HasFile task.mode task.number before after file

-- nothing is told of a run, and err is due the line that says why
pub record NothingTold (task : Task) (before after : Option (List ℕ)) (due : Due) (outcome : Outcome) : Type 0 where
  pub line : due ≡ refused outcome
  pub front : TakesFront task.mode before after

-- the cause of each outcome of a task: what the source had left before and after, and whether its count of
-- faults rose
abbrev pub TaskCause : Task → Option (List ℕ) → Option (List ℕ) → Type 0 → Due → Outcome → Type 0
TaskCause task before after rose due UnknownWords = ⊥
TaskCause task before after rose due (BadOption place) = ⊥
TaskCause task before after rose due SourceFault = rose × (task.mode ≢ Gen) × NothingTold task before after due SourceFault
TaskCause task before after rose due NoMemory = NothingTold task before after due NoMemory
TaskCause task before after rose due (BadImage fault) = FromFile task before after due
TaskCause task before after rose due (NoRoom needed frames) = FromFile task before after due
TaskCause task before after rose due (Spent picks) = FromFile task before after due
TaskCause task before after rose due Fault = FromFile task before after due
TaskCause task before after rose due (Exit status) = (status < 64) × FromFile task before after due
TaskCause task before after rose due (BadText fault) = FromFile task before after due
TaskCause task before after rose due Done = FromFile task before after due

abbrev pub TaskDecided : Task → Option (List ℕ) → Option (List ℕ) → Type 0 → Due → Type 0
TaskDecided task before after rose due = TaskCause task before after rose due due.outcome

-- ---- what words come to

-- the words ask for a task, and what is due is what it comes to
pub record FromTask (words : List Text) (before after : Option (List ℕ)) (rose : Type 0) (due : Due) : Type 0 where
  pub task : Task
  pub asks : asked words ≡ Ok task
  pub decided : TaskDecided task before after rose due

-- nothing was read, and err is due the line that says why
pub record Untouched (before after : Option (List ℕ)) (due : Due) (outcome : Outcome) : Type 0 where
  pub line : due ≡ refused outcome
  pub unread : after ≡ before

-- the cause of each outcome of words
abbrev pub WordsCause : List Text → Option (List ℕ) → Option (List ℕ) → Type 0 → Due → Outcome → Type 0
WordsCause words before after rose due UnknownWords =
    (asked words ≡ Err words_fault.Words) × Untouched before after due UnknownWords
WordsCause words before after rose due (BadOption place) =
    (asked words ≡ Err (words_fault.Value place)) × Untouched before after due (BadOption place)
WordsCause words before after rose due NoMemory =
    Untouched before after due NoMemory ⊎ FromTask words before after rose due
WordsCause words before after rose due SourceFault = FromTask words before after rose due
WordsCause words before after rose due (BadImage fault) = FromTask words before after rose due
WordsCause words before after rose due (NoRoom needed frames) = FromTask words before after rose due
WordsCause words before after rose due (Spent picks) = FromTask words before after rose due
WordsCause words before after rose due Fault = FromTask words before after rose due
WordsCause words before after rose due (Exit status) = FromTask words before after rose due
WordsCause words before after rose due (BadText fault) = FromTask words before after rose due
WordsCause words before after rose due Done = FromTask words before after rose due

abbrev pub WordsDecided : List Text → Option (List ℕ) → Option (List ℕ) → Type 0 → Due → Type 0
WordsDecided words before after rose due = WordsCause words before after rose due due.outcome

-- ---- what was delivered

-- the sink holds what it held, and after that a front of the text
abbrev pub AppendsFront : Option (List ℕ) → Option (List ℕ) → List ℕ → Type 0
AppendsFront before after text = (count : ℕ) × Appends before after (take count text)

-- a sink failed: out holds a front of the output, and err a front of the text, which is empty unless
-- out got all. Where out did not fail, it got all
pub record Broken (out_before out_after err_before err_after : Option (List ℕ)) (out_rose err_rose : Type 0) (output text : List ℕ) : Type 0 where
  pub of_output : ℕ
  pub of_text : ℕ
  pub out : Appends out_before out_after (take of_output output)
  pub err : Appends err_before err_after (take of_text text)
  pub cause : out_rose ⊎ (err_rose × (length output ≤ of_output))
  pub order : 0 < of_text → length output ≤ of_output

-- both sinks got all of it
pub record Whole (out_before out_after err_before err_after : Option (List ℕ)) (due : Due) (status : ℕ) : Type 0 where
  pub answer : status ≡ status_of due.outcome
  pub out : Appends out_before out_after due.output
  pub err : Appends err_before err_after due.text

pub record Delivered (out_before out_after err_before err_after : Option (List ℕ)) (out_rose err_rose : Type 0) (due : Due) (status : ℕ) : Type 0 where
  pub whole : status ≢ sink_fault → Whole out_before out_after err_before err_after due status
  pub part : status ≡ sink_fault → Broken out_before out_after err_before err_after out_rose err_rose due.output due.text

-- what a task comes to was delivered
pub record TaskAnswers (task : Task) (before after out_before out_after err_before err_after : Option (List ℕ))
    (source_rose out_rose err_rose : Type 0) (status : ℕ) : Type 0 where
  pub due : Due
  pub decided : TaskDecided task before after source_rose due
  pub delivered : Delivered out_before out_after err_before err_after out_rose err_rose due status

-- what words come to was delivered
pub record Answers (words : List Text) (before after out_before out_after err_before err_after : Option (List ℕ))
    (source_rose out_rose err_rose : Type 0) (status : ℕ) : Type 0 where
  pub due : Due
  pub decided : WordsDecided words before after source_rose due
  pub delivered : Delivered out_before out_after err_before err_after out_rose err_rose due status

-- an answer that tells of no fault of the outside leaves the three counts of faults as they were
abbrev pub Quiet : ℕ → ℕ → ℕ → ℕ → ℕ → ℕ → ℕ → Type 0
Quiet source_before source_after out_before out_after err_before err_after status =
    status ≢ source_fault → status ≢ sink_fault
    → (source_after ≡ source_before) × (out_after ≡ out_before) × (err_after ≡ err_before)
