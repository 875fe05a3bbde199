-- What is due for a task and a file: how the call ends, with which status, the output, and the text for
-- err. This project's own.
use Rattle.std.specs.Prelude.{ℕ, ◌<◌, nat_lt, if◌then◌else◌, List, [], ◌∷◌, ◌++◌, length, codes, Option, Some, None, Result, Ok, Err}
use Rattle.std.specs.Fmt.{decimal}
use Rattle.osc_image.specs.declared.ImageFault.{ImageFault}
use Rattle.osc_image.specs.Image.{Image}
use Rattle.osc_image.specs.Frames.{needed_frames}
use Rattle.osc_image.specs.Form.{image_of}
use Rattle.osc_machine.specs.declared.Ending.{Ending}
use Rattle.osc_machine.specs.declared.Ending.TheVariants as ending
use Rattle.osc_machine.specs.Parts.{State}
use Rattle.osc_machine.specs.Start.{start_of}
use Rattle.osc_machine.specs.Run.{run}
use Rattle.osc_machine.specs.Views.{counts_of, ending_of, machine_over, output_of, reports_of}
use Rattle.osc_machine.specs.Due.{report_lines, summary_line}
use Rattle.osc_seed.specs.Seeded.{picks_made}
use Rattle.std.specs.Prelude.{Bool, true, false}
use Rattle.osc_word.specs.declared.settings.Config.{Config}
use Rattle.osc_word.specs.declared.steps.Event.{Event}
use Rattle.osc_world.specs.Run.{object_run_of}
use Rattle.osc_judge.specs.declared.judging.JudgedError.{JudgedError}
use Rattle.osc_judge.specs.Judging.{error_in}
use Rattle.osc_cli.specs.declared.task.Mode.{Mode}
use Rattle.osc_cli.specs.declared.task.Mode.TheVariants.{Object}
use Rattle.osc_cli.specs.declared.task.Task.{Task}
use Rattle.osc_cli.specs.Command.{name_at}
use Rattle.osc_top.specs.declared.outcome.Outcome.{Outcome}
use Rattle.osc_top.specs.declared.outcome.Outcome.TheVariants.{UnknownWords, BadOption, BadImage, NoRoom, SourceFault, NoMemory, Spent, Fault, Exit, BadText, Done}
use Rattle.osc_top.specs.declared.outcome.Verdict.{Verdict}
use Rattle.osc_top.specs.declared.outcome.Verdict.TheVariants as verdict
use Rattle.osc_top.specs.Texts.{fault_text, line, object_text, text_fault}

-- the exit status of the program
abbrev pub status_of : Outcome → ℕ
status_of UnknownWords = 64
status_of (BadOption place) = 64
status_of (BadImage fault) = 65
status_of (NoRoom needed frames) = 65
status_of SourceFault = 66
status_of NoMemory = 68
status_of (Spent picks) = 69
status_of Fault = 70
status_of (Exit status) = status
status_of (BadText fault) = 72
status_of Done = 0

-- a guest's status is below 64
abbrev pub HasGuestStatus : Outcome → Type 0
HasGuestStatus UnknownWords = Unit {0}
HasGuestStatus (BadOption place) = Unit {0}
HasGuestStatus (BadImage fault) = Unit {0}
HasGuestStatus (NoRoom needed frames) = Unit {0}
HasGuestStatus SourceFault = Unit {0}
HasGuestStatus NoMemory = Unit {0}
HasGuestStatus (Spent picks) = Unit {0}
HasGuestStatus Fault = Unit {0}
HasGuestStatus (Exit status) = status < 64
HasGuestStatus (BadText fault) = Unit {0}
HasGuestStatus Done = Unit {0}

-- the statuses where the source failed, and where a sink did
abbrev pub source_fault : ℕ
source_fault = 66

abbrev pub sink_fault : ℕ
sink_fault = 67

-- ---- a call that runs nothing, and a run that is not over

abbrev pub option_text : ℕ → List (List ℕ)
option_text place = codes "oscar: usage: --" ∷ name_at place ∷ []

-- why, in pieces; nothing of a guest that ended and of work that was done
abbrev pub refusal_text : Outcome → List (List ℕ)
refusal_text UnknownWords = codes "oscar: usage: words" ∷ []
refusal_text (BadOption place) = option_text place
refusal_text (BadImage fault) = codes "oscar: image: " ∷ fault_text fault
refusal_text (NoRoom needed frames) = codes "oscar: image needs " ∷ decimal needed ∷ codes " frames of " ∷ decimal frames ∷ []
refusal_text SourceFault = codes "oscar: source fault" ∷ []
refusal_text NoMemory = codes "oscar: no memory" ∷ []
refusal_text (Spent picks) = codes "oscar: spent: picks " ∷ decimal picks ∷ []
refusal_text Fault = []
refusal_text (Exit status) = []
refusal_text (BadText fault) = codes "oscar: text: " ∷ text_fault fault
refusal_text Done = []

-- its line
abbrev pub refusal_line : Outcome → List ℕ
refusal_line outcome = line (refusal_text outcome)

-- how the call ends, the output for out, and the text for err
pub record Due : Type 0 where
  pub outcome : Outcome
  pub output : List ℕ
  pub text : List ℕ

-- no output, and the line that says why
abbrev pub refused : Outcome → Due
refused outcome = record { outcome = outcome; output = []; text = refusal_line outcome }

-- ---- a run that is judged in terms of objects

-- the mode that judges its runs
abbrev pub is_judged : Mode → Bool
is_judged Object = true
is_judged _ = false

abbrev pub verdict_of : Option JudgedError → Verdict
verdict_of None = verdict.Clean
verdict_of (Some error) = verdict.Error error

-- in a run that is judged, the first error of the object run over the events that committed, or none
abbrev pub judgement : Bool → Image → Config → List Event → Option Verdict
judgement false image config events = None
judgement true image config events = Some (verdict_of (error_in (object_run_of image config events)))

-- what is said of it, in pieces
abbrev pub verdict_text : Verdict → List (List ℕ)
verdict_text verdict.Clean = codes "object: clean" ∷ []
verdict_text (verdict.Error error) = codes "object: error at event " ∷ decimal error.event ∷ codes ": " ∷ object_text error.why ∷ []

-- its line, and none where the run is not judged
abbrev pub verdict_line : Option Verdict → List ℕ
verdict_line None = []
verdict_line (Some said) = line (verdict_text said)

-- ---- a run that is over

-- how process 0 ended, which it has in every machine that is over
abbrev pub outcome_of : Option Ending → Outcome
outcome_of None = Fault
outcome_of (Some ending.Fault) = Fault
outcome_of (Some (ending.Exit status)) = Exit status

-- the summary of a run of so many picks, and what is said of it where it is judged
abbrev pub mode_lines : ℕ → State → Option Verdict → List ℕ
mode_lines picks s said = summary_line picks (counts_of s) ++ verdict_line said

-- the output, a line for each report, and the lines of the mode, of a run of so many picks that ends so
abbrev pub over_due : ℕ → State → Option Verdict → Due
over_due picks s said = record {
  outcome = outcome_of (ending_of s);
  output = output_of s;
  text = report_lines (reports_of s) ++ mode_lines picks s said;
}

-- a run that isn't over is spent
abbrev pub ran_due : Task → ℕ → State → Option Verdict → Due
ran_due task picks s said = if machine_over s then over_due picks s said else refused (Spent task.picks)

-- ---- a task and its file

-- the machine runs from its start over the picks of the task's seed, until it is over, and its events are
-- judged or not
abbrev pub seeded_due : Bool → Task → Image → State → Due
seeded_due judged task image start =
    let picks = picks_made start task.seed task.picks in
    let ran = run start picks in
    ran_due task (length picks) ran.state (judgement judged image task.config ran.commits)

abbrev pub run_due : Task → Image → State → Due
run_due task image start = seeded_due (is_judged task.mode) task image start

-- an image is run if its pages, the stack and their page tables fit the frames
abbrev pub image_due : Task → Result Image ImageFault → Due
image_due task (Err fault) = refused (BadImage fault)
image_due task (Ok image) =
    if nat_lt task.config.frames (needed_frames task.config.levels image)
    then refused (NoRoom (needed_frames task.config.levels image) task.config.frames)
    else run_due task image (start_of image task.config)

unfoldable pub due_of : Task → List ℕ → Due
due_of task file = image_due task (image_of file)
