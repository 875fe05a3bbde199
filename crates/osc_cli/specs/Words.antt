-- What the words of the command ask for. This project's own.
use Rattle.std.specs.Prelude.{◌≡◌, ◌≢◌, ◌⊎◌, ℕ, Bool, false, not, if◌then◌else◌, List, ◌∷◌, map, codes, Option, Some, None, is_some, unwrap_or, Result, Ok, Err}
use Rattle.std.specs.List.{position}
use Rattle.clap.specs.Words.{Row, Text, first_of}
use Rattle.osc_word.specs.declared.settings.HeapKind.{HeapKind}
use Rattle.osc_word.specs.declared.settings.HeapKind.TheVariants.{Oscar}
use Rattle.osc_word.specs.Limits.{first_fault}
use Rattle.osc_cli.specs.declared.task.Mode.{Mode}
use Rattle.osc_cli.specs.declared.task.Mode.TheVariants.{Run, Seed}
use Rattle.osc_cli.specs.declared.task.Task.{Task}
use Rattle.osc_cli.specs.declared.task.WordsFault.{WordsFault}
use Rattle.osc_cli.specs.declared.task.WordsFault.TheVariants.{Words, Value, Memory}
use Rattle.osc_cli.specs.Choices.{mode_of, heap_of, has_plain}
use Rattle.osc_cli.specs.Command.{is_refused, given}
use Rattle.osc_cli.specs.Numbers as numbers

abbrev pub mode_said : List Row → Option Mode
mode_said rows = mode_of (first_of (codes "mode") rows)

abbrev pub mode : List Row → Mode
mode rows = unwrap_or (mode_said rows) Seed

abbrev pub heap_said : List Row → Option HeapKind
heap_said rows = heap_of (mode rows) (first_of (codes "heap") rows)

-- for each option, in the table's order, whether its text is allowed
abbrev pub allowed : List Row → List Bool
allowed rows =
    is_some (mode_said rows) ∷ is_some (heap_said rows)
    ∷ map (λ o. is_some (numbers.number_said rows o)) numbers.number_options

abbrev pub number : List Row → numbers.NumberOption → ℕ
number rows o = unwrap_or (numbers.number_said rows o) o.otherwise

-- each field of the task is what its option says
abbrev pub task : List Row → Task
task rows = record {
  mode = mode rows;
  config = record {
    heap = unwrap_or (heap_said rows) Oscar;
    harts = number rows numbers.harts;
    processes = number rows numbers.processes;
    frames = number rows numbers.frames;
    shadows = number rows numbers.shadows;
    journal = number rows numbers.journal;
    levels = number rows numbers.levels;
    batch = number rows numbers.batch;
  };
  seed = number rows numbers.seed;
  picks = number rows numbers.picks;
  limit = number rows numbers.limit;
  number = number rows numbers.number;
}

abbrev pub refused_or : Option ℕ → Task → Result Task WordsFault
refused_or None task = Ok task
refused_or (Some place) task = Err (Value place)

-- the first option whose text is not allowed, else the task
unfoldable pub chosen : List Row → Result Task WordsFault
chosen rows = refused_or (position not (allowed rows)) (task rows)

-- what words, of which the first is the program's name, ask for
abbrev pub asked : List Text → Result Task WordsFault
asked words = if is_refused words then Err Words else chosen (given words)

-- an answer to the words: what they ask for, unless memory ran out
abbrev pub Says : List Text → Result Task WordsFault → Type 0
Says words answer = (answer ≡ Err Memory) ⊎ (answer ≡ asked words)

-- the task can be run one step after another: its configuration is in its limits, and the heap is one that
-- the mode allows
pub record IsReady (task : Task) : Type 0 where
  pub stepped : task.mode ≢ Run
  pub config : first_fault task.config ≡ None
  pub heap : has_plain task.mode ≡ false → task.config.heap ≡ Oscar
