-- The machine without its harts, as its owner sees it, and the state that it is with them.
use Rattle.std.specs.Prelude.{ℕ, ◌%◌, ◌^◌, nat_le, Option, List}
use Rattle.osc_word.specs.declared.settings.Config.{Config}
use Rattle.osc_word.specs.declared.steps.Event.{Event}
use Rattle.osc_word.specs.declared.steps.Label.{Label}
use Rattle.osc_paging.specs.Boxes.{BoxState}
use Rattle.osc_kernel.specs.Seen.{SeenKernel}
use Rattle.osc_machine.specs.Parts.{Gate, HartState, State}
use Rattle.osc_machine.specs.Step as machine
use Rattle.osc_machine.specs.Views.{label_in}
use Rattle.osc_turns.specs.Seen.{kernel_in}
use Rattle.osc_turns.specs.declared.place.Stepped.{Stepped}

-- what the harts share: the words and the gates of memory, the boxes and the kernel that are at home, and
-- the configuration that the machine began with
pub record Shared : Type 0 where
  pub words : List ℕ
  pub gates : List Gate
  pub boxes : List (Option BoxState)
  pub kernel : Option SeenKernel
  pub config : Config

abbrev pub state_of : Shared → List HartState → State
state_of m harts = record {
  words = m.words;
  gates = m.gates;
  kernel = kernel_in m.kernel;
  boxes = m.boxes;
  harts = harts;
}

-- ---- gates
-- a gate stands in one word: its version below 2^63, and 2^63 more while it is taken
abbrev pub gate_of : ℕ → Gate
gate_of word = record { version = word % 2 ^ 63; taken = nat_le (2 ^ 63) word }

-- ---- a step
-- the state, the event and the label beside the objects that were let go
pub record Seen : Type 0 where
  pub state : State
  pub event : Option Event
  pub label : Option Label

abbrev pub seen : machine.Stepped → Seen
seen x = record { state = x.state; event = x.event; label = label_in x.shows }

abbrev pub shown : State → Stepped → Seen
shown s stepped = record { state = s; event = stepped.commit; label = stepped.label }
