-- Runs of the machine: one hart after another makes a step, in the order of a list of picks. This
-- project's own.
use Rattle.std.specs.Prelude.{ℕ, ◌≡◌, true, if◌then◌else◌, List, [], ◌∷◌, ◌++◌, take}
use Rattle.std.specs.Option.{option_to_list}
use Rattle.osc_word.specs.declared.steps.Event.{Event}
use Rattle.osc_word.specs.declared.steps.Label.{Label}
use Rattle.osc_machine.specs.Parts.{State}
use Rattle.osc_machine.specs.Step.{Stepped, step}
use Rattle.osc_machine.specs.Views.{machine_over}

-- where a run stands: the state, the events that committed and the labels that were shown, the first
-- one first
pub record Ran : Type 0 where
  pub state : State
  pub commits : List Event
  pub trace : List Label

abbrev pub with_step : Ran → Stepped → Ran
with_step ran stepped = record {
  state = stepped.state;
  commits = ran.commits ++ option_to_list stepped.event;
  trace = ran.trace ++ stepped.shows;
}

-- on from where a run stands, over a list of picks
unfoldable pub run_on : List ℕ → Ran → Ran
run_on [] ran = ran
run_on (pick ∷ picks) ran = run_on picks (with_step ran (step ran.state pick))

-- from a state on
abbrev pub run : State → List ℕ → Ran
run start picks = run_on picks (record { state = start; commits = []; trace = [] })

-- after the first so many picks
abbrev pub at : State → List ℕ → ℕ → Ran
at start picks count = run start (take count picks)

-- ---- the end of a run
-- the first picks with which the machine is over, and no more; all of them where it isn't over with any
unfoldable pub until_over : State → List ℕ → List ℕ
until_over s [] = []
until_over s (pick ∷ picks) = if machine_over s then [] else pick ∷ until_over (step s pick).state picks

-- over these picks the machine ends: it is over at the last of them, and not before
pub record Ends (start : State) (picks : List ℕ) : Type 0 where
  pub over : machine_over (run start picks).state ≡ true
  pub shortest : until_over start picks ≡ picks
