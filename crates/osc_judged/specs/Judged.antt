-- Judged runs: the events of a seeded run are given to a world of objects as they commit.
use Rattle.std.specs.Prelude.{ℕ, ◌≡◌, List, Option, None, option_map}
use Rattle.osc_word.specs.declared.steps.Event.{Event}
use Rattle.osc_machine.specs.Parts.{State}
use Rattle.osc_machine.specs.Run.{at}
use Rattle.osc_world.specs.Run.{ObjectRun, object_run}

-- the object run over these events more; nothing is known of it once memory was wanting
abbrev pub judged_over : List Event → Option ObjectRun → Option ObjectRun
judged_over events run = option_map (λ (r : ObjectRun). object_run r events) run

-- where memory was wanting, the machine stands after the first so many of its picks, and nothing is known of
-- the world any more
pub record Stops (start : State) (picks : List ℕ) (s : State) (world : Option ObjectRun) : Type 0 where
  pub made : ℕ
  pub state : s ≡ (at start picks made).state
  pub lost : world ≡ None
