-- What the code has of an event under way, as the definitions speak of it.
use Rattle.std.specs.Prelude.{ℕ, Result, Ok, Err}
use Rattle.std.specs.Option.{option_map}
use Rattle.osc_world.specs.World.{World, WorldTurn, WorldPut, WorldStep, Memory}
use Rattle.osc_world.specs.States.{Hart, Process}
use Rattle.osc_world.specs.declared.Value.{Value}
use Rattle.osc_world.specs.Values.{spread}
use Rattle.osc_object.specs.declared.turn.Turn.{Turn}
use Rattle.osc_object.specs.declared.turn.Put.{Put}
use Rattle.osc_object.specs.declared.steps.Step.{Step}

-- a result with its value shown
abbrev pub shown_by : {A B E : Type 0} → (A → B) → Result A E → Result B E
shown_by show (Ok value) = Ok (show value)
shown_by show (Err why) = Err why

abbrev pub turn_shown : Turn → WorldTurn
turn_shown turn =
    record { state = turn.state.now; number = turn.number; hart = turn.hart.now; pid = turn.pid; process = turn.process.now }

abbrev pub put_shown : Put → WorldPut
put_shown put = record { at = put.at; bytes = spread put.width put.value }

abbrev pub step_shown : Step → WorldStep
step_shown step =
    record {
      put = option_map put_shown step.put;
      rd = step.rd;
      value = step.value;
      pc = step.pc;
      reservation = step.reservation;
    }

-- the turn of a hart that runs a thread of a process
abbrev pub turn_from : World → ℕ → Hart Value → ℕ → Process Memory → WorldTurn
turn_from state number hart pid process = record { state = state; number = number; hart = hart; pid = pid; process = process }
