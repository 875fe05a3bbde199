-- What a world that is given events has judged, and what it answers.
use Rattle.std.specs.Prelude.{ℕ, Bool, if◌then◌else◌, List, [], Option, Some, None}
use Rattle.std.specs.Option.{option_map, option_map_or, option_and_then}
use Rattle.osc_word.specs.declared.steps.Event.{Event}
use Rattle.osc_world.specs.declared.ObjectWhy.{ObjectWhy}
use Rattle.osc_world.specs.declared.ObjectWhy.TheVariants.{Trap}
use Rattle.osc_world.specs.Offers.{Meaning, Goes, Errs, Unfit}
use Rattle.osc_world.specs.States.{status_of}
use Rattle.osc_world.specs.World.{World, WorldTurn}
use Rattle.osc_world.specs.Run.{ObjectRun, judged}
use Rattle.osc_judge.specs.declared.judging.Judged.{Judged}
use Rattle.osc_judge.specs.declared.judging.Judged.TheVariants.{Clean, Error}
use Rattle.osc_judge.specs.declared.judging.JudgedError.{JudgedError}

-- the world after an event of this meaning
abbrev pub world_after : World → Meaning World ObjectWhy → World
world_after world (Goes now) = now
world_after world (Errs why) = world
world_after world Unfit = world

-- the error of an event; one that does not fit is a trap
abbrev pub error_of : Meaning World ObjectWhy → Option ObjectWhy
error_of (Goes now) = None
error_of (Errs why) = Some why
error_of Unfit = Some Trap

-- the process of a hart's thread, where the hart runs one
abbrev pub pid_of : Option WorldTurn → Option ℕ
pid_of turn = option_map (λ (t : WorldTurn). t.pid) turn

-- ---- a run, or nothing once memory was wanting

abbrev pub run_of : Bool → World → ℕ → Option ObjectWhy → Option ObjectRun
run_of lost world events error = if lost then None else Some (record { world = world; events = events; error = error })

abbrev pub judged_by : Event → Option ObjectRun → Option ObjectRun
judged_by event run = option_map (λ (r : ObjectRun). judged r event) run

abbrev pub judgement_of : Option ObjectWhy → Judged
judgement_of None = Clean
judgement_of (Some why) = Error why

-- what is answered after an event
abbrev pub judgement : Option ObjectRun → Option Judged
judgement run = option_map (λ (r : ObjectRun). judgement_of r.error) run

-- the first error
abbrev pub error_in : ObjectRun → Option JudgedError
error_in run = option_map (λ why. record { event = run.events; why = why }) run.error

abbrev pub first_error : Option ObjectRun → Option JudgedError
first_error run = option_and_then error_in run

-- how process 0 ended
abbrev pub ending : Option ObjectRun → Option ℕ
ending run = option_and_then (λ (r : ObjectRun). status_of r.world) run

abbrev pub output_in : Option ObjectRun → List ℕ
output_in run = option_map_or (λ (r : ObjectRun). r.world.output) run []
