-- What a deed changes in a hart, a process and a shared page.
use Rattle.std.specs.Prelude.{ℕ, ◌%◌, List, [], ◌∷◌, ◌++◌, length, map, replicate, slice_get, slice_set, Option, Some, None}
use Rattle.std.specs.Option.{option_map_or}
use Rattle.osc_word.specs.Environment.{answer_register}
use Rattle.osc_isa.specs.Integer.{next}
use Rattle.osc_world.specs.declared.Value.{Value}
use Rattle.osc_world.specs.declared.Value.TheVariants.{Num}
use Rattle.osc_world.specs.declared.Byte.{Byte}
use Rattle.osc_world.specs.declared.Place.{Place}
use Rattle.osc_world.specs.declared.Reservation.{Reservation}
use Rattle.osc_world.specs.States.{Hart, Process, Thread, idle, with_value, changed_at}
use Rattle.osc_world.specs.World.{World, WorldPut, WorldStep, Memory, ObjectDeed}
use Rattle.osc_memory.specs.Places.{with_heap, with_status, holding}
use Rattle.osc_world.specs.Deeds.{stopped, shared_next, status_after, left_by}
use Rattle.osc_world.specs.Calls.{zeros}
use Rattle.osc_world.specs.Accesses.{memory_overlaid, shared_overlaid, overlaid, disturbed}

-- a hart that goes on
abbrev pub on : ℕ → Value → ℕ → Option Reservation → Hart Value → Hart Value
on rd value pc reservation hart = record hart { regs = with_value hart.regs rd value; pc = pc; reservation = reservation }

-- a process after a store
abbrev pub with_put : Place → List Byte → Process Memory → Process Memory
with_put at bytes process = record process { memory = memory_overlaid process.memory at.area at.offset bytes }

-- a shared page after a store
abbrev pub with_overlaid : ℕ → List Byte → List Byte → List Byte
with_overlaid offset others bytes = overlaid bytes offset others

-- a hart whose call was answered
abbrev pub answered : Value → Hart Value → Hart Value
answered value hart = on answer_register value (next hart.pc) None hart

-- the first thread of a child with this number, by its caller
abbrev pub child_on : ℕ → Hart Value → Hart Value
child_on pid hart = record (answered (Num 0) hart) { process = Some pid; thread = None }

-- a child of process `pid`
abbrev pub child_of : ℕ → Process Memory → Process Memory
child_of pid process = record { memory = process.memory; shared = process.shared; parent = Some pid; status = None }

-- a thread that leaves a value
abbrev pub leaving : Value → Thread Value → Thread Value
leaving value thread = record thread { value = Some value }

-- the address of the next shared page of a process, if there is one
abbrev pub next_address : Option (Process Memory) → ℕ
next_address process = option_map_or shared_next process 0

-- ---- the whole state; hart `number` runs a thread of process `pid`

abbrev pub put_by : ℕ → Option WorldPut → World → World
put_by pid None world = world
put_by pid (Some put) world =
    record world {
      processes = changed_at (with_put put.at put.bytes) world.processes pid;
      shared = shared_overlaid world.shared put.at.area put.at.offset put.bytes;
      harts = map (disturbed pid put.at) world.harts;
    }

-- after a step
abbrev pub stepped : ℕ → ℕ → WorldStep → World → World
stepped number pid step world =
    let now = put_by pid step.put world in
    record now { harts = changed_at (on step.rd step.value step.pc step.reservation) now.harts number }

-- after a call of the heap, with its answer
abbrev pub served : ℕ → ℕ → ObjectDeed → Value → World → World
served number pid deed value world =
    record world {
      processes = changed_at (with_heap deed) world.processes pid;
      harts = changed_at (answered value) world.harts number;
    }

-- after output
abbrev pub written : ℕ → List ℕ → World → World
written number bytes world =
    record world {
      output = world.output ++ bytes;
      harts = changed_at (answered (Num (length bytes))) world.harts number;
    }

-- after the end of a process
abbrev pub ended : ℕ → ℕ → World → World
ended pid status world =
    record world {
      processes = changed_at (with_status (Some (status % 64))) world.processes pid;
      harts = map (stopped pid) world.harts;
    }

-- after a share of zero pages of so many bytes, whose address is answered
abbrev pub shared_by : ℕ → ℕ → ℕ → ℕ → World → World
shared_by number pid count size world =
    record world {
      processes = changed_at (holding (length world.shared) count) world.processes pid;
      shared = world.shared ++ replicate count (zeros size);
      harts = changed_at (answered (Num (next_address (slice_get world.processes pid)))) world.harts number;
    }

-- the harts once one was answered and another begins
abbrev pub beginning : ℕ → ℕ → Value → Hart Value → List (Hart Value) → List (Hart Value)
beginning number target value hart harts = slice_set (changed_at (answered value) harts number) target hart

-- after a fork of this process on hart `target`, with its answer
abbrev pub forked : ℕ → ℕ → Value → Hart Value → Process Memory → World → World
forked number target value hart process world =
    record world {
      processes = world.processes ++ process ∷ [];
      harts = beginning number target value hart world.harts;
    }

-- after a spawn of a thread on hart `target`, with its answer
abbrev pub spawned : ℕ → ℕ → ℕ → Value → Hart Value → World → World
spawned number pid target value hart world =
    record world {
      threads = world.threads ++ record { spawner = pid; value = None } ∷ [];
      harts = beginning number target value hart world.harts;
    }

-- after the end of the thread of this number, if it has one, with the status that its process had
abbrev pub left : ℕ → ℕ → Option ℕ → Option ℕ → Value → World → World
left number pid thread status value world =
    let harts = slice_set world.harts number idle in
    record world {
      processes = changed_at (with_status (status_after pid status harts)) world.processes pid;
      harts = harts;
      threads = left_by world.threads thread value;
    }
