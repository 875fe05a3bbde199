-- What an event comes to by its choice, and what the code has of it.
use Rattle.std.specs.Prelude.{length, Option, Some, None, Result, Ok, Err}
use Rattle.osc_rv.specs.declared.instr.Instr.{Instr}
use Rattle.osc_word.specs.declared.steps.Choice.{Choice}
use Rattle.osc_world.specs.declared.ObjectWhy.{ObjectWhy}
use Rattle.osc_world.specs.declared.ObjectWhy.TheVariants.{Trap}
use Rattle.osc_world.specs.declared.Value.{Value}
use Rattle.osc_world.specs.declared.Value.TheVariants.{Num, Ptr}
use Rattle.osc_world.specs.Deeds as deeds
use Rattle.osc_world.specs.Offers.{Meaning, Goes, Errs, Unfit, chosen}
use Rattle.osc_world.specs.Events.{offered}
use Rattle.osc_world.specs.World.{WorldTurn, WorldDeed, WorldOffer}
use Rattle.osc_object.specs.declared.decisions.Deed.{Deed}
use Rattle.osc_object.specs.declared.decisions.Deed.TheVariants.{Steps, Heaps, Writes, Shares, Forks, Spawns, Exits, Leaves}
use Rattle.osc_object.specs.declared.decisions.Decided.{Decided}
use Rattle.osc_object.specs.declared.decisions.Decided.TheVariants as decided_as
use Rattle.osc_memory.specs.declared.memory.HeapDeed.{HeapDeed}
use Rattle.osc_memory.specs.declared.memory.HeapDeed.TheVariants as heap
use Rattle.osc_memory.specs.Places.{heap_shown}
use Rattle.osc_object.specs.Turns.{step_shown}

-- the value of a pointer to the object that comes next
abbrev pub next_object : WorldTurn → Value
next_object turn = Ptr (length turn.process.memory.objects) 0

-- what a call of the heap answers
abbrev pub heap_answer : WorldTurn → HeapDeed → Value
heap_answer turn (heap.Makes size) = next_object turn
heap_answer turn (heap.Kills object) = Num 0
heap_answer turn (heap.Replaces object size) = next_object turn

abbrev pub deed_shown : WorldTurn → Deed → WorldDeed
deed_shown turn (Steps step) = deeds.Steps (step_shown step)
deed_shown turn (Heaps deed) = deeds.Heaps (heap_shown deed) (heap_answer turn deed)
deed_shown turn (Writes bytes) = deeds.Writes bytes.items
deed_shown turn (Shares count) = deeds.Shares count
deed_shown turn (Forks hart) = deeds.Forks hart
deed_shown turn (Spawns hart pc sp arg) = deeds.Spawns hart pc sp arg
deed_shown turn (Exits status) = deeds.Exits status
deed_shown turn (Leaves value) = deeds.Leaves value

abbrev pub decided_shown : WorldTurn → Decided → Meaning WorldDeed ObjectWhy
decided_shown turn (decided_as.Goes deed) = Goes (deed_shown turn deed)
decided_shown turn (decided_as.Errs why) = Errs why
decided_shown turn decided_as.Unfit = Unfit

-- what is done by a choice; an error fits every choice
abbrev pub decided : WorldTurn → Choice → Result WorldOffer ObjectWhy → Meaning WorldDeed ObjectWhy
decided turn c (Ok offer) = chosen turn.state.harts offer c
decided turn c (Err why) = Errs why

-- the word of no instruction, and a pc from which nothing can be fetched, are a trap
abbrev pub decided_if : WorldTurn → Choice → Option Instr → Meaning WorldDeed ObjectWhy
decided_if turn c None = Errs Trap
decided_if turn c (Some i) = decided turn c (offered turn i)
