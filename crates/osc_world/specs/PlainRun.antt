-- The plain run: the fold over events with numbers alone, from the boot of an image. This project's own.
-- It looks at no permission, pointer or reservation, and at a choice only where the instruction leaves
-- something to choose: so an event that does not fit the world may well change it, as a store-conditional
-- does that is said to succeed without a reservation. Nothing changes where the hart runs no thread, the
-- instruction traps, the call is unknown, the choice is none of the instruction's, a thread would start on
-- a hart that is not idle, a share is of no pages, a join or wait looks at what has not ended, or a realloc
-- at what is not held; a free of what is not held answers 0.
use Rattle.std.specs.Prelude.{ℕ, ◌-◌, ◌%◌, ◌==◌, nat_lt, if◌then◌else◌, List, [], ◌∷◌, Option, Some, None}
use Rattle.std.specs.Option.{option_and_then}
use Rattle.osc_word.specs.declared.steps.Choice.{Choice}
use Rattle.osc_word.specs.declared.steps.Event.{Event}
use Rattle.osc_word.specs.declared.settings.Config.{Config}
use Rattle.osc_rv.specs.Instr.{instr_of}
use Rattle.osc_rv.specs.declared.instr.Instr.{Instr}
use Rattle.osc_image.specs.Image.{Image, laid_byte}
use Rattle.osc_world.specs.States.{turn_of, first_state}
use Rattle.osc_world.specs.Deeds.{state_after}
use Rattle.osc_world.specs.Offers.{Meaning, Goes, Errs, Unfit, Only, chosen}
use Rattle.osc_world.specs.PlainWorld.{Flat, Want, Plain, PlainTurn, PlainDeed, PlainOffer, plain_number, plain_kind, plain_offered}

-- ---- one event

-- where nothing is left to choose, the choice is not looked at
abbrev pub plain_chosen : PlainTurn → Choice → PlainOffer → Meaning PlainDeed Want
plain_chosen turn c (Only deed) = Goes deed
plain_chosen turn c offer = chosen turn.state.harts offer c

-- None: stuck
abbrev pub plain_done : PlainTurn → Meaning PlainDeed Want → Option Plain
plain_done turn (Goes deed) = Some (state_after plain_kind turn deed)
plain_done turn (Errs want) = None
plain_done turn Unfit = Some turn.state

abbrev pub plain_does : PlainTurn → Choice → Option Instr → Option Plain
plain_does turn c None = Some turn.state
plain_does turn c (Some i) = plain_done turn (plain_chosen turn c (plain_offered turn i))

-- the instruction at the hart's pc, which has to be divisible by 4
abbrev pub plain_instr : PlainTurn → Option Instr
plain_instr turn = if turn.hart.pc % 4 == 0 then instr_of (plain_number turn 4 turn.hart.pc) else None

abbrev pub plain_meaning_in : Plain → Choice → Option PlainTurn → Option Plain
plain_meaning_in plain c None = Some plain
plain_meaning_in plain c (Some turn) = plain_does turn c (plain_instr turn)

-- the state after an event; None where it is stuck
unfoldable pub plain_meaning : Plain → Event → Option Plain
plain_meaning plain event = plain_meaning_in plain event.choice (turn_of plain event.hart)

-- ---- the run

-- once it is stuck, it stays so
unfoldable pub plain_run : Option Plain → List Event → Option Plain
plain_run plain [] = plain
plain_run plain (event ∷ events) = plain_run (option_and_then (λ now. plain_meaning now event) plain) events

-- the bytes of the image, which ends below 4 GiB, 0 everywhere else, and no held block
abbrev pub flat_of : Image → ℕ → Flat
flat_of image frames =
    record {
      bytes = (λ address. if nat_lt address 0x100000000 then laid_byte image.segments address else 0);
      frames = frames;
      held = [];
      sizes = (λ user. 0);
      given = [];
    }

abbrev pub plain_boot : Image → Config → Plain
plain_boot image config = first_state (λ n. n) (flat_of image config.frames) image.entry (config.harts - 1)

-- the plain run of an image over events
abbrev pub plain_run_of : Image → Config → List Event → Option Plain
plain_run_of image config events = plain_run (Some (plain_boot image config)) events
