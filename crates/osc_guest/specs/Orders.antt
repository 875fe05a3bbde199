-- What a hart does with the box that it took: it looks at the order, and a running hart then begins
-- its next instruction. Orders are this project's own.
use Rattle.std.specs.Prelude.{Bool, true, false, ◌%◌, ◌==◌, Some, if◌then◌else◌}
use Rattle.osc_word.specs.declared.orders.Order.{Order}
use Rattle.osc_word.specs.declared.orders.Order.TheVariants.{Empty, Start, Stop, Over}
use Rattle.osc_word.specs.declared.calls.Request.TheVariants as request
use Rattle.osc_isa.specs.Traps.{misaligned_target}
use Rattle.osc_paging.specs.Boxes.{BoxState}
use Rattle.osc_guest.specs.declared.places.Place.TheVariants as at
use Rattle.osc_guest.specs.declared.places.After.TheVariants as after
use Rattle.osc_guest.specs.User.{UserHart, Answered, starting, moved, goes}
use Rattle.osc_guest.specs.Accesses.{fetch_at}
use Rattle.osc_guest.specs.Looking.{calling, faulted, looked_up}

-- the hart with a box in its hand
abbrev pub holding : BoxState → UserHart → UserHart
holding box h = record h { held = Some box }

-- a box whose order was carried out
abbrev pub obeyed : BoxState → BoxState
obeyed box = record box { order = Empty }

-- the fetch begins. A pc that is not divisible by 4, which only the first of a thread can be, is found
-- here
abbrev pub begun : UserHart → Answered
begun h =
    if h.pc % 4 == 0
    then looked_up (fetch_at h.pc) h
    else faulted (record { cause = misaligned_target; address = h.pc }) h

-- a hart, which runs a thread or is idle, looks at the order: it reports itself idle, goes to rest, or
-- begins an instruction. Only idle harts are given a Start
abbrev pub ordered : Bool → Order → BoxState → UserHart → Answered
ordered running Stop box h = goes (calling request.Idle (holding (obeyed box) h))
ordered running Over box h = goes (moved (at.GiveBox after.Rest) (holding box h))
ordered true order box h = begun (holding box h)
ordered false Empty box h = goes (moved (at.GiveBox after.Idle) (holding box h))
ordered false (Start start) box h = begun (starting start (holding (obeyed box) h))
