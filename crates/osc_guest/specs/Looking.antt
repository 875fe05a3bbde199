-- How an address is translated: by the cache of the hart's box, else by a walk, one entry at a time.
-- RISC-V Privileged manual, "Virtual Address Translation Process"; the cache and the test of frames'
-- numbers are this project's own.
use Rattle.std.specs.Prelude.{ℕ, zero, suc, ◌-◌, nat_lt, false, ◌&&◌, Option, Some, None, option_map, if◌then◌else◌}
use Rattle.osc_word.specs.declared.calls.Request.{Request}
use Rattle.osc_word.specs.declared.calls.Request.TheVariants as request
use Rattle.osc_word.specs.declared.calls.Call.TheVariants.{End}
use Rattle.osc_word.specs.declared.calls.Fault.TheVariants as fault
use Rattle.osc_word.specs.declared.steps.Choice.TheVariants.{Plain, Fail}
use Rattle.osc_word.specs.Registers.{with_register}
use Rattle.osc_sv39.specs.declared.entries.PteEntry.{PteEntry}
use Rattle.osc_sv39.specs.declared.entries.PteEntry.TheVariants.{Table, Leaf}
use Rattle.osc_sv39.specs.declared.entries.Mapping.{Mapping}
use Rattle.osc_sv39.specs.Entries.{is_allowed}
use Rattle.osc_sv39.specs.Walk.{is_canonical}
use Rattle.osc_paging.specs.declared.Look.{Look}
use Rattle.osc_paging.specs.declared.Look.TheVariants.{Hit, Miss}
use Rattle.osc_paging.specs.Boxes.{BoxState, look, filled}
use Rattle.osc_isa.specs.Integer.{next}
use Rattle.osc_isa.specs.Traps.{Trap}
use Rattle.osc_isa.specs.Atomic.{sc_failure}
use Rattle.osc_guest.specs.declared.accesses.MemoryAccess.{MemoryAccess}
use Rattle.osc_guest.specs.declared.accesses.What.{What}
use Rattle.osc_guest.specs.declared.accesses.What.TheVariants as does
use Rattle.osc_guest.specs.declared.places.Place.TheVariants as at
use Rattle.osc_guest.specs.declared.places.Stage.{Stage}
use Rattle.osc_guest.specs.declared.places.Stage.TheVariants as stage
use Rattle.osc_guest.specs.declared.places.After.TheVariants as after
use Rattle.osc_guest.specs.User.{UserHart, Answered, cache_of, risen, moved, goes, commits, touching}
use Rattle.osc_guest.specs.Accesses.{access_page, kind_of, touch_of, page_fault, reserved_version}

-- ---- calls, faults and failed stores
-- the hart gives its box and then takes the kernel; a call ends its reservation
abbrev pub calling : Request → UserHart → UserHart
calling asked h = record h { reservation = None; place = at.GiveBox (after.Call asked) }

-- an instruction that faults commits, and the end of its process is called; registers and pc stay
abbrev pub faulted : Trap → UserHart → Answered
faulted trap h = commits Plain (calling (request.Call (End (fault.Access trap.cause trap.address))) h)

-- an access without a translation faults
abbrev pub lost : MemoryAccess → UserHart → Answered
lost access h =
    touching (touch_of access false h) (faulted (record { cause = page_fault (kind_of access.what); address = access.address }) h)

-- an SC that fails commits: its register gets 1, and the reservation ends
abbrev pub sc_failed : MemoryAccess → UserHart → Answered
sc_failed access h = commits Fail (record h {
  regs = with_register h.regs access.rd sc_failure;
  pc = next h.pc;
  reservation = None;
  place = at.GiveBox after.Run;
})

-- ---- once the frame is known
-- how an access begins in its frame; an SC takes the gate with the version of its reservation only, and
-- without one it fails
abbrev pub first_stage : What → Option ℕ → Option Stage
first_stage does.Fetch version = Some stage.Fetch
first_stage (does.Load kind) version = Some stage.Load
first_stage (does.Store value) version = Some (stage.TakeGate None)
first_stage (does.Amo op width operand) version = Some (stage.TakeGate None)
first_stage (does.Lr width) version = Some (stage.TakeGate None)
first_stage (does.Sc value) version = option_map (λ (only : ℕ). stage.TakeGate (Some only)) version

abbrev pub access_begun : Option Stage → MemoryAccess → ℕ → UserHart → Answered
access_begun None access frame h = sc_failed access h
access_begun (Some stage) access frame h = goes (moved (at.Access access frame stage) h)

unfoldable pub reached : MemoryAccess → ℕ → UserHart → Answered
reached access frame h =
    access_begun (first_stage access.what (reserved_version h.reservation access frame)) access frame h

-- ---- the look into the cache
abbrev pub seen : MemoryAccess → Look → UserHart → Answered
seen access (Hit frame) h = reached access frame (record h { hits = risen h.hits })
seen access Miss h = goes (record h { walks = risen h.walks; place = at.Walk access (h.levels - 1) h.root })

-- an address that is not canonical is not looked up
unfoldable pub looked_up : MemoryAccess → UserHart → Answered
looked_up access h =
    if is_canonical h.levels (access_page access)
    then seen access (look (cache_of h) (access_page access) (kind_of access.what)) h
    else lost access h

-- ---- the walk
abbrev pub box_filled : ℕ → Mapping → Option BoxState → Option BoxState
box_filled page mapping None = None
box_filled page mapping (Some box) = Some (record box { slots = filled box.slots page mapping })

-- a leaf that lets the access pass is kept in the cache
abbrev pub leaf_found : MemoryAccess → Mapping → UserHart → Answered
leaf_found access mapping h =
    if nat_lt mapping.frame h.frames && is_allowed mapping.bits.0 (kind_of access.what)
    then reached access mapping.frame (record h { held = box_filled (access_page access) mapping h.held })
    else lost access h

-- a link leads to the table of the next level
abbrev pub link_found : MemoryAccess → ℕ → ℕ → UserHart → Answered
link_found access level frame h =
    if nat_lt frame h.frames then goes (moved (at.Walk access level frame) h) else lost access h

-- what the hart makes of an entry of this level
unfoldable pub walked : MemoryAccess → ℕ → PteEntry → UserHart → Answered
walked access zero (Leaf frame bits) h = leaf_found access (record { frame = frame; bits = bits }) h
walked access (suc level) (Table frame) h = link_found access level frame h
walked access level entry h = lost access h
