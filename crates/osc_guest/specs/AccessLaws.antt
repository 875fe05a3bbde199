-- The laws of accesses: what an access under way is like, that a store-conditional goes by the reservation
-- for it, and that alignment is that of the integer instructions.
use Rattle.std.specs.Prelude.{ℕ, ◌%◌, ◌==◌, ◌||◌, ◌≡◌, Bool, true, false, Option, Some, is_some}
use Rattle.osc_rv.specs.declared.instr.LoadKind.{LoadKind}
use Rattle.osc_isa.specs.declared.IntDone.TheVariants as done
use Rattle.osc_isa.specs.Traps.{trap_of}
use Rattle.osc_guest.specs.declared.accesses.MemoryAccess.{MemoryAccess}
use Rattle.osc_guest.specs.declared.accesses.Reservation.{Reservation}
use Rattle.osc_guest.specs.declared.accesses.What.{What}
use Rattle.osc_guest.specs.declared.accesses.What.TheVariants as does
use Rattle.osc_guest.specs.declared.places.Place.{Place}
use Rattle.osc_guest.specs.declared.places.Place.TheVariants as at
use Rattle.osc_guest.specs.declared.places.Stage.{Stage}
use Rattle.osc_guest.specs.declared.places.Stage.TheVariants as stage
use Rattle.osc_guest.specs.User.{UserHart}
use Rattle.osc_guest.specs.Accesses.{fetch_at, load_at, store_at, alignment_trap, reserved_version}
use Rattle.osc_guest.specs.Asks.{ask}
use Rattle.osc_guest.specs.Told.{Told, told}
use Rattle.osc_guest.specs.Fits.{Fits}

-- ---- an access under way
-- the widths of accesses, in bytes
abbrev pub is_access_width : ℕ → Bool
is_access_width width = (width == 1) || (width == 2) || (width == 4) || (width == 8)

abbrev pub FetchFits : What → ℕ → MemoryAccess → Type 0
FetchFits does.Fetch pc access = access ≡ fetch_at pc
FetchFits _ pc access = Unit {0}

-- it is aligned, so that its bytes lie in one word, and a fetch is that at the pc
abbrev pub AccessFits : ℕ → MemoryAccess → Type 0
AccessFits pc access =
    (is_access_width access.width ≡ true) × (access.address % access.width ≡ 0) × FetchFits access.what pc access

-- what is done without a gate, and with a store under one
abbrev pub stage_fits : Stage → What → Bool
stage_fits stage.Fetch does.Fetch = true
stage_fits stage.Fetch _ = false
stage_fits stage.Load (does.Load kind) = true
stage_fits stage.Load _ = false
stage_fits (stage.GatedStore version found) (does.Lr width) = false
stage_fits _ does.Fetch = false
stage_fits _ (does.Load kind) = false
stage_fits _ _ = true

abbrev pub PlaceFits : ℕ → Place → Type 0
PlaceFits pc (at.Walk access level table) = AccessFits pc access
PlaceFits pc (at.Access access frame stage) = AccessFits pc access × (stage_fits stage access.what ≡ true)
PlaceFits pc _ = Unit {0}

abbrev pub AccessesKept : Type 0
AccessesKept =
    (h : UserHart) (t : Told) → PlaceFits h.pc h.place → PlaceFits (told h t).hart.pc (told h t).hart.place

-- ---- store-conditionals
abbrev pub is_conditional : What → Bool
is_conditional (does.Sc value) = true
is_conditional _ = false

-- an SC is at the gate, and stores, only with the version of its own hart's reservation for it
abbrev pub ReservedIn : Option Reservation → MemoryAccess → ℕ → Stage → Type 0
ReservedIn r access frame stage.Fetch = is_conditional access.what ≡ false
ReservedIn r access frame stage.Load = is_conditional access.what ≡ false
ReservedIn r access frame (stage.TakeGate only) =
    is_conditional access.what ≡ true → (is_some only ≡ true) × (reserved_version r access frame ≡ only)
ReservedIn r access frame (stage.GatedLoad version) =
    is_conditional access.what ≡ true → reserved_version r access frame ≡ Some version
ReservedIn r access frame (stage.GatedStore version found) =
    is_conditional access.what ≡ true → reserved_version r access frame ≡ Some version

abbrev pub ReservedAt : Option Reservation → Place → Type 0
ReservedAt r (at.Access access frame stage) = ReservedIn r access frame stage
ReservedAt r _ = Unit {0}

abbrev pub ReservationHolds : UserHart → Type 0
ReservationHolds h = ReservedAt h.reservation h.place

abbrev pub ReservationsKept : Type 0
ReservationsKept =
    (h : UserHart) (t : Told) → Fits (ask h) t → ReservationHolds h → ReservationHolds (told h t).hart

-- ---- alignment
-- for loads and stores the trap is the one that the integer instructions have
abbrev pub LoadsAligned : Type 0
LoadsAligned =
    (rd address pc : ℕ) (kind : LoadKind) → alignment_trap (load_at rd kind address) ≡ trap_of (done.Load rd kind address) pc

abbrev pub StoresAligned : Type 0
StoresAligned =
    (width address value pc : ℕ) → alignment_trap (store_at width address value) ≡ trap_of (done.Store width address value) pc
