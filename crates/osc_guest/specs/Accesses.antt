-- What an instruction does with the 64-bit word that holds its data: RISC-V Unprivileged manual,
-- "Load and Store Instructions" and "A Extension for Atomic Instructions"; the causes of faults by the
-- Privileged manual, "Machine Cause Register". Bytes of a word stand lowest first.
use Rattle.std.specs.Prelude.{ℕ, ◌+◌, ◌*◌, ◌/◌, ◌%◌, ◌^◌, ◌==◌, Bool, ◌&&◌, Option, Some, None, if◌then◌else◌}
use Rattle.osc_word.specs.declared.steps.Choice.{Choice}
use Rattle.osc_word.specs.declared.steps.Choice.TheVariants.{Plain, Success}
use Rattle.osc_word.specs.declared.steps.Access as label
use Rattle.osc_word.specs.declared.steps.Access.TheVariants as labelled
use Rattle.osc_sv39.specs.declared.entries.Access.{Access}
use Rattle.osc_sv39.specs.declared.entries.Access.TheVariants.{Fetch, Load, Store}
use Rattle.osc_rv.specs.declared.instr.Instr.{Instr}
use Rattle.osc_rv.specs.declared.instr.Instr.TheVariants as instr
use Rattle.osc_rv.specs.declared.instr.LoadKind.{LoadKind}
use Rattle.osc_isa.specs.declared.IntDone.{IntDone}
use Rattle.osc_isa.specs.declared.IntDone.TheVariants as done
use Rattle.osc_isa.specs.Integer.{load_width, loaded}
use Rattle.osc_isa.specs.Traps.{Trap, misaligned_target, misaligned_load, misaligned_store, unless_aligned}
use Rattle.osc_isa.specs.Atomic.{width_of, narrowed, widened, amo_of, sc_success}
use Rattle.osc_guest.specs.declared.accesses.MemoryAccess.{MemoryAccess}
use Rattle.osc_guest.specs.declared.accesses.What.{What}
use Rattle.osc_guest.specs.declared.accesses.What.TheVariants as does
use Rattle.osc_guest.specs.declared.accesses.Reservation.{Reservation}
use Rattle.osc_guest.specs.declared.accesses.Touch.{Touch}
use Rattle.osc_guest.specs.User.{UserHart}

-- ---- which access
abbrev pub fetch_at : ℕ → MemoryAccess
fetch_at pc = record { address = pc; width = 4; rd = 0; what = does.Fetch }

abbrev pub load_at : ℕ → LoadKind → ℕ → MemoryAccess
load_at rd kind address = record { address = address; width = load_width kind; rd = rd; what = does.Load kind }

abbrev pub store_at : ℕ → ℕ → ℕ → MemoryAccess
store_at width address value = record { address = address; width = width; rd = 0; what = does.Store value }

-- that of an atomic instruction at this address with this operand; no other instruction has one
abbrev pub atomic_at : Instr → ℕ → ℕ → Option MemoryAccess
atomic_at (instr.Amo op width rd rs1 rs2 aq rl) address operand =
    Some (record { address = address; width = width_of width; rd = rd; what = does.Amo op width operand })
atomic_at (instr.Lr width rd rs1 aq rl) address operand =
    Some (record { address = address; width = width_of width; rd = rd; what = does.Lr width })
atomic_at (instr.Sc width rd rs1 rs2 aq rl) address operand =
    Some (record { address = address; width = width_of width; rd = rd; what = does.Sc (narrowed width operand) })
atomic_at _ address operand = None

-- that of an instruction that does this
abbrev pub access_of : Instr → IntDone → Option MemoryAccess
access_of i (done.Load rd kind address) = Some (load_at rd kind address)
access_of i (done.Store width address value) = Some (store_at width address value)
access_of i (done.Atomic address operand) = atomic_at i address operand
access_of i _ = None

-- ---- an access
-- an LR loads, an AMO and an SC store
abbrev pub kind_of : What → Access
kind_of does.Fetch = Fetch
kind_of (does.Load kind) = Load
kind_of (does.Store value) = Store
kind_of (does.Amo op width operand) = Store
kind_of (does.Lr width) = Load
kind_of (does.Sc value) = Store

abbrev pub access_page : MemoryAccess → ℕ
access_page access = access.address / 4096

abbrev pub touched_kind : Access → label.Access
touched_kind Fetch = labelled.Fetch
touched_kind Load = labelled.Load
touched_kind Store = labelled.Store

abbrev pub touch_of : MemoryAccess → Bool → UserHart → Touch
touch_of access done h = record {
  pid = h.pid;
  address = access.address;
  width = access.width;
  kind = touched_kind (kind_of access.what);
  done = done;
}

-- ---- causes
abbrev pub page_fault : Access → ℕ
page_fault Fetch = 12
page_fault Load = 13
page_fault Store = 15

abbrev pub misaligned : Access → ℕ
misaligned Fetch = misaligned_target
misaligned Load = misaligned_load
misaligned Store = misaligned_store

-- the trap of a misaligned access
abbrev pub alignment_trap : MemoryAccess → Option Trap
alignment_trap access = unless_aligned (misaligned (kind_of access.what)) access.width access.address

-- ---- the bytes of a word
-- the number in so many bytes of a word, from that of the address on
abbrev pub part_of : ℕ → ℕ → ℕ → ℕ
part_of address width word = word / 256 ^ (address % 8) % 256 ^ width

-- the word with another number in these bytes
abbrev pub with_part : ℕ → ℕ → ℕ → ℕ → ℕ
with_part address width word number =
    word % 256 ^ (address % 8) + number * 256 ^ (address % 8)
    + word / 256 ^ (address % 8 + width) * 256 ^ (address % 8 + width)

-- what an access finds in the word that holds its bytes
abbrev pub found_by : MemoryAccess → ℕ → ℕ
found_by access word = part_of access.address access.width word

-- the number that goes into its bytes, by the number that it found there
abbrev pub number_stored : What → ℕ → ℕ
number_stored does.Fetch found = found
number_stored (does.Load kind) found = found
number_stored (does.Store value) found = value
number_stored (does.Amo op width operand) found = amo_of op width found operand
number_stored (does.Lr width) found = found
number_stored (does.Sc value) found = value

-- the word that is stored where this one was found
abbrev pub word_stored : MemoryAccess → ℕ → ℕ
word_stored access word =
    with_part access.address access.width word (number_stored access.what (found_by access word))

-- what goes into its register, by the number that it found
abbrev pub number_kept : What → ℕ → ℕ
number_kept does.Fetch found = 0
number_kept (does.Load kind) found = loaded kind found
number_kept (does.Store value) found = 0
number_kept (does.Amo op width operand) found = widened width found
number_kept (does.Lr width) found = widened width found
number_kept (does.Sc value) found = sc_success

-- the choice with which it commits, once it was done
abbrev pub choice_of : What → Choice
choice_of (does.Sc value) = Success
choice_of _ = Plain

-- ---- reservations
-- an access to this frame is the one that was reserved
abbrev pub is_reserved_by : Reservation → MemoryAccess → ℕ → Bool
is_reserved_by r access frame = (r.address == access.address) && (r.width == access.width) && (r.frame == frame)

-- the version that a reservation asks for, where it is for this access
abbrev pub reserved_version : Option Reservation → MemoryAccess → ℕ → Option ℕ
reserved_version None access frame = None
reserved_version (Some r) access frame = if is_reserved_by r access frame then Some r.version else None

-- an access in a frame of this version, as an LR reserves it
abbrev pub reservation_of : MemoryAccess → ℕ → ℕ → Reservation
reservation_of access frame version =
    record { address = access.address; width = access.width; frame = frame; version = version }

-- the reservation once an access was done: an LR makes one, an SC ends it
abbrev pub reservation_after : What → Reservation → Option Reservation → Option Reservation
reservation_after (does.Lr width) made r = Some made
reservation_after (does.Sc value) made r = None
reservation_after _ made r = r
