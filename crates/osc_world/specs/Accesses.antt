-- An access to the bytes of a world, and the first error that it meets. This project's own; alignment is
-- that of the RISC-V Unprivileged manual, "Load and Store Instructions" and "A Extension for Atomic
-- Instructions". That a misaligned access always traps is this project's choice of what those allow.
use Rattle.std.specs.Prelude.{ℕ, zero, suc, ◌+◌, ◌/◌, ◌%◌, Bool, true, false, ◌&&◌, ◌==◌, nat_le, if◌then◌else◌, List, [], ◌∷◌, ◌++◌, take, drop, length, find, slice_get, slice_set, map, Option, Some, None, unwrap_or, ok_or, Result, Ok, Err}
use Rattle.osc_sv39.specs.declared.entries.Access.{Access}
use Rattle.osc_sv39.specs.declared.entries.Access.TheVariants.{Fetch, Load, Store}
use Rattle.osc_sv39.specs.declared.flags.PteBits.{PteBits}
use Rattle.osc_sv39.specs.Entries.{is_readable, is_writable, is_executable}
use Rattle.osc_world.specs.declared.Value.{Value}
use Rattle.osc_world.specs.declared.Value.TheVariants.{Num, Ptr}
use Rattle.osc_world.specs.declared.Byte.{Byte}
use Rattle.osc_world.specs.declared.ObjectWhy.{ObjectWhy}
use Rattle.osc_world.specs.declared.ObjectWhy.TheVariants.{Trap, PointerUse, DeadObject, Outside, PointerBytes, PointerShared}
use Rattle.osc_world.specs.declared.Area.{Area}
use Rattle.osc_world.specs.declared.Area.TheVariants as area
use Rattle.osc_world.specs.declared.Place.{Place}
use Rattle.osc_world.specs.declared.Reservation.{Reservation}
use Rattle.osc_world.specs.Values.{advanced, is_pointer_value, gather, spread}
use Rattle.osc_world.specs.States.{Process, Hart, changed_at, shared_page_at}
use Rattle.osc_world.specs.Deeds.{with_memory}
use Rattle.osc_world.specs.Offers.{then_try, provided}
use Rattle.osc_world.specs.World.{World, WorldTurn, WorldPut, Memory, Object, Live, Dead, Page, read_write}

-- ---- where an access begins

abbrev pub in_area : Area → ℕ → Place
in_area area offset = record { area = area; offset = offset }

-- the page of a number
abbrev pub memory_page : List Page → ℕ → Option Page
memory_page pages number = find (λ (page : Page). page.number == number) pages

-- a place of numbered memory, and what it allows
pub record NumberedPlace : Type 0 where
  pub place : Place
  pub bits : PteBits

-- a page of image or stack, else a shared page, which is read and written
abbrev pub numbered_in : Option Page → Option ℕ → ℕ → Option NumberedPlace
numbered_in (Some page) shared offset = Some (record { place = in_area (area.Page page.number) offset; bits = page.bits })
numbered_in None (Some page) offset = Some (record { place = in_area (area.Shared page) offset; bits = read_write })
numbered_in None None offset = None

abbrev pub numbered_at : Process Memory → ℕ → Option NumberedPlace
numbered_at process address =
    numbered_in (memory_page process.memory.pages (address / 4096)) (shared_page_at process.shared address) (address % 4096)

-- whether permissions let an access pass
abbrev pub lets : Access → PteBits → Bool
lets Fetch bits = is_executable bits.0
lets Load bits = is_readable bits.0
lets Store bits = is_writable bits.0

abbrev pub allowed_place : Access → Option NumberedPlace → Result Place ObjectWhy
allowed_place access None = Err Outside
allowed_place access (Some found) = provided (lets access found.bits) Outside (Ok found.place)

-- where an access of this width by a pointer begins: the object lives, and has all the bytes
abbrev pub place_in_object : ℕ → ℕ → ℕ → Option Object → Result Place ObjectWhy
place_in_object object offset width None = Err Outside
place_in_object object offset width (Some (Dead size)) = Err DeadObject
place_in_object object offset width (Some (Live bytes)) =
    provided (nat_le (offset + width) (length bytes)) Outside (Ok (in_area (area.Object object) offset))

-- where an aligned access of this width begins
unfoldable pub reached_place : Process Memory → Access → ℕ → Value → Result Place ObjectWhy
reached_place process access width (Num address) = allowed_place access (numbered_at process address)
reached_place process access width (Ptr object offset) = place_in_object object offset width (slice_get process.memory.objects object)

-- whether the address, or the offset of a pointer, is divisible by the width
abbrev pub is_aligned : ℕ → Value → Bool
is_aligned width (Num address) = address % width == 0
is_aligned width (Ptr object offset) = offset % width == 0

-- where an access begins, whose operand in a register may be what it is
abbrev pub aimed : WorldTurn → Access → ℕ → Value → Bool → Result Place ObjectWhy
aimed turn access width address takes_operand =
    provided (is_aligned width address) Trap
    (provided takes_operand PointerUse (reached_place turn.process access width address))

-- ---- what stands there

abbrev pub object_bytes : Option Object → List Byte
object_bytes (Some (Live bytes)) = bytes
object_bytes (Some (Dead size)) = []
object_bytes None = []

abbrev pub page_bytes : Option Page → List Byte
page_bytes (Some page) = page.bytes
page_bytes None = []

-- the bytes of an area, of a world's shared pages and a process's own memory
abbrev pub area_bytes : List (List Byte) → Memory → Area → List Byte
area_bytes shared memory (area.Object object) = object_bytes (slice_get memory.objects object)
area_bytes shared memory (area.Page page) = page_bytes (memory_page memory.pages page)
area_bytes shared memory (area.Shared page) = unwrap_or (slice_get shared page) []

abbrev pub bytes_at : WorldTurn → Place → ℕ → List Byte
bytes_at turn at width = take width (drop at.offset (area_bytes turn.state.shared turn.process.memory at.area))

-- the value that stands there
abbrev pub value_at : WorldTurn → Place → ℕ → Result Value ObjectWhy
value_at turn at width = ok_or (gather (bytes_at turn at width)) PointerBytes

-- ---- what a store makes of it

-- bytes with others in the place of those from an offset on; there are no more and no fewer
unfoldable pub overlaid : {B : Type 0} → List B → ℕ → List B → List B
overlaid bytes offset [] = bytes
overlaid bytes offset (other ∷ others) = overlaid (slice_set bytes offset other) (offset + 1) others

-- a dead object has no bytes, and stays dead
abbrev pub object_overlaid : ℕ → List Byte → Object → Object
object_overlaid offset others (Live bytes) = Live (overlaid bytes offset others)
object_overlaid offset others (Dead size) = Dead size

abbrev pub page_overlaid : ℕ → ℕ → List Byte → Page → Page
page_overlaid number offset others page =
    if page.number == number then record page { bytes = overlaid page.bytes offset others } else page

abbrev pub memory_overlaid : Memory → Area → ℕ → List Byte → Memory
memory_overlaid memory (area.Object object) offset others =
    record memory { objects = changed_at (object_overlaid offset others) memory.objects object }
memory_overlaid memory (area.Page page) offset others =
    record memory { pages = map (page_overlaid page offset others) memory.pages }
memory_overlaid memory (area.Shared page) offset others = memory

abbrev pub shared_overlaid : List (List Byte) → Area → ℕ → List Byte → List (List Byte)
shared_overlaid shared (area.Object object) offset others = shared
shared_overlaid shared (area.Page page) offset others = shared
shared_overlaid shared (area.Shared page) offset others =
    changed_at (λ bytes. overlaid bytes offset others) shared page

-- whether an area of one process is an area of another; a shared page is one for all
abbrev pub is_same_area : ℕ → Area → ℕ → Area → Bool
is_same_area pid (area.Object a) other (area.Object b) = pid == other && a == b
is_same_area pid (area.Page a) other (area.Page b) = pid == other && a == b
is_same_area pid (area.Shared a) other (area.Shared b) = a == b
is_same_area pid _ other _ = false

-- whether two places of one process are the same
abbrev pub is_same_place : Place → Place → Bool
is_same_place a b = is_same_area 0 a.area 0 b.area && a.offset == b.offset

-- whether two places are in one aligned word of 8 bytes
abbrev pub is_same_word : ℕ → Place → ℕ → Place → Bool
is_same_word pid a other b = is_same_area pid a.area other b.area && (a.offset / 8 == b.offset / 8)

abbrev pub is_reserved_word : ℕ → Place → Option ℕ → Option Reservation → Bool
is_reserved_word pid at (Some other) (Some reservation) = is_same_word pid at other reservation.place
is_reserved_word pid at _ _ = false

-- a hart after a store of another one: a reservation of that word is gone
abbrev pub disturbed : ℕ → Place → Hart Value → Hart Value
disturbed pid at hart =
    if is_reserved_word pid at hart.process hart.reservation then record hart { reservation = None } else hart

-- the world after a store; the storing hart itself is still to go on
unfoldable pub put_in_world : WorldTurn → WorldPut → World
put_in_world turn put =
    record (with_memory turn (memory_overlaid turn.process.memory put.at.area put.at.offset put.bytes)) {
      shared = shared_overlaid turn.state.shared put.at.area put.at.offset put.bytes;
      harts = map (disturbed turn.pid put.at) turn.state.harts;
    }

abbrev pub is_shared_area : Area → Bool
is_shared_area (area.Object object) = false
is_shared_area (area.Page page) = false
is_shared_area (area.Shared page) = true

-- the store of a value that its width takes
abbrev pub puts : Place → ℕ → Value → Result WorldPut ObjectWhy
puts at width value =
    if is_pointer_value value && is_shared_area at.area then Err PointerShared
    else Ok (record { at = at; bytes = spread width value })

-- whether a store of this width takes the value
abbrev pub is_storable : ℕ → Value → Bool
is_storable width (Num number) = true
is_storable width (Ptr object offset) = width == 8

-- ---- rows of bytes

-- the byte at an address that a load reaches
abbrev pub loaded_byte : WorldTurn → Value → Result (List Byte) ObjectWhy
loaded_byte turn address = then_try (reached_place turn.process Load 1 address) (λ at. Ok (bytes_at turn at 1))

abbrev pub before : Result (List Byte) ObjectWhy → Result (List Byte) ObjectWhy → Result (List Byte) ObjectWhy
before first rest = then_try first (λ bytes. then_try rest (λ more. Ok (bytes ++ more)))

-- so many bytes from an address on, where a load reaches all of them
unfoldable pub row_at : WorldTurn → ℕ → Value → Result (List Byte) ObjectWhy
row_at turn zero address = Ok []
row_at turn (suc count) address = before (loaded_byte turn address) (row_at turn count (advanced address 1))
