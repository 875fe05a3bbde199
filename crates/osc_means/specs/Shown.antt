-- When a state of the plain run shows a world: each object stands from an address of its own on, a pointer
-- is the address of its object plus its offset, and a part of a stored pointer is a byte of that number.
-- This project's own.
use Rattle.std.specs.Prelude.{ℕ, ◌≡◌, ◌≢◌, ◌<◌, ◌≤◌, ◌+◌, ◌-◌, ◌*◌, ◌%◌, ◌⊎◌, true, List, map, length, slice_get, slice_index, Option, Some, None, unwrap_or}
use Rattle.std.specs.Option.{option_map, option_and_then}
use Rattle.byteorder.specs.Endian.{little_bytes}
use Rattle.osc_word.specs.AddressMap.{first_shared_page, first_shadow_page}
use Rattle.osc_isa.specs.Numbers.{wrapped}
use Rattle.osc_class.specs.Rooms.{room_of}
use Rattle.osc_slot.specs.declared.Block.{Block}
use Rattle.osc_slot.specs.Areas.{IsPlaced}
use Rattle.osc_slot.specs.Slots.{is_held}
use Rattle.osc_world.specs.declared.Value.{Value}
use Rattle.osc_world.specs.declared.Value.TheVariants.{Num, Ptr}
use Rattle.osc_world.specs.declared.Byte.{Byte}
use Rattle.osc_world.specs.declared.Byte.TheVariants.{Number, Part}
use Rattle.osc_world.specs.States.{Process, Hart, Thread}
use Rattle.osc_world.specs.World.{World, Memory, Object, Live, Page, object_size}
use Rattle.osc_world.specs.Accesses.{memory_page}
use Rattle.osc_world.specs.PlainWorld.{Flat, Plain}

-- ---- values and bytes, where `place` has the address of each object of a process

abbrev pub shown : (ℕ → ℕ) → Value → ℕ
shown place (Num number) = number
shown place (Ptr object offset) = wrapped (place object + offset)

abbrev pub shown_byte : (ℕ → ℕ) → Byte → ℕ
shown_byte place (Number number) = number
shown_byte place (Part object offset index) = slice_index (little_bytes 8 (wrapped (place object + offset))) index

-- a byte of a shared page, which is no part of a pointer
abbrev pub shared_byte : Byte → ℕ
shared_byte byte = shown_byte (λ object. 0) byte

-- ---- one process

-- the block of an object of this size, which begins with a header of 16 bytes
abbrev pub block_for : ℕ → ℕ → Block
block_for user size = record { start = user - 16; room = room_of size }

-- each object that was ever granted lies between the shadows and the end of the map, and the headers and
-- bytes of live ones do not overlap
pub record Laid (place : ℕ → ℕ) (objects : List Object) : Type 0 where
  pub above : (o : ℕ) (x : Object) → slice_get objects o ≡ Some x → 0x2000000010 ≤ place o
  pub below : (o : ℕ) (x : Object) → slice_get objects o ≡ Some x → place o + object_size x ≤ 0x4000000000
  pub even : (o : ℕ) (x : Object) → slice_get objects o ≡ Some x → place o % 16 ≡ 0
  pub apart : (o q : ℕ) (a b : List Byte) → slice_get objects o ≡ Some (Live a) → slice_get objects q ≡ Some (Live b) → o ≢ q
      → (place o + length a + 16 ≤ place q) ⊎ (place q + length b + 16 ≤ place o)

-- the plain bytes are those of image, stack and live objects; each live object has a held block and its
-- size, and each held block is at a slot
pub record Mirrors (frames : ℕ) (place : ℕ → ℕ) (memory : Memory) (flat : Flat) : Type 0 where
  pub machine : flat.frames ≡ frames
  pub pages : (n i : ℕ) (page : Page) (b : Byte) → memory_page memory.pages n ≡ Some page → slice_get page.bytes i ≡ Some b
      → flat.bytes (4096 * n + i) ≡ shown_byte place b
  pub low : (n : ℕ) (page : Page) → memory_page memory.pages n ≡ Some page → n < first_shared_page
  pub whole : (n : ℕ) (page : Page) → memory_page memory.pages n ≡ Some page → length page.bytes ≡ 4096
  pub bytes : (o i : ℕ) (bs : List Byte) (b : Byte) → slice_get memory.objects o ≡ Some (Live bs) → slice_get bs i ≡ Some b
      → flat.bytes (place o + i) ≡ shown_byte place b
  pub laid : Laid place memory.objects
  pub held : (o : ℕ) (bs : List Byte) → slice_get memory.objects o ≡ Some (Live bs)
      → is_held flat.held (block_for (place o) (length bs)) ≡ true
  pub sizes : (o : ℕ) (bs : List Byte) → slice_get memory.objects o ≡ Some (Live bs) → flat.sizes (place o) ≡ length bs
  pub placed : (block : Block) → is_held flat.held block ≡ true → IsPlaced frames block
  pub given : length flat.given ≡ length memory.objects

-- of so many shared pages over the whole world
pub record Mirrored (frames count : ℕ) (place : ℕ → ℕ) (x : Process Memory) (y : Process Flat) : Type 0 where
  pub memory : Mirrors frames place x.memory y.memory
  pub shared : y.shared ≡ x.shared
  pub parent : y.parent ≡ x.parent
  pub status : y.status ≡ x.status
  pub few : first_shared_page + length x.shared ≤ first_shadow_page
  pub regions : (i page : ℕ) → slice_get x.shared i ≡ Some page → page < count

-- ---- the whole state, where `place` has the addresses of each process

-- the plain run keeps no reservation
abbrev pub shown_hart : (ℕ → ℕ → ℕ) → Hart Value → Hart ℕ
shown_hart place hart =
    record {
      process = hart.process;
      thread = hart.thread;
      regs = map (shown (place (unwrap_or hart.process 0))) hart.regs;
      pc = hart.pc;
      reservation = None;
    }

abbrev pub shown_thread : (ℕ → ℕ → ℕ) → Thread Value → Thread ℕ
shown_thread place thread =
    record { spawner = thread.spawner; value = option_map (shown (place thread.spawner)) thread.value }

pub record Shows (frames : ℕ) (place : ℕ → ℕ → ℕ) (world : World) (plain : Plain) : Type 0 where
  pub output : plain.output ≡ world.output
  pub shared : plain.shared ≡ map (map shared_byte) world.shared
  pub wide : (page : ℕ) (bytes : List Byte) → slice_get world.shared page ≡ Some bytes → length bytes ≡ 4096
  pub harts : plain.harts ≡ map (shown_hart place) world.harts
  pub threads : plain.threads ≡ map (shown_thread place) world.threads
  pub count : length plain.processes ≡ length world.processes
  pub processes : (pid : ℕ) (x : Process Memory) (y : Process Flat) → slice_get world.processes pid ≡ Some x
      → slice_get plain.processes pid ≡ Some y → Mirrored frames (length world.shared) (place pid) x y

-- ---- the addresses

-- the user address that was given to an object of a process
abbrev pub given_at : Plain → ℕ → ℕ → Option ℕ
given_at plain pid object =
    option_and_then (λ (process : Process Flat). slice_get process.memory.given object) (slice_get plain.processes pid)

-- each object has the address that was given to it
abbrev pub Kept : (ℕ → ℕ → ℕ) → Plain → Type 0
Kept place plain = (pid object user : ℕ) → given_at plain pid object ≡ Some user → place pid object ≡ user

-- the addresses that a plain run has given
abbrev pub places : Plain → ℕ → ℕ → ℕ
places plain pid object = unwrap_or (given_at plain pid object) 0
