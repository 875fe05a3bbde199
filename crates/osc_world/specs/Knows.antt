-- That each pointer of a world names a granted object of its process, with an offset below 2^64. This
-- project's own.
use Rattle.std.specs.Prelude.{ℕ, ◌≡◌, ◌-◌, Bool, true, false, ◌&&◌, nat_lt, List, length, slice_get, Option, Some, None}
use Rattle.std.specs.List.{list_all}
use Rattle.osc_world.specs.declared.Value.{Value}
use Rattle.osc_world.specs.declared.Value.TheVariants.{Num, Ptr}
use Rattle.osc_world.specs.declared.Byte.{Byte}
use Rattle.osc_world.specs.declared.Byte.TheVariants.{Number, Part}
use Rattle.osc_world.specs.States.{Process, Hart, Thread}
use Rattle.osc_world.specs.Deeds.{is_number}
use Rattle.osc_world.specs.World.{World, Memory, Object, Live, Dead, Page}

-- of so many objects
abbrev pub is_granted : ℕ → ℕ → ℕ → Bool
is_granted count object offset = nat_lt object count && nat_lt offset 18446744073709551616

abbrev pub is_known : ℕ → Value → Bool
is_known count (Num number) = true
is_known count (Ptr object offset) = is_granted count object offset

abbrev pub is_known_byte : ℕ → Byte → Bool
is_known_byte count (Number number) = true
is_known_byte count (Part object offset index) = is_granted count object offset

abbrev pub is_plain_byte : Byte → Bool
is_plain_byte (Number number) = true
is_plain_byte (Part object offset index) = false

abbrev pub knows_object : ℕ → Object → Bool
knows_object count (Live bytes) = list_all (is_known_byte count) bytes
knows_object count (Dead size) = true

abbrev pub knows_page : ℕ → Page → Bool
knows_page count page = list_all (is_known_byte count) page.bytes

abbrev pub knows_memory : Memory → Bool
knows_memory memory =
    list_all (knows_page (length memory.objects)) memory.pages && list_all (knows_object (length memory.objects)) memory.objects

-- the count of a process's objects
abbrev pub objects_in : Option (Process Memory) → ℕ
objects_in None = 0
objects_in (Some process) = length process.memory.objects

abbrev pub objects_by : List (Process Memory) → Option ℕ → ℕ
objects_by processes None = 0
objects_by processes (Some pid) = objects_in (slice_get processes pid)

abbrev pub knows_hart : List (Process Memory) → Hart Value → Bool
knows_hart processes hart = list_all (is_known (objects_by processes hart.process)) hart.regs

abbrev pub knows_left : ℕ → Option Value → Bool
knows_left count None = true
knows_left count (Some value) = is_known count value

abbrev pub knows_thread : List (Process Memory) → Thread Value → Bool
knows_thread processes thread = knows_left (objects_by processes (Some thread.spawner)) thread.value

abbrev pub is_spawner : Option ℕ → Option (Thread Value) → Bool
is_spawner pid None = false
is_spawner pid (Some thread) = is_number pid thread.spawner

-- whether a hart's thread was spawned by the hart's process, where it was spawned
abbrev pub has_spawner : List (Thread Value) → Option ℕ → Option ℕ → Bool
has_spawner threads pid None = true
has_spawner threads pid (Some thread) = is_spawner pid (slice_get threads (thread - 1))

abbrev pub is_spawned : List (Thread Value) → Hart Value → Bool
is_spawned threads hart = has_spawner threads hart.process hart.thread

pub record Knows (world : World) : Type 0 where
  pub shared : list_all (λ bytes. list_all is_plain_byte bytes) world.shared ≡ true
  pub memories : list_all (λ (process : Process Memory). knows_memory process.memory) world.processes ≡ true
  pub harts : list_all (knows_hart world.processes) world.harts ≡ true
  pub left : list_all (knows_thread world.processes) world.threads ≡ true
  pub spawned : list_all (is_spawned world.threads) world.harts ≡ true
