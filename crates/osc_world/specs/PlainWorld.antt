-- What an instruction does with numbers alone, over one flat map from address to byte for each process, and
-- a heap without shadows. This project's own. There are no pages and no permissions in it, and no object.
use Rattle.std.specs.Prelude.{ℕ, zero, suc, ◌+◌, ◌-◌, ◌%◌, ◌==◌, ◌&&◌, min, nat_lt, nat_le, if◌then◌else◌, List, [], ◌∷◌, ◌++◌, length, replicate, slice_get, slice_index, Option, Some, None, is_some, unwrap_or}
use Rattle.byteorder.specs.Endian.{little_number, little_bytes}
use Rattle.osc_word.specs.AddressMap.{first_shared_page, first_shadow_page}
use Rattle.osc_word.specs.Environment.{call_of}
use Rattle.osc_word.specs.declared.calls.Call.{Call}
use Rattle.osc_word.specs.declared.calls.Call.TheVariants as calls
use Rattle.osc_class.specs.Rooms.{room_of}
use Rattle.osc_slot.specs.declared.Block.{Block}
use Rattle.osc_slot.specs.Slots.{least_start, is_room}
use Rattle.osc_slot.specs.Heap.{with_block, without_block, block_of_user}
use Rattle.osc_rv.specs.declared.instr.Instr.{Instr}
use Rattle.osc_rv.specs.declared.instr.Instr.TheVariants as instr
use Rattle.osc_rv.specs.declared.instr.AmoOp.{AmoOp}
use Rattle.osc_rv.specs.declared.instr.Width.{Width}
use Rattle.osc_isa.specs.declared.IntDone.{IntDone}
use Rattle.osc_isa.specs.declared.IntDone.TheVariants as done
use Rattle.osc_isa.specs.Numbers.{wrapped}
use Rattle.osc_isa.specs.Integer.{done_of, loaded, load_width}
use Rattle.osc_isa.specs.Atomic.{width_of, widened, amo_of, sc_success, sc_failure}
use Rattle.osc_isa.specs.Traps.{trap_of}
use Rattle.osc_world.specs.States.{State, HartTurn, changed_at, shared_page_at}
use Rattle.osc_world.specs.Deeds.{Put, Step, Deed, Kind, Steps, Heaps, Writes, Exits, Leaves, sets, answers, with_memory}
use Rattle.osc_world.specs.Offers.{Meaning, Goes, Errs, Offer, Only, Grants, Conditional, Never, joins, waits, forks, spawns, shares, write_count}
use Rattle.osc_world.specs.Accesses.{overlaid}

-- the bytes of a process but for its shared pages, the frames of the machine, the held blocks of the heap by
-- their starts, the size that was asked for at each user address, and the user addresses given so far, one
-- for each malloc or realloc that was given
pub record Flat : Type 0 where
  pub bytes : ℕ → ℕ
  pub frames : ℕ
  pub held : List Block
  pub sizes : ℕ → ℕ
  pub given : List ℕ

-- a call of the heap that is done
pub data BlockDeed : Type 0 where
  Places : ℕ → ℕ → BlockDeed  -- a block for a size at this start
  Releases : Block → BlockDeed
  Stays : ℕ → ℕ → BlockDeed  -- a user address, which keeps its block for this size
  Moves : Block → ℕ → ℕ → ℕ → BlockDeed  -- a block and its user address, for a size and to this start

-- why a run can't go on: the heap has no slot, or there is no address for a shared page
pub data Want : Type 0 where
  NoSlot : Want
  NoAddress : Want

abbrev pub Plain : Type 0
Plain = State ℕ ℕ Flat

abbrev pub PlainTurn : Type 0
PlainTurn = HartTurn ℕ ℕ Flat

abbrev pub PlainStep : Type 0
PlainStep = Step ℕ ℕ ℕ

abbrev pub PlainDeed : Type 0
PlainDeed = Deed ℕ ℕ ℕ BlockDeed

abbrev pub PlainOffer : Type 0
PlainOffer = Offer PlainDeed Want

-- ---- memory

abbrev pub shared_or_own_byte : List (List ℕ) → (ℕ → ℕ) → ℕ → Option ℕ → ℕ
shared_or_own_byte pages bytes address None = bytes address
shared_or_own_byte pages bytes address (Some page) = slice_index (unwrap_or (slice_get pages page) []) (address % 4096)

abbrev pub plain_byte : PlainTurn → ℕ → ℕ
plain_byte turn address =
    shared_or_own_byte turn.state.shared turn.process.memory.bytes address (shared_page_at turn.process.shared address)

-- so many bytes from an address on
unfoldable pub plain_row : PlainTurn → ℕ → ℕ → List ℕ
plain_row turn zero address = []
plain_row turn (suc count) address = plain_byte turn address ∷ plain_row turn count (wrapped (address + 1))

-- the number in so many bytes
abbrev pub plain_number : PlainTurn → ℕ → ℕ → ℕ
plain_number turn width address = little_number width (plain_row turn width address)

-- a map with these bytes from an address on
abbrev pub with_bytes : (ℕ → ℕ) → ℕ → List ℕ → ℕ → ℕ
with_bytes bytes start others address =
    if nat_le start address && nat_lt address (start + length others) then slice_index others (address - start)
    else bytes address

abbrev pub put_by : PlainTurn → ℕ → List ℕ → Option ℕ → Plain
put_by turn start others None =
    with_memory turn (record (turn.process.memory) { bytes = with_bytes turn.process.memory.bytes start others })
put_by turn start others (Some page) =
    record (turn.state) { shared = changed_at (λ bytes. overlaid bytes (start % 4096) others) turn.state.shared page }

-- the state after a store, which is aligned
unfoldable pub plain_put : PlainTurn → Put ℕ ℕ → Plain
plain_put turn put = put_by turn put.at put.bytes (shared_page_at turn.process.shared put.at)

-- a step that stores a number
abbrev pub putting : ℕ → ℕ → ℕ → PlainStep → PlainStep
putting width address value step =
    record step { put = Some (record { at = address; bytes = little_bytes width value }) }

-- ---- atomics

-- an atomic memory operation
abbrev pub plain_amo : PlainTurn → AmoOp → Width → ℕ → ℕ → ℕ → PlainStep
plain_amo turn op width rd address operand =
    let old = plain_number turn (width_of width) address in
    putting (width_of width) address (amo_of op width old operand) (sets turn rd (widened width old))

-- a store-conditional stores where the choice says so
abbrev pub plain_atomic : PlainTurn → Instr → ℕ → ℕ → PlainOffer
plain_atomic turn (instr.Amo op width rd rs1 rs2 aq rl) address operand =
    Only (Steps (plain_amo turn op width rd address operand))
plain_atomic turn (instr.Lr width rd rs1 aq rl) address operand =
    Only (Steps (sets turn rd (widened width (plain_number turn (width_of width) address))))
plain_atomic turn (instr.Sc width rd rs1 rs2 aq rl) address operand =
    Conditional (Goes (Steps (putting (width_of width) address operand (sets turn rd sc_success))))
    (Steps (sets turn rd sc_failure))
plain_atomic turn _ address operand = Never

-- the bytes of an atomic access, and 1 for any other instruction
abbrev pub atomic_width : Instr → ℕ
atomic_width (instr.Amo op width rd rs1 rs2 aq rl) = width_of width
atomic_width (instr.Lr width rd rs1 aq rl) = width_of width
atomic_width (instr.Sc width rd rs1 rs2 aq rl) = width_of width
atomic_width _ = 1

-- ---- the heap

-- the least slot for a size, if there is one
abbrev pub next_start : Flat → ℕ → Option ℕ
next_start flat size = least_start flat.frames flat.held (room_of size)

-- the held blocks with one more, for a size
abbrev pub held_with : Flat → ℕ → ℕ → List Block
held_with flat start size = with_block (record { start = start; room = room_of size }) flat.held

-- a user address is given for a size, with these bytes
abbrev pub with_given : Flat → List Block → ℕ → ℕ → List ℕ → Flat
with_given flat held user size bytes =
    record flat {
      bytes = with_bytes flat.bytes user bytes;
      held = held;
      sizes = (λ other. if other == user then size else flat.sizes other);
      given = flat.given ++ user ∷ [];
    }

-- the common bytes of an object with another size, and zeros
abbrev pub plain_resized : PlainTurn → ℕ → ℕ → List ℕ
plain_resized turn user size =
    let common = min (turn.process.memory.sizes user) size in
    plain_row turn common user ++ replicate (size - common) 0

-- a move is malloc, copy and free
abbrev pub flat_after : PlainTurn → Flat → BlockDeed → Flat
flat_after turn flat (Places size start) =
    with_given flat (held_with flat start size) (start + 16) size (replicate size 0)
flat_after turn flat (Releases block) = record flat { held = without_block block flat.held }
flat_after turn flat (Stays user size) = with_given flat flat.held user size (plain_resized turn user size)
flat_after turn flat (Moves block user size start) =
    with_given flat (without_block block (held_with flat start size)) (start + 16) size (plain_resized turn user size)

abbrev pub plain_kind : Kind ℕ ℕ Flat ℕ BlockDeed
plain_kind =
    record {
      number = (λ n. n);
      nought = 0;
      put = plain_put;
      memory = (λ turn deed. flat_after turn turn.process.memory deed);
    }

-- the slot for a size, or a refusal, which answers 0; it is stuck where there is no slot
abbrev pub grants_block : PlainTurn → (ℕ → BlockDeed) → Option ℕ → PlainOffer
grants_block turn deed None = Grants (Errs NoSlot) (answers turn 0)
grants_block turn deed (Some start) = Grants (Goes (Heaps (deed start) (start + 16))) (answers turn 0)

-- malloc
abbrev pub plain_malloc : PlainTurn → Flat → ℕ → PlainOffer
plain_malloc turn flat size = grants_block turn (Places size) (next_start flat size)

-- free: the slot is given back at once
abbrev pub plain_free : PlainTurn → Option Block → PlainDeed
plain_free turn None = answers turn 0
plain_free turn (Some block) = Heaps (Releases block) 0

-- realloc of a held block
abbrev pub plain_replace : PlainTurn → Flat → ℕ → ℕ → Option Block → PlainOffer
plain_replace turn flat user size None = Never
plain_replace turn flat user size (Some block) =
    if is_room block.room (room_of size) then Grants (Goes (Heaps (Stays user size) user)) (answers turn 0)
    else grants_block turn (Moves block user size) (next_start flat size)

abbrev pub plain_realloc : PlainTurn → Flat → ℕ → ℕ → PlainOffer
plain_realloc turn flat user size =
    if user == 0 then plain_malloc turn flat size
    else plain_replace turn flat user size (block_of_user flat.held user)

-- ---- calls and instructions

-- share: it is stuck where a byte would lie past the shared range, which shadows follow
abbrev pub plain_shares : PlainTurn → ℕ → Meaning PlainDeed Want
plain_shares turn count =
    if nat_lt first_shadow_page (first_shared_page + (length turn.process.shared + count)) then Errs NoAddress
    else shares count

unfoldable pub plain_serves : PlainTurn → Call → PlainOffer
plain_serves turn (calls.Exit status) = Only (Exits status)
plain_serves turn (calls.Write buffer asked) = Only (Writes (plain_row turn (write_count turn.state asked) buffer))
plain_serves turn (calls.Malloc size) = plain_malloc turn turn.process.memory size
plain_serves turn (calls.Free user) = Only (plain_free turn (block_of_user turn.process.memory.held user))
plain_serves turn (calls.Realloc user size) = plain_realloc turn turn.process.memory user size
plain_serves turn calls.Fork = forks (λ n. n) turn
plain_serves turn (calls.Spawn pc sp arg) = spawns (λ n. n) turn pc sp arg
plain_serves turn (calls.Join thread) = joins (λ n. n) turn thread
plain_serves turn (calls.Done value) = Only (Leaves value)
plain_serves turn (calls.Share count) = Grants (plain_shares turn count) (answers turn 0)
plain_serves turn (calls.Wait child) = waits (λ n. n) turn child
plain_serves turn (calls.Unknown number) = Never
plain_serves turn (calls.End fault) = Never

-- what an instruction that does not trap does
abbrev pub plain_offer : PlainTurn → Instr → IntDone → PlainOffer
plain_offer turn i (done.Set rd value pc) = Only (Steps (record (sets turn rd value) { pc = pc }))
plain_offer turn i (done.Go pc) = Only (Steps (record (sets turn 0 0) { pc = pc }))
plain_offer turn i (done.Load rd kind address) =
    Only (Steps (sets turn rd (loaded kind (plain_number turn (load_width kind) address))))
plain_offer turn i (done.Store width address value) = Only (Steps (putting width address value (sets turn 0 0)))
plain_offer turn i (done.Atomic address operand) =
    if address % atomic_width i == 0 then plain_atomic turn i address operand else Never
plain_offer turn i done.Call = plain_serves turn (call_of turn.hart.regs)
plain_offer turn i done.Break = Never
plain_offer turn i (done.BadTarget target) = Never

-- what an instruction does, up to what it leaves to choose; nothing where it traps
unfoldable pub plain_offered : PlainTurn → Instr → PlainOffer
plain_offered turn i =
    let what = done_of i turn.hart.regs turn.hart.pc in
    if is_some (trap_of what turn.hart.pc) then Never else plain_offer turn i what
