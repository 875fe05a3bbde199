-- What the object run and the plain run have in common: harts, threads, processes and shared pages. V is
-- what a register holds, B what a byte holds, and M is a process's own memory. This project's own.
use Rattle.std.specs.Prelude.{ℕ, zero, suc, ◌-◌, ◌/◌, ◌==◌, nat_le, if◌then◌else◌, List, [], ◌∷◌, slice_get, slice_set, replicate, Option, Some, None, unwrap_or}
use Rattle.std.specs.Option.{option_map, option_and_then}
use Rattle.osc_word.specs.AddressMap.{stack_end, first_shared_page}
use Rattle.osc_world.specs.declared.Reservation.{Reservation}

-- an idle hart has no process and no registers
pub record Hart (V : Type 0) : Type 0 where
  pub process : Option ℕ
  pub thread : Option ℕ  -- its thread's number; None for the first thread of a process
  pub regs : List V
  pub pc : ℕ
  pub reservation : Option Reservation

-- a spawned thread: the process that spawned it, and the value that it left
pub record Thread (V : Type 0) : Type 0 where
  pub spawner : ℕ
  pub value : Option V

pub record Process (M : Type 0) : Type 0 where
  pub memory : M  -- its own
  pub shared : List ℕ  -- the numbers of its shared pages, by their addresses
  pub parent : Option ℕ
  pub status : Option ℕ  -- how it ended

-- threads are numbered from 1, processes, harts and shared pages from 0
pub record State (V B M : Type 0) : Type 0 where
  pub output : List ℕ
  pub shared : List (List B)
  pub processes : List (Process M)
  pub harts : List (Hart V)
  pub threads : List (Thread V)

-- one event under way: the state, the hart with its number, and its process with its number
pub record HartTurn (V B M : Type 0) : Type 0 where
  pub state : State V B M
  pub number : ℕ
  pub hart : Hart V
  pub pid : ℕ
  pub process : Process M

abbrev pub turn_in : {V B M : Type 0} → State V B M → ℕ → Hart V → ℕ → Option (HartTurn V B M)
turn_in state number hart pid =
    option_map (λ process. record { state = state; number = number; hart = hart; pid = pid; process = process })
    (slice_get state.processes pid)

abbrev pub turn_on : {V B M : Type 0} → State V B M → ℕ → Hart V → Option (HartTurn V B M)
turn_on state number hart = option_and_then (turn_in state number hart) hart.process

-- the turn of a hart; None where it runs no thread
abbrev pub turn_of : {V B M : Type 0} → State V B M → ℕ → Option (HartTurn V B M)
turn_of state number = option_and_then (turn_on state number) (slice_get state.harts number)

-- a list with the element of an index changed
unfoldable pub changed_at : {X : Type 0} → (X → X) → List X → ℕ → List X
changed_at change [] index = []
changed_at change (x ∷ xs) zero = change x ∷ xs
changed_at change (x ∷ xs) (suc index) = x ∷ changed_at change xs index

-- what a register holds; x0 holds the value of the number 0
abbrev pub value_in : {V : Type 0} → V → List V → ℕ → V
value_in nought regs number = if number == 0 then nought else unwrap_or (slice_get regs number) nought

-- the registers once one was written; x0 stays
abbrev pub with_value : {V : Type 0} → List V → ℕ → V → List V
with_value regs number value = if number == 0 then regs else slice_set regs number value

-- the shared page that a process has at an address
abbrev pub shared_page_at : List ℕ → ℕ → Option ℕ
shared_page_at shared address =
    if nat_le first_shared_page (address / 4096) then slice_get shared (address / 4096 - first_shared_page) else None

abbrev pub idle : {V : Type 0} → Hart V
idle = record { process = None; thread = None; regs = []; pc = 0; reservation = None }

-- the first thread, of process 0: x2 is the end of the stack, and every other register is 0
abbrev pub boot_hart : {V : Type 0} → (ℕ → V) → ℕ → Hart V
boot_hart number entry =
    record {
      process = Some 0;
      thread = None;
      regs = slice_set (replicate 32 (number 0)) 2 (number stack_end);
      pc = entry;
      reservation = None;
    }

-- process 0 has this memory and runs on hart 0; so many further harts are idle
abbrev pub first_state : {V B M : Type 0} → (ℕ → V) → M → ℕ → ℕ → State V B M
first_state number memory entry others =
    record {
      output = [];
      shared = [];
      processes = record { memory = memory; shared = []; parent = None; status = None } ∷ [];
      harts = boot_hart number entry ∷ replicate others idle;
      threads = [];
    }

-- how process 0 ended
abbrev pub status_of : {V B M : Type 0} → State V B M → Option ℕ
status_of state = option_and_then (λ process. process.status) (slice_get state.processes 0)
