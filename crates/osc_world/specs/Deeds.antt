-- What an event does to a state of the object run or of the plain run, once it is decided which deed it
-- is. P says where a store begins, and H what a call of the heap does. RISC-V Unprivileged manual, "RV32I
-- Base Integer Instruction Set": x0 is never changed; the calls are this project's own.
use Rattle.std.specs.Prelude.{ℕ, ◌+◌, ◌-◌, ◌*◌, ◌%◌, ◌==◌, Bool, false, if◌then◌else◌, List, [], ◌∷◌, ◌++◌, length, map, replicate, slice_set, Option, Some, None}
use Rattle.std.specs.List.{list_any, range_with_len}
use Rattle.osc_word.specs.AddressMap.{first_shared_page}
use Rattle.osc_word.specs.Environment.{answer_register}
use Rattle.osc_isa.specs.Numbers.{wrapped}
use Rattle.osc_isa.specs.Integer.{next}
use Rattle.osc_world.specs.declared.Reservation.{Reservation}
use Rattle.osc_world.specs.States.{State, Process, Hart, Thread, HartTurn, idle, with_value, changed_at}

-- a store: where it begins, and its bytes
pub record Put (B P : Type 0) : Type 0 where
  pub at : P
  pub bytes : List B

-- a store, if there is one; then a register gets a value, where x0 stays, and the hart goes on at pc with
-- this reservation
pub record Step (V B P : Type 0) : Type 0 where
  pub put : Option (Put B P)
  pub rd : ℕ
  pub value : V
  pub pc : ℕ
  pub reservation : Option Reservation

-- what an event does
pub data Deed (V B P H : Type 0) : Type 0 where
  Steps : Step V B P → Deed V B P H
  Heaps : H → V → Deed V B P H  -- malloc, free or realloc, with its answer
  Writes : List ℕ → Deed V B P H  -- bytes of output
  Shares : ℕ → Deed V B P H  -- so many pages
  Forks : ℕ → Deed V B P H  -- the child runs on this hart
  Spawns : ℕ → ℕ → V → V → Deed V B P H  -- a thread on this hart, with its pc, sp and argument
  Exits : ℕ → Deed V B P H  -- with this status, of which 6 bits count
  Leaves : V → Deed V B P H  -- a thread is done, and leaves this value

-- what the two runs do not share: the value of a number, the byte 0, the state after a store, and a process's
-- own memory after a call of the heap
pub record Kind (V B M P H : Type 0) : Type 0 where
  pub number : ℕ → V
  pub nought : B
  pub put : HartTurn V B M → Put B P → State V B M
  pub memory : HartTurn V B M → H → M

-- ---- steps

-- a register gets a value, and the hart goes on with the next instruction
abbrev pub sets : {V B M P : Type 0} → HartTurn V B M → ℕ → V → Step V B P
sets turn rd value =
    record { put = None; rd = rd; value = value; pc = next turn.hart.pc; reservation = turn.hart.reservation }

-- a call is answered in a0; no reservation outlasts a call
abbrev pub answers : {V B M P H : Type 0} → HartTurn V B M → V → Deed V B P H
answers turn value = Steps (record (sets turn answer_register value) { reservation = None })

-- the hart goes on with these registers at this pc, in a state that its deed left
abbrev pub goes_on : {V B M : Type 0} → HartTurn V B M → State V B M → List V → ℕ → Option Reservation → State V B M
goes_on turn state regs pc reservation =
    record state {
      harts = slice_set state.harts turn.number (record (turn.hart) { regs = regs; pc = pc; reservation = reservation });
    }

abbrev pub with_answer : {V B M : Type 0} → HartTurn V B M → State V B M → V → State V B M
with_answer turn state value =
    goes_on turn state (with_value turn.hart.regs answer_register value) (next turn.hart.pc) None

abbrev pub put_if : {V B M P H : Type 0} → Kind V B M P H → HartTurn V B M → Option (Put B P) → State V B M
put_if kind turn None = turn.state
put_if kind turn (Some put) = kind.put turn put

abbrev pub after_step : {V B M P H : Type 0} → Kind V B M P H → HartTurn V B M → Step V B P → State V B M
after_step kind turn step =
    goes_on turn (put_if kind turn step.put) (with_value turn.hart.regs step.rd step.value) step.pc step.reservation

-- ---- the process and its shared pages

abbrev pub with_process : {V B M : Type 0} → HartTurn V B M → Process M → State V B M
with_process turn process =
    record (turn.state) { processes = slice_set turn.state.processes turn.pid process }

abbrev pub with_memory : {V B M : Type 0} → HartTurn V B M → M → State V B M
with_memory turn memory = with_process turn (record (turn.process) { memory = memory })

-- so many zero pages more, which this process holds
abbrev pub with_shared : {V B M : Type 0} → B → HartTurn V B M → ℕ → State V B M
with_shared nought turn count =
    record (with_process turn (record (turn.process) { shared = turn.process.shared ++ range_with_len (length turn.state.shared) count })) {
      shared = turn.state.shared ++ replicate count (replicate 4096 nought);
    }

-- the address of the next shared page of a process
abbrev pub shared_next : {M : Type 0} → Process M → ℕ
shared_next process = wrapped (4096 * (first_shared_page + length process.shared))

-- ---- ends

abbrev pub is_number : Option ℕ → ℕ → Bool
is_number None n = false
is_number (Some m) n = m == n

-- whether a hart runs a thread of this process
abbrev pub runs : {V : Type 0} → ℕ → Hart V → Bool
runs pid hart = is_number hart.process pid

abbrev pub stopped : {V : Type 0} → ℕ → Hart V → Hart V
stopped pid hart = if runs pid hart then idle else hart

-- the process ends, and every hart that ran it is idle
abbrev pub exited : {V B M : Type 0} → HartTurn V B M → ℕ → State V B M
exited turn status =
    record (with_process turn (record (turn.process) { status = Some (status % 64) })) {
      harts = map (stopped turn.pid) turn.state.harts;
    }

-- the threads once one left a value; the first thread of a process has no number, and leaves none
abbrev pub left_by : {V : Type 0} → List (Thread V) → Option ℕ → V → List (Thread V)
left_by threads None value = threads
left_by threads (Some thread) value = changed_at (λ t. record t { value = Some value }) threads (thread - 1)

-- the status of a process, one thread of which is done: 0 where no other thread is left
abbrev pub status_after : {V : Type 0} → ℕ → Option ℕ → List (Hart V) → Option ℕ
status_after pid status harts = if list_any (runs pid) harts then status else Some 0

-- the hart is idle, and the value is kept
abbrev pub done_with : {V B M : Type 0} → HartTurn V B M → V → State V B M
done_with turn value =
    let harts = slice_set turn.state.harts turn.number idle in
    record (with_process turn (record (turn.process) { status = status_after turn.pid turn.process.status harts })) {
      harts = harts;
      threads = left_by turn.state.threads turn.hart.thread value;
    }

-- ---- beginnings

-- a hart runs on as this one
abbrev pub begins_on : {V B M : Type 0} → ℕ → Hart V → State V B M → State V B M
begins_on number hart state = record state { harts = slice_set state.harts number hart }

-- the child has a copy of the parent's own memory, and the same shared pages
abbrev pub with_child : {V B M : Type 0} → HartTurn V B M → State V B M
with_child turn =
    record (turn.state) {
      processes = turn.state.processes
          ++ record { memory = turn.process.memory; shared = turn.process.shared; parent = Some turn.pid; status = None } ∷ [];
    }

-- the caller's registers, with answer 0
abbrev pub child_hart : {V B M : Type 0} → (ℕ → V) → HartTurn V B M → Hart V
child_hart number turn =
    record {
      process = Some (length turn.state.processes);
      thread = None;
      regs = with_value turn.hart.regs answer_register (number 0);
      pc = next turn.hart.pc;
      reservation = None;
    }

-- one thread more, of this process
abbrev pub with_thread : {V B M : Type 0} → HartTurn V B M → State V B M
with_thread turn =
    record (turn.state) { threads = turn.state.threads ++ record { spawner = turn.pid; value = None } ∷ [] }

-- x2 is sp, a0 is the argument, and every other register is 0
abbrev pub thread_hart : {V B M : Type 0} → (ℕ → V) → HartTurn V B M → ℕ → V → V → Hart V
thread_hart number turn pc sp arg =
    record {
      process = Some turn.pid;
      thread = Some (length turn.state.threads + 1);
      regs = slice_set (slice_set (replicate 32 (number 0)) 2 sp) answer_register arg;
      pc = pc;
      reservation = None;
    }

-- ---- all of it

-- the state after a deed
unfoldable pub state_after : {V B M P H : Type 0} → Kind V B M P H → HartTurn V B M → Deed V B P H → State V B M
state_after kind turn (Steps step) = after_step kind turn step
state_after kind turn (Heaps deed value) = with_answer turn (with_memory turn (kind.memory turn deed)) value
state_after kind turn (Writes bytes) =
    with_answer turn (record (turn.state) { output = turn.state.output ++ bytes }) (kind.number (length bytes))
state_after kind turn (Shares count) =
    with_answer turn (with_shared kind.nought turn count) (kind.number (shared_next turn.process))
state_after kind turn (Forks hart) =
    begins_on hart (child_hart kind.number turn) (with_answer turn (with_child turn) (kind.number (length turn.state.processes)))
state_after kind turn (Spawns hart pc sp arg) =
    begins_on hart (thread_hart kind.number turn pc sp arg)
    (with_answer turn (with_thread turn) (kind.number (length turn.state.threads + 1)))
state_after kind turn (Exits status) = exited turn status
state_after kind turn (Leaves value) = done_with turn value
