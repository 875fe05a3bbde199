-- What an instruction leaves to the choice of its event, and what then happens; with that of the calls that
-- mean the same in the object run and in the plain run. This project's own. D is what a run does, and E why
-- it goes no further.
use Rattle.std.specs.Prelude.{ℕ, ◌-◌, ◌==◌, Bool, false, not, min, nat_lt, if◌then◌else◌, List, length, slice_get, Option, Some, None, is_some, Result, Ok, Err}
use Rattle.std.specs.Option.{option_map}
use Rattle.osc_word.specs.declared.steps.Choice.{Choice}
use Rattle.osc_word.specs.declared.steps.Choice.TheVariants as choice
use Rattle.osc_word.specs.Environment.{minus_one, output_limit}
use Rattle.osc_world.specs.States.{State, Process, Hart, Thread, HartTurn}
use Rattle.osc_world.specs.Deeds.{Deed, Shares, Forks, Spawns, is_number, answers}

-- what an event means: it goes on with something, or errs, or is nothing, since it does not fit
pub data Meaning (D E : Type 0) : Type 0 where
  Goes : D → Meaning D E
  Errs : E → Meaning D E
  Unfit : Meaning D E

-- what is left to choose, and what is done by each choice
pub data Offer (D E : Type 0) : Type 0 where
  Only : D → Offer D E  -- nothing is left to choose
  Grants : Meaning D E → D → Offer D E  -- memory is given, or the call refused
  Starts : (ℕ → D) → D → Offer D E  -- a thread starts on an idle hart, or the call is refused
  Conditional : Meaning D E → D → Offer D E  -- a store-conditional stores, or fails
  Never : Offer D E  -- no choice fits

abbrev pub is_idle : {V : Type 0} → Option (Hart V) → Bool
is_idle None = false
is_idle (Some hart) = not (is_some hart.process)

-- what is done by a choice
unfoldable pub chosen : {V D E : Type 0} → List (Hart V) → Offer D E → Choice → Meaning D E
chosen harts (Only deed) choice.Plain = Goes deed
chosen harts (Grants given refused) choice.Given = given
chosen harts (Grants given refused) choice.Refused = Goes refused
chosen harts (Starts deed refused) (choice.Started hart) =
    if is_idle (slice_get harts hart) then Goes (deed hart) else Unfit
chosen harts (Starts deed refused) choice.Refused = Goes refused
chosen harts (Conditional success failure) choice.Success = success
chosen harts (Conditional success failure) choice.Fail = Goes failure
chosen harts _ _ = Unfit

-- ---- checks, in their order

-- the next check, unless there was an error
abbrev pub then_try : {A B E : Type 0} → Result A E → (A → Result B E) → Result B E
then_try (Ok value) continue = continue value
then_try (Err why) continue = Err why

-- the next check, where a test holds
abbrev pub provided : {A E : Type 0} → Bool → E → Result A E → Result A E
provided test why continue = if test then continue else Err why

-- ---- calls of both runs; `number` gives the value of a number

-- join and wait: the answer, once there is one
abbrev pub answers_if : {V B M P H E : Type 0} → HartTurn V B M → Option V → Offer (Deed V B P H) E
answers_if turn None = Never
answers_if turn (Some value) = Only (answers turn value)

-- the spawned thread of a number
abbrev pub thread_at : {V : Type 0} → List (Thread V) → ℕ → Option (Thread V)
thread_at threads thread = if thread == 0 then None else slice_get threads (thread - 1)

abbrev pub thread_value : {V : Type 0} → (ℕ → V) → ℕ → Option (Thread V) → Option V
thread_value number pid None = Some (number minus_one)
thread_value number pid (Some thread) = if thread.spawner == pid then thread.value else Some (number minus_one)

-- join: the value of a thread that this process spawned
abbrev pub joins : {V B M P H E : Type 0} → (ℕ → V) → HartTurn V B M → ℕ → Offer (Deed V B P H) E
joins number turn thread = answers_if turn (thread_value number turn.pid (thread_at turn.state.threads thread))

abbrev pub child_value : {V M : Type 0} → (ℕ → V) → ℕ → Option (Process M) → Option V
child_value number pid None = Some (number minus_one)
child_value number pid (Some process) =
    if is_number process.parent pid then option_map number process.status else Some (number minus_one)

-- wait: the status of a child of this process
abbrev pub waits : {V B M P H E : Type 0} → (ℕ → V) → HartTurn V B M → ℕ → Offer (Deed V B P H) E
waits number turn child = answers_if turn (child_value number turn.pid (slice_get turn.state.processes child))

abbrev pub forks : {V B M P H E : Type 0} → (ℕ → V) → HartTurn V B M → Offer (Deed V B P H) E
forks number turn = Starts (λ hart. Forks hart) (answers turn (number minus_one))

abbrev pub spawns : {V B M P H E : Type 0} → (ℕ → V) → HartTurn V B M → ℕ → V → V → Offer (Deed V B P H) E
spawns number turn pc sp arg = Starts (λ hart. Spawns hart pc sp arg) (answers turn (number minus_one))

-- share: no pages are never given
abbrev pub shares : {V B P H E : Type 0} → ℕ → Meaning (Deed V B P H) E
shares count = if nat_lt 0 count then Goes (Shares count) else Unfit

-- write: the count of bytes that the output has room for
abbrev pub write_count : {V B M : Type 0} → State V B M → ℕ → ℕ
write_count state asked = min asked (output_limit - length state.output)
