-- Spawned threads. This project's own.
use Rattle.std.specs.Prelude.{ℕ, zero, suc, ◌+◌, ◌-◌, ◌==◌, nat_lt, Bool, if◌then◌else◌, List, [], ◌∷◌, ◌++◌, length, slice_get, slice_set, Option, Some, None}
use Rattle.osc_word.specs.Environment.{thread_limit}
use Rattle.osc_calls.specs.declared.Thread.{Thread}
use Rattle.osc_calls.specs.declared.JoinLook.{JoinLook}
use Rattle.osc_calls.specs.declared.JoinLook.TheVariants.{Value, NotYet, Unknown}

-- threads have numbers from 1 over the whole machine: thread n stands at place n - 1
abbrev pub thread_at : List Thread → ℕ → Option Thread
thread_at threads zero = None
thread_at threads (suc place) = slice_get threads place

abbrev pub has_room : List Thread → Bool
has_room threads = nat_lt (length threads) thread_limit

abbrev pub new_number : List Thread → ℕ
new_number threads = length threads + 1

abbrev pub spawned : ℕ → List Thread → List Thread
spawned pid threads = threads ++ (record { pid = pid; value = None }) ∷ []

abbrev pub put_value : ℕ → ℕ → Option Thread → List Thread → List Thread
put_value place value None threads = threads
put_value place value (Some thread) threads = slice_set threads place (record { pid = thread.pid; value = Some value })

-- a spawned thread is done with a value
abbrev pub thread_done : ℕ → ℕ → List Thread → List Thread
thread_done number value threads = put_value (number - 1) value (thread_at threads number) threads

abbrev pub value_look : Option ℕ → JoinLook
value_look None = NotYet
value_look (Some value) = Value value

abbrev pub thread_look : ℕ → Option Thread → JoinLook
thread_look pid None = Unknown
thread_look pid (Some thread) = if thread.pid == pid then value_look thread.value else Unknown

-- what a join of a process finds; a process's first thread has no number
abbrev pub join_look : List Thread → ℕ → ℕ → JoinLook
join_look threads pid number = thread_look pid (thread_at threads number)
