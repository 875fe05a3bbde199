-- The threads that live: spawned, and not done yet. This project's own.
use Rattle.std.specs.Prelude.{ℕ, Bool, false, ◌==◌, is_none, List, Option, Some, None}
use Rattle.osc_calls.specs.declared.Thread.{Thread}
use Rattle.osc_calls.specs.Threads.{thread_at}

abbrev pub runs : Option Thread → Bool
runs None = false
runs (Some thread) = is_none thread.value

abbrev pub runs_in : ℕ → Option Thread → Bool
runs_in pid None = false
runs_in pid (Some thread) = thread.pid == pid

-- whether a thread of this number lives
abbrev pub is_alive : List Thread → ℕ → Bool
is_alive threads number = runs (thread_at threads number)

-- whether this process spawned a thread of this number
abbrev pub is_spawned_by : ℕ → List Thread → ℕ → Bool
is_spawned_by pid threads number = runs_in pid (thread_at threads number)
