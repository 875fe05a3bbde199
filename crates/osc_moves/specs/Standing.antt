-- How far a hart is in a job, and the moves that are left of it. This project's own.
use Rattle.std.specs.Prelude.{ℕ, ◌≡◌, ◌<◌, Bool, true, false, ◌&&◌, if◌then◌else◌, nat_lt, Option, Some, None, is_none, List, ◌∷◌, drop}
use Rattle.osc_word.specs.declared.job_list.Job.{Job}
use Rattle.osc_word.specs.declared.job_list.Job.TheVariants.{PutWord, ZeroWords, CopyWords, CopyPart, CopyTable, ClearBox, Tell, ToOut}
use Rattle.osc_calls.specs.Moves.{Move, moves_of}
use Rattle.osc_calls.specs.Moves as move
use Rattle.osc_machine.specs.Turns.{MovesLeft, StillAt, AllDone}

-- a job, how many of its moves are done, and the word that the next one has read
pub record Standing : Type 0 where
  pub job : Job
  pub done : ℕ
  pub read : Option ℕ

-- at the first move of a job
abbrev pub first_of : Job → Standing
first_of job = record { job = job; done = 0; read = None }

-- the moves that are left, where a copied table's frame gets these entries
abbrev pub moves_at : (ℕ → ℕ → ℕ) → Standing → List Move
moves_at entries s = drop s.done (moves_of entries s.job)

-- where a hart stands once an action is done, as the definition of its turns knows it
abbrev pub left_of : (ℕ → ℕ → ℕ) → Option Standing → MovesLeft
left_of entries None = AllDone
left_of entries (Some s) = StillAt (moves_at entries s) s.read

-- ---- tables that are copied
-- the place in the table of the entry that the next move stores
abbrev pub place_in : Job → ℕ → Option ℕ
place_in (CopyTable from to) done = if nat_lt done 512 then Some done else None
place_in _ done = None

abbrev pub place_of : Standing → Option ℕ
place_of s = place_in s.job s.done

-- the word is that entry, where the next move stores one
abbrev pub IsEntryIn : (ℕ → ℕ → ℕ) → Job → ℕ → ℕ → Type 0
IsEntryIn entries (CopyTable from to) done word = done < 512 → word ≡ entries to done
IsEntryIn entries _ done word = Unit {0}

abbrev pub IsEntry : (ℕ → ℕ → ℕ) → Standing → ℕ → Type 0
IsEntry entries s word = IsEntryIn entries s.job s.done word

-- ---- copies
-- the next action is the load of a copy
abbrev pub is_copy : Job → Bool
is_copy (CopyWords from to count) = true
is_copy (CopyPart from to bytes) = true
is_copy _ = false

abbrev pub loads_first : Standing → Bool
loads_first s = is_none s.read && is_copy s.job

-- ---- boxes
-- the box that a job changes
abbrev pub box_of : Job → Option ℕ
box_of (ClearBox hart) = Some hart
box_of (Tell hart) = Some hart
box_of _ = None

-- the box that the first of these moves changes
abbrev pub box_changed : List Move → Option ℕ
box_changed (move.ChangeBox box ∷ moves) = Some box
box_changed _ = None
