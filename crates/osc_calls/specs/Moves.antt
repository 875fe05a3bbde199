-- A job as a list of moves, each of which touches one word or one box: what the hart that has the kernel
-- does step by step. This project's own.
use Rattle.std.specs.Prelude.{ℕ, ◌+◌, ◌%◌, ◌*◌, ◌^◌, List, [], ◌∷◌, map}
use Rattle.std.specs.List.{range_with_len}
use Rattle.osc_word.specs.declared.job_list.WordAt.{WordAt}
use Rattle.osc_word.specs.declared.job_list.Job.{Job}
use Rattle.osc_word.specs.declared.job_list.Job.TheVariants.{PutWord, ZeroWords, CopyWords, CopyPart, CopyTable, ClearBox, Tell, ToOut}

-- a copy is one load and then one store
pub data Move : Type 0 where
  Put : WordAt → ℕ → Move
  Copy : WordAt → WordAt → Move
  CopyLow : WordAt → WordAt → ℕ → Move  -- the bytes from this one on become 0
  ChangeBox : ℕ → Move  -- the box of this hart
  Out : WordAt → Move  -- a load, whose bytes go to the output

-- the word so many words after another of its frame
abbrev pub after : WordAt → ℕ → WordAt
after at count = record { frame = at.frame; index = at.index + count }

-- so many of the lowest bytes of a word
abbrev pub low_bytes : ℕ → ℕ → ℕ
low_bytes bytes word = word % 2 ^ (8 * bytes)

-- the moves of a job; `entries` tells what stands in a copied table's frame at an index
abbrev pub moves_of : (ℕ → ℕ → ℕ) → Job → List Move
moves_of entries (PutWord at value) = Put at value ∷ []
moves_of entries (ZeroWords at count) = map (λ k. Put (after at k) 0) (range_with_len 0 count)
moves_of entries (CopyWords from to count) = map (λ k. Copy (after from k) (after to k)) (range_with_len 0 count)
moves_of entries (CopyPart from to bytes) = CopyLow from to bytes ∷ []
moves_of entries (CopyTable from to) = map (λ k. Put (record { frame = to; index = k }) (entries to k)) (range_with_len 0 512)
moves_of entries (ClearBox hart) = ChangeBox hart ∷ []
moves_of entries (Tell hart) = ChangeBox hart ∷ []
moves_of entries (ToOut at first count) = Out at ∷ []
