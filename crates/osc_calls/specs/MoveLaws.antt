-- The law of moves: the moves of a job do to the words of memory what the job means.
use Rattle.std.specs.Prelude.{ℕ, ◌≡◌, List, [], ◌∷◌}
use Rattle.osc_word.specs.declared.job_list.Job.{Job}
use Rattle.osc_sv39.specs.Walk.{word_at, put_word}
use Rattle.osc_paging.specs.JobWords.{words_done}
use Rattle.osc_calls.specs.Moves.{Move, Put, Copy, CopyLow, ChangeBox, Out, low_bytes, moves_of}

-- the words once a move is done
abbrev pub words_moved : Move → List ℕ → List ℕ
words_moved (Put at value) words = put_word words at.frame at.index value
words_moved (Copy from to) words = put_word words to.frame to.index (word_at words from.frame from.index)
words_moved (CopyLow from to bytes) words =
    put_word words to.frame to.index (low_bytes bytes (word_at words from.frame from.index))
words_moved (ChangeBox hart) words = words
words_moved (Out at) words = words

abbrev pub words_after_moves : List Move → List ℕ → List ℕ
words_after_moves [] words = words
words_after_moves (move ∷ moves) words = words_after_moves moves (words_moved move words)

-- the moves of a job, all of them, make the words that it means
abbrev pub MovesDoJob : Type 0
MovesDoJob =
    (entries : ℕ → ℕ → ℕ) (job : Job) (words : List ℕ)
    → words_after_moves (moves_of entries job) words ≡ words_done entries job words
