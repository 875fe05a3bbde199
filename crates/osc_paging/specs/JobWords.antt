-- What jobs do to the words of memory. It is this project's own.
use Rattle.std.specs.Prelude.{ℕ, zero, suc, ◌+◌, ◌*◌, ◌%◌, ◌^◌, List, [], ◌∷◌, slice_index, slice_set}
use Rattle.osc_word.specs.declared.job_list.Job.{Job}
use Rattle.osc_word.specs.declared.job_list.Job.TheVariants.{PutWord, ZeroWords, CopyWords, CopyPart, CopyTable, ClearBox, Tell, ToOut}
use Rattle.osc_sv39.specs.Walk.{word_at, put_word}

-- so many words from a place on are 0
unfoldable pub zeroed : ℕ → ℕ → List ℕ → List ℕ
zeroed from zero words = words
zeroed from (suc count) words = zeroed (from + 1) count (slice_set words from 0)

-- so many words, one after another
unfoldable pub copied : ℕ → ℕ → ℕ → List ℕ → List ℕ
copied from to zero words = words
copied from to (suc count) words = copied (from + 1) (to + 1) count (slice_set words to (slice_index words from))

-- so many entries of a table, from this index on
unfoldable pub table_copied : (ℕ → ℕ → ℕ) → ℕ → ℕ → ℕ → List ℕ → List ℕ
table_copied entries frame index zero words = words
table_copied entries frame index (suc count) words =
    table_copied entries frame (index + 1) count (put_word words frame index (entries frame index))

-- the words once a job is done; `entries` tells what stands in a copied table's frame at an index
abbrev pub words_done : (ℕ → ℕ → ℕ) → Job → List ℕ → List ℕ
words_done entries (PutWord at value) words = put_word words at.frame at.index value
words_done entries (ZeroWords at count) words = zeroed (at.frame * 512 + at.index) count words
words_done entries (CopyWords from to count) words =
    copied (from.frame * 512 + from.index) (to.frame * 512 + to.index) count words
words_done entries (CopyPart from to bytes) words =
    put_word words to.frame to.index (word_at words from.frame from.index % 2 ^ (8 * bytes))
words_done entries (CopyTable from to) words = table_copied entries to 0 512 words
words_done entries (ClearBox hart) words = words
words_done entries (Tell hart) words = words
words_done entries (ToOut at first count) words = words

-- the words once all jobs are done
abbrev pub words_after : (ℕ → ℕ → ℕ) → List Job → List ℕ → List ℕ
words_after entries [] words = words
words_after entries (job ∷ jobs) words = words_after entries jobs (words_done entries job words)
