-- The machine's own words: once the moves and the jobs that are left are done, they are those of the tables
-- that the kernel keeps. This project's own.
use Rattle.std.specs.Prelude.{ℕ, ◌*◌, ◌≡◌, Option, Some, None, List, ◌∷◌, length, slice_get, drop}
use Rattle.osc_word.specs.declared.job_list.WordAt.{WordAt}
use Rattle.osc_sv39.specs.Walk.{word_at, put_word}
use Rattle.osc_paging.specs.JobWords.{words_after}
use Rattle.osc_paging.specs.Agree.{Agrees}
use Rattle.osc_calls.specs.Kernel.{KernelState, Process, process_at}
use Rattle.osc_calls.specs.Moves.{Move, Copy, CopyLow, low_bytes}
use Rattle.osc_calls.specs.MoveLaws.{words_after_moves}
use Rattle.osc_calls.specs.JobDone.{entries}
use Rattle.osc_machine.specs.declared.HartAsk.{HartAsk}
use Rattle.osc_machine.specs.declared.HartAsk.TheVariants.{Load, Store}
use Rattle.osc_machine.specs.Parts.{CallPlace, Outside, Working, HartState, State}
use Rattle.osc_machine.specs.Turns.{hart_ask}
use Rattle.osc_machine.specs.Step.{step}
use Rattle.osc_safe.specs.Holding.{Holds}
use Rattle.osc_safe.specs.Standing.{Stands}

-- ---- the work that is left
-- the words once these moves are done, of which the first may have read its word
abbrev pub words_then : List Move → Option ℕ → List ℕ → List ℕ
words_then (Copy from to ∷ moves) (Some word) words = words_after_moves moves (put_word words to.frame to.index word)
words_then (CopyLow from to bytes ∷ moves) (Some word) words =
    words_after_moves moves (put_word words to.frame to.index (low_bytes bytes word))
words_then moves read words = words_after_moves moves words

-- once a hart at this place in a call has done all jobs of the kernel that it has
abbrev pub words_in_end : CallPlace → KernelState → List ℕ → List ℕ
words_in_end (Working moves read) k words = words_after (entries k) (drop 1 k.jobs) (words_then moves read words)
words_in_end place k words = words_after (entries k) k.jobs words

-- ---- actions
-- what an action does to the words, and which word it tells
abbrev pub Does : HartAsk → ℕ → List ℕ → List ℕ → Type 0
Does (Load from) word words now = (word ≡ word_at words from.frame from.index) × (now ≡ words)
Does (Store to value) word words now = now ≡ put_word words to.frame to.index value
Does a word words now = now ≡ words

-- ---- the agreement
-- the words are those of the tables of each process that has not ended
pub record AllAgree (k : KernelState) (words : List ℕ) : Type 0 where
  pub size : length words ≡ k.config.frames * 512
  pub each : (pid : ℕ) (p : Process) → process_at k pid ≡ Some p → p.status ≡ None → Agrees p.space.tables k.free words

-- with these words all agree once the kernel's work is done, at home and in a hart's hand
pub record WordsAgree (s : State) (words : List ℕ) : Type 0 where
  pub home : (k : KernelState) → s.kernel ≡ Some k → AllAgree k (words_in_end Outside k words)
  pub hand : (n : ℕ) (h : HartState) (k : KernelState) → slice_get s.harts n ≡ Some h → h.kernel ≡ Some k
      → AllAgree k (words_in_end h.place k words)

-- ---- steps
-- a store of a hart outside a call leaves the agreement
abbrev pub StoreLeaves : State → ℕ → Type 0
StoreLeaves s n =
    (h : HartState) (to : WordAt) (value : ℕ) → slice_get s.harts n ≡ Some h → h.place ≡ Outside → hart_ask h ≡ Store to value
    → WordsAgree s (put_word s.words to.frame to.index value)

-- each step keeps it, where such a store does
abbrev pub StepsKeepWords : Type 0
StepsKeepWords =
    (s : State) (n : ℕ) → Holds s → Stands s → StoreLeaves s n → WordsAgree s s.words
    → WordsAgree (step s n).state (step s n).state.words
