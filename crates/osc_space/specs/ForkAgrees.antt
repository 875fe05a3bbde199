-- The law of a child's words: where the parts of a process agree, and its tables with the words, the
-- jobs of a fork leave words that agree with the parent's tables and with the child's.
use Rattle.std.specs.Prelude.{ℕ, ◌≡◌, Bool, None, List}
use Rattle.osc_word.specs.declared.settings.HeapKind.{HeapKind}
use Rattle.osc_paging.specs.JobWords.{words_after}
use Rattle.osc_paging.specs.Agree.{Agrees}
use Rattle.osc_paging.specs.CopyLaws.{TellsEntries, CopyAgrees}
use Rattle.osc_space.specs.Space.{Space, first_reason}
use Rattle.osc_space.specs.Share.{Regions}
use Rattle.osc_space.specs.Fork.{Forked, fork_reasons, fork_plan}
use Rattle.osc_space.specs.Agree.{SpaceAgrees}

-- `entries` tells the words of the child's tables
abbrev pub ForkAgrees : (ℕ → ℕ → ℕ) → Space → List ℕ → Forked → Type 0
ForkAgrees entries s words f =
    TellsEntries entries f.child.tables → CopyAgrees s.tables f.names f.free (words_after entries f.jobs words)

abbrev pub ForksAgree : Type 0
ForksAgree =
    (kind : HeapKind) (entries : ℕ → ℕ → ℕ) (s : Space) (regions : Regions) (free : List Bool) (words : List ℕ)
    → SpaceAgrees kind s regions free → Agrees s.tables free words → first_reason (fork_reasons s free) ≡ None
    → ForkAgrees entries s words (fork_plan s free)
