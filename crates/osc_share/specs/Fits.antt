-- What a share that is not refused leaves of a memory whose parts fit. This project's own.
use Rattle.std.specs.Prelude.{ℕ, List}
use Rattle.osc_word.specs.declared.settings.HeapKind.{HeapKind}
use Rattle.osc_space.specs.Space.{Space, Draft}
use Rattle.osc_space.specs.Share.{Sharing}
use Rattle.osc_parts.specs.Settled.{Settled}
use Rattle.osc_parts.specs.ShareLaws.{ShareFits}
use Rattle.osc_share.specs.declared.sharing.SharePlan.{SharePlan}
use Rattle.osc_share.specs.declared.sharing.SharePlan.TheVariants.{Given, Empty, NoFrames}

-- a memory with the tables, the free frames and the jobs that a share is given
abbrev pub draft_with : Space → Sharing → Draft
draft_with space s = record { space = record space { tables = s.tables }; free = s.free; jobs = s.jobs }

-- Where such a memory was settled before the call, it is again, with the new regions and beside all
-- other processes' memories.
abbrev pub FitsAfter : ℕ → Space → Sharing → SharePlan → Sharing → Type 0
FitsAfter n space old (Given address) new =
    (kind : HeapKind) (batch : ℕ) (entries : ℕ → ℕ → ℕ) (words : List ℕ)
    → Settled kind batch entries words old.regions (draft_with space old) → ShareFits kind batch entries words old.regions n (draft_with space old) new
FitsAfter n space old Empty new = Unit {0}
FitsAfter n space old NoFrames new = Unit {0}
