-- The law of fork: parent, child and all others fit beside each other.
use Rattle.std.specs.Prelude.{ℕ, ◌+◌, ◌*◌, ◌≡◌, None, List, ◌++◌, length}
use Rattle.osc_word.specs.declared.settings.HeapKind.{HeapKind}
use Rattle.osc_paging.specs.Agree.{Agrees}
use Rattle.osc_paging.specs.JobWords.{words_after}
use Rattle.osc_paging.specs.CopyLaws.{KeepsTaken, TellsEntries, CopyAgrees}
use Rattle.osc_space.specs.Space.{Space, Draft, first_reason}
use Rattle.osc_space.specs.Fork.{Forked, fork_reasons, fork_plan}
use Rattle.osc_space.specs.Share.{Regions, holders, shared_frames, join}
use Rattle.osc_parts.specs.Frames.{among}
use Rattle.osc_parts.specs.Settled.{PartsFit, Settled}
use Rattle.osc_parts.specs.Jobs.{Pushed, IsOwn}
use Rattle.osc_parts.specs.OthersFit.{HoldsApart}

-- Parent and child fit, with the regions that both hold now, and no frame that one holds alone is the
-- other's; each frame of a region is held once more for each time that the child has it, and the child
-- has those of its parent; the words agree with both once the jobs are done, where `entries` tells
-- those of the child's tables; the jobs write in the child's frames alone. Another memory keeps its
-- parts and its words, apart from the child too.
pub record ForkFits (kind : HeapKind) (batch : ℕ) (entries : ℕ → ℕ → ℕ) (words : List ℕ) (regions now : Regions) (d : Draft) (f : Forked) : Type 0 where
  pub takes : KeepsTaken d.free f.free
  pub parent : PartsFit kind batch now d.space f.free
  pub child : PartsFit kind batch now f.child f.free
  pub apart : HoldsApart d.space f.child
  pub apart_back : HoldsApart f.child d.space
  pub holds : (frame : ℕ) → holders now frame ≡ holders regions frame + among frame (shared_frames f.child.tables)
  pub same : shared_frames f.child.tables ≡ shared_frames d.space.tables
  pub tables : TellsEntries entries f.child.tables → CopyAgrees d.space.tables f.names f.free (words_after entries (d.jobs ++ f.jobs) words)
  pub pushes : Pushed (IsOwn f.child) d.jobs (d.jobs ++ f.jobs) (8 * length d.free + 64)
  pub others : (other_kind : HeapKind) (other_batch : ℕ) (other : Space) → PartsFit other_kind other_batch regions other d.free → HoldsApart other d.space → PartsFit other_kind other_batch now other f.free
  pub others_apart : (other_kind : HeapKind) (other_batch : ℕ) (other : Space) → PartsFit other_kind other_batch regions other d.free → HoldsApart f.child other
  pub others_back : (other_kind : HeapKind) (other_batch : ℕ) (other : Space) → PartsFit other_kind other_batch regions other d.free → HoldsApart other d.space → HoldsApart other f.child
  pub others_tables : (other_kind : HeapKind) (other_batch : ℕ) (other : Space) → PartsFit other_kind other_batch regions other d.free
      → Agrees other.tables d.free (words_after entries d.jobs words) → Agrees other.tables f.free (words_after entries (d.jobs ++ f.jobs) words)

abbrev pub ForksFit : Type 0
ForksFit =
    (kind : HeapKind) (batch : ℕ) (entries : ℕ → ℕ → ℕ) (words : List ℕ) (regions : Regions) (d : Draft)
    → Settled kind batch entries words regions d → first_reason (fork_reasons d.space d.free) ≡ None
    → ForkFits kind batch entries words regions (join (fork_plan d.space d.free).child.tables regions) d (fork_plan d.space d.free)
