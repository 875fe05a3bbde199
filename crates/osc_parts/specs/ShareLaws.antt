-- The law of share: it changes how many processes hold which frames, so it speaks of all of them.
use Rattle.std.specs.Prelude.{ℕ, ◌+◌, ◌*◌, ◌≡◌, None, List, length}
use Rattle.osc_word.specs.declared.settings.HeapKind.{HeapKind}
use Rattle.osc_slot.specs.Heap.{free_count}
use Rattle.osc_paging.specs.KeptTables.{need}
use Rattle.osc_paging.specs.CopyLaws.{KeepsTaken}
use Rattle.osc_space.specs.Space.{Space, Draft, first_reason}
use Rattle.osc_space.specs.Share.{Regions, Sharing, holders, shared_frames, next_shared_page, share_reasons, share_plan}
use Rattle.osc_parts.specs.Frames.{among, frames_mapped}
use Rattle.osc_parts.specs.Settled.{Settled}
use Rattle.osc_parts.specs.Jobs.{Pushed}
use Rattle.osc_parts.specs.OthersFit.{StandsBeside}

-- what a share changes of a draft, and the draft with it
abbrev pub sharing_of : Regions → Draft → Sharing
sharing_of regions d = record { tables = d.space.tables; regions = regions; free = d.free; jobs = d.jobs }

abbrev pub shared_draft : Sharing → Draft → Draft
shared_draft s d = record { space = record (d.space) { tables = s.tables }; free = s.free; jobs = s.jobs }

-- The memory fits again, with the new regions; it takes exactly its pages and the tables that they
-- need; each frame is held by one more process for each page that this one maps more; and other
-- memories still stand beside it.
pub record ShareFits (kind : HeapKind) (batch : ℕ) (entries : ℕ → ℕ → ℕ) (words : List ℕ) (regions : Regions) (n : ℕ) (d : Draft) (s : Sharing) : Type 0 where
  pub settled : Settled kind batch entries words s.regions (shared_draft s d)
  pub takes : KeepsTaken d.free s.free
  pub count : free_count s.free + (n + need d.space.tables (next_shared_page d.space.tables) n) ≡ free_count d.free
  pub holds : (frame : ℕ) → holders s.regions frame + among frame (shared_frames d.space.tables) ≡ holders regions frame + among frame (shared_frames s.tables)
  pub pushes : Pushed (λ frame. among frame (frames_mapped (shared_draft s d).space) ≡ 1) d.jobs s.jobs (8 * length d.free + 64)
  pub others : (other_kind : HeapKind) (other_batch : ℕ) (other : Space) → StandsBeside other_kind other_batch entries words regions other d
      → StandsBeside other_kind other_batch entries words s.regions other (shared_draft s d)

abbrev pub SharesFit : Type 0
SharesFit =
    (kind : HeapKind) (batch : ℕ) (entries : ℕ → ℕ → ℕ) (words : List ℕ) (regions : Regions) (n : ℕ) (d : Draft)
    → Settled kind batch entries words regions d → first_reason (share_reasons n (sharing_of regions d)) ≡ None
    → ShareFits kind batch entries words regions n d (share_plan n (sharing_of regions d))
