-- What a share asks of its process's parts, and what it answers and makes. It is this project's own.
use Rattle.std.specs.Prelude.{ℕ, ◌≡◌, ◌≤◌, Bool, Some, None, List, length}
use Rattle.osc_word.specs.declared.job_list.Job.{Job}
use Rattle.osc_word.specs.declared.settings.HeapKind.{HeapKind}
use Rattle.osc_word.specs.declared.calls.Answer.TheVariants as answer
use Rattle.osc_paging.specs.KeptTables.{KeptTables}
use Rattle.osc_space.specs.Space.{Space, first_reason}
use Rattle.osc_space.specs.Agree.{SpaceAgrees}
use Rattle.osc_space.specs.Share.{Regions, Sharing, share_reasons, share_address, share_plan}
use Rattle.osc_share.specs.declared.sharing.SharePlan.{SharePlan}
use Rattle.osc_share.specs.declared.sharing.SharePlan.TheVariants.{Given, Empty, NoFrames}

-- these are parts of a process that agree, in a machine of at most 4096 frames
pub record PartsAgree (tables : KeptTables) (regions : Regions) (free : List Bool) : Type 0 where
  pub few : length free ≤ 4096
  pub kind : HeapKind
  pub space : Space
  pub has_tables : space.tables ≡ tables
  pub agrees : SpaceAgrees kind space regions free

-- and for some regions
pub record PartsAgreeForSome (tables : KeptTables) (free : List Bool) : Type 0 where
  pub regions : Regions
  pub agree : PartsAgree tables regions free

abbrev pub sharing : KeptTables → Regions → List Bool → List Job → Sharing
sharing tables regions free jobs = record { tables = tables; regions = regions; free = free; jobs = jobs }

-- a share of so many pages answers its first reason and changes nothing then; where there is none,
-- it is done
abbrev pub IsSharePlan : ℕ → Sharing → SharePlan → Sharing → Type 0
IsSharePlan n old (Given address) new =
    (first_reason (share_reasons n old) ≡ None) × (address ≡ share_address old) × (new ≡ share_plan n old)
IsSharePlan n old Empty new = (first_reason (share_reasons n old) ≡ Some answer.Empty) × (new ≡ old)
IsSharePlan n old NoFrames new = (first_reason (share_reasons n old) ≡ Some answer.NoFrames) × (new ≡ old)
