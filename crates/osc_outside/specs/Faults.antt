-- When an outside object fails: counts of faults. This project's own.
use Rattle.std.specs.Prelude.{ℕ, ◌+◌, ◌-◌, ◌^◌, ◌≡◌, ◌≤◌, min, OnErr, OnOk}
use Rattle.std.specs.declared.result.Result.{Result}

-- a count after one more: it stands still at the greatest number of 64 bits
abbrev pub risen : ℕ → ℕ
risen count = min (count + 1) (2 ^ 64 - 1)

-- at least one more was counted; a count that stands still has risen by each
abbrev pub Rose : ℕ → ℕ → Type 0
Rose before now = risen before ≤ now

-- a call's count of faults never falls: it rose where the call failed, and else it stands
pub record HasCause {T E : Type 0} (before now : ℕ) (result : Result T E) : Type 0 where
  pub later : before ≤ now
  pub failed : OnErr result (Rose before now)
  pub done : OnOk result (now ≡ before)
