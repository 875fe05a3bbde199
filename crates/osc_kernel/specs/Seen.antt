-- The kernel as its holder sees it. This project's own.
use Rattle.std.specs.Prelude.{ℕ, ◌-◌, List, Option, Some, None}
use Rattle.osc_word.specs.declared.steps.Label.{Label}
use Rattle.osc_paging.specs.KeptTables.{root_of}
use Rattle.osc_mark.specs.Grants.{owner}
use Rattle.osc_space.specs.Objects.{mark}
use Rattle.osc_calls.specs.Kernel.{KernelState, Process}

-- the state of the kernel, what the last step showed but for what a return let go, and the objects that the
-- last return let go
pub record SeenKernel : Type 0 where
  pub kernel : KernelState
  pub shown : Option Label
  pub freed : List ℕ

-- ---- looks at a process that may not be there, or may have ended
abbrev pub unless_ended : {X : Type 0} → Option ℕ → Option X → Option X
unless_ended None found = found
unless_ended (Some status) found = None

abbrev pub root_in : Option Process → Option ℕ
root_in None = None
root_in (Some p) = unless_ended p.status (root_of p.space.tables)

abbrev pub owner_in : ℕ → Option Process → Option ℕ
owner_in page None = None
owner_in page (Some p) = unless_ended p.status (owner p.space.objects page)

-- ---- the shadow pages that a process granted itself
abbrev pub granted_by : Process → ℕ
granted_by p = mark p.space.objects - p.inherited
