-- A kernel that a hart has taken, before its call commits. This project's own.
use Rattle.std.specs.Prelude.{ℕ, ◌≡◌, ◌<◌, List, length, slice_get, Some}
use Rattle.osc_calls.specs.declared.HartRecord.TheVariants.{Runs}
use Rattle.osc_calls.specs.Kernel.{KernelState, Calling, Quiet, Retrying, Leaving, Waiting}
use Rattle.osc_settled.specs.KernelFits.{KernelFits}

-- it still fits, whether its hart is to ask again, leaves, or waits with a call of its thread for which the
-- journal has room
pub record TakenFit : Type 0 where
  pub retrying : (words : List ℕ) (k : KernelState) → KernelFits words k → k.under_way ≡ Quiet → KernelFits words (record k { under_way = Retrying })
  pub leaving : (words : List ℕ) (k : KernelState) (hart : ℕ) → KernelFits words k → k.under_way ≡ Quiet → KernelFits words (record k { under_way = Leaving hart })
  pub waiting : (words : List ℕ) (k : KernelState) (c : Calling) → KernelFits words k → k.under_way ≡ Quiet → length k.journal < k.config.journal
      → slice_get k.records c.hart ≡ Some (Runs c.pid c.thread) → KernelFits words (record k { under_way = Waiting c })
