-- The ends of threads and processes.
use Rattle.std.proofs.Common.{ℕ, ◌≡◌, Bool, Option, Some, None, List, refl, ap, sym, ◌∙◌}
use Rattle.osc_calls.specs.declared.Thread.{Thread}
use Rattle.osc_calls.specs.Kernel.{KernelState, Calling, is_last}
use Rattle.osc_calls.specs.ProcessPlans.{value_left, done_by, done_plan}
use Rattle.osc_kernel.specs.Plans.{threads_left}

pub left_is : (thread : Option ℕ) (value : ℕ) (k : KernelState) → value_left thread value k ≡ record k { threads = threads_left thread value k.threads }
left_is None value k = refl
left_is (Some number) value k = refl

pub done_made : (c : Calling) (k : KernelState) (value : ℕ) (last : Bool) (thread : Option ℕ) (threads : List Thread)
    → last ≡ is_last k.records c.pid → thread ≡ c.thread → threads ≡ threads_left thread value k.threads
    → done_by last c (record k { threads = threads }) ≡ done_plan c value k
done_made c k value last thread threads l t e =
    ap (λ b. done_by b c (record k { threads = threads })) l
    ∙ ap (λ (x : List Thread). done_by (is_last k.records c.pid) c (record k { threads = x })) (e ∙ ap (λ y. threads_left y value k.threads) t)
    ∙ ap (λ x. done_by (is_last k.records c.pid) c x) (sym (left_is c.thread value k))
