-- The child of a fork, and the pages of a share.
use Rattle.std.proofs.Common.{ℕ, suc, ◌+◌, ◌-◌, ◌≡◌, Bool, false, Option, Some, None, List, ◌++◌, map, take, arith, refl, ap, sym, ◌∙◌, subst}
use Rattle.osc_word.specs.declared.job_list.Job.{Job}
use Rattle.osc_slot.specs.Heap.{Heap}
use Rattle.osc_paging.specs.KeptTables.{KeptTables}
use Rattle.osc_mark.specs.Grants.{Grants}
use Rattle.osc_space.specs.Objects.{mark, next_page}
use Rattle.osc_space.specs.LeafFlags.{read_write_at}
use Rattle.osc_space.specs.Space.{Space, first_reason}
use Rattle.osc_space.specs.Fork.{Forked, fork_reasons, fork_plan, free_numbers, set_free}
use Rattle.osc_space.specs.Share.{Sharing, share_plan, next_shared_page}
use Rattle.osc_paging.specs.TableChanges.{zero_job}
use Rattle.osc_shadow.specs.Parts.{space_of}
use Rattle.osc_fork.specs.declared.plan.ForkPlan.{ForkPlan}
use Rattle.osc_fork.specs.declared.plan.ForkPlan.TheVariants.{Copied, NoFrames}
use Rattle.osc_fork.specs.Plan.{Forking, forked_to, after_jobs, IsForkPlan}
use Rattle.osc_parts.proofs.Shapes.{SameShape, map_pages-adds}
use Rattle.osc_calls.specs.Kernel.{Process}
use Rattle.osc_calls.specs.ProcessPlans.{child_process}
use Rattle.osc_process.specs.Parts.{SameSizes}

-- ---- fork
-- where no reason to refuse it holds it is made
pub fork_made : (s : Space) (r : ForkPlan) (old : Forking) (names : List ℕ) (new : Forking) → first_reason (fork_reasons s old.free) ≡ None → IsForkPlan s r old names new
    → forked_to s.waiting names new ≡ after_jobs old.jobs (fork_plan s old.free)
fork_made s Copied old names new n p = p.1
fork_made s NoFrames old names new n p = absurd (let e = sym n ∙ p.0 in let z : ⊥ = cc in z)

child_objects : (s : Space) (free : List Bool) → (fork_plan s free).child.objects ≡ s.objects
unfolding fork_plan
child_objects s free = refl

pub child_sizes : (s : Space) (free : List Bool) → SameSizes s (fork_plan s free).child
unfolding fork_plan
child_sizes s free = record { top = refl; count = refl; room = refl; shadows = refl; frames = refl }

pub inherits : (s : Space) (free : List Bool) (page inherited : ℕ) → page ≡ next_page s.objects → inherited ≡ page - 16777216 → inherited ≡ mark (fork_plan s free).child.objects
inherits s free page inherited p i =
    let m : mark (fork_plan s free).child.objects ≡ mark s.objects = ap mark (child_objects s free) in
    omega (arith, p, i, m)

pub child_is : (space child : Space) (inherited pid : ℕ) (status : Option ℕ) → space ≡ child → inherited ≡ mark child.objects → status ≡ None
    → record { space = space; inherited = inherited; parent = Some pid; status = status } ≡ child_process pid child
child_is space child inherited pid status e i n =
    let P : Space → ℕ → Option ℕ → Process = λ s m x. record { space = s; inherited = m; parent = Some pid; status = x } in
    ap (λ s. P s inherited status) e ∙ (ap (λ m. P child m status) i ∙ ap (λ x. P child (mark child.objects) x) n)

-- ---- share
pub share_shape : (n : ℕ) (s : Sharing) → SameShape s.tables (share_plan n s).tables
unfolding share_plan
share_shape n s =
    let frames = take n (free_numbers s.free) in
    (map_pages-adds (map read_write_at frames) (next_shared_page s.tables) (record { tables = s.tables; free = set_free false frames s.free; jobs = s.jobs ++ map zero_job frames })).shape
