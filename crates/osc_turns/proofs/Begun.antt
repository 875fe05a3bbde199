-- What holds of the kernel once a call has begun, and once it is planned.
use Rattle.std.proofs.Common.{ℕ, ◌≡◌, true, List, [], Option, Some, None, arith, refl, sym, ◌∙◌}
use Rattle.osc_word.specs.declared.calls.Request.{Request}
use Rattle.osc_space.specs.Header.{Found}
use Rattle.osc_calls.specs.declared.Begun.{Begun}
use Rattle.osc_calls.specs.declared.Begun.TheVariants.{Again, JournalFull, Gone, Boxes, Header, Planned}
use Rattle.osc_calls.specs.Kernel.{KernelState, Process, Calling, UnderWay, Quiet, Waiting, Returning, process_at}
use Rattle.osc_calls.specs.Plan.{plan, plan_waiting}
use Rattle.osc_calls.specs.Begin.{begin, begin_call, begin_as, begun_in}
use Rattle.osc_calls.specs.JobDone.{job_done}
use Rattle.osc_machine.specs.Turns.{is_planned}
use Rattle.osc_turns.specs.Places.{BegunFits, Waits, Commits}

plan_commits_by : (found : Found) (k : KernelState) (u : UnderWay) (c : Calling) (p : Process) → u ≡ Waiting c → process_at k c.pid ≡ Some p → Commits (plan_waiting found u k).kernel
plan_commits_by found k u c p waits there = rw (waits, there) (record { done = _; commits = refl })

pub plan_commits : (found : Found) (k : KernelState) → Waits k → Commits (plan found k).kernel
unfolding plan
plan_commits found k w = plan_commits_by found k k.under_way w.calling w.process w.waits w.there

as_fits : (b : Begun) (c : Calling) (p : Process) (k : KernelState) → k.jobs ≡ [] → process_at k c.pid ≡ Some p → BegunFits (begin_as b c k).begun (begin_as b c k).kernel
as_fits Again c p k jobs there = (jobs, λ e. grind (arith, e))
as_fits JournalFull c p k jobs there = (jobs, λ e. grind (arith, e))
as_fits Gone c p k jobs there = (jobs, λ e. grind (arith, e))
as_fits Boxes c p k jobs there = record { calling = c; process = p; waits = refl; there = there }
as_fits (Header first second) c p k jobs there = record { calling = c; process = p; waits = refl; there = there }
as_fits Planned c p k jobs there = plan_commits _ _ (record { calling = c; process = p; waits = refl; there = there })

call_fits : (c : Calling) (p : Option Process) (k : KernelState) → k.jobs ≡ [] → process_at k c.pid ≡ p → BegunFits (begin_as (begun_in p c k) c k).begun (begin_as (begun_in p c k) c k).kernel
call_fits c None k jobs there = (jobs, λ e. grind (arith, e))
call_fits c (Some p) k jobs there = as_fits (begun_in (Some p) c k) c p k jobs there

begins_fit : (hart : ℕ) (c : Option Calling) (k : KernelState) → k.jobs ≡ [] → BegunFits (begin_call hart c k).begun (begin_call hart c k).kernel
begins_fit hart None k jobs = (jobs, λ e. grind (arith, e))
begins_fit hart (Some c) k jobs = call_fits c (process_at k c.pid) k jobs refl

pub begun_fits : (hart : ℕ) (regs : List ℕ) (pc : ℕ) (request : Request) (k : KernelState) → k.jobs ≡ []
    → BegunFits (begin hart regs pc request k).begun (begin hart regs pc request k).kernel
unfolding begin
begun_fits hart regs pc request k jobs = begins_fit hart _ k jobs

pub not_quiet : (k : KernelState) → Commits k → k.under_way ≡ Quiet → ⊥
not_quiet k c e = let f : Returning c.done ≡ Quiet = sym c.commits ∙ e in grind (arith, f)

pub planned_commits : (b : Begun) (k : KernelState) → is_planned b ≡ true → BegunFits b k → Commits k
planned_commits Planned k e fits = fits
planned_commits Again k e fits = absurd (let z : ⊥ = grind (arith, e) in z)
planned_commits JournalFull k e fits = absurd (let z : ⊥ = grind (arith, e) in z)
planned_commits Gone k e fits = absurd (let z : ⊥ = grind (arith, e) in z)
planned_commits Boxes k e fits = absurd (let z : ⊥ = grind (arith, e) in z)
planned_commits (Header first second) k e fits = absurd (let z : ⊥ = grind (arith, e) in z)

pub done_commits : (word : ℕ) (k : KernelState) → Commits k → Commits (job_done word k).kernel
unfolding job_done
done_commits word k c = record { done = c.done; commits = c.commits }
