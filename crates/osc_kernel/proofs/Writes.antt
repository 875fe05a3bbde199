-- The plan of a write.
use Rattle.std.proofs.Common.{ℕ, ◌-◌, ◌^◌, ◌≡◌, Option, Some, None, length, drop, arith, refl, ap, sym, ◌∙◌, subst}
use Rattle.osc_word.specs.JobList.{JobList}
use Rattle.osc_word.specs.declared.calls.Answer.{Answer}
use Rattle.osc_paging.specs.KeptTables.{KeptTables, mapping_of}
use Rattle.osc_calls.specs.Kernel.{KernelState, Process, Calling, Nothing, process_at}
use Rattle.osc_calls.specs.Planned.{answered}
use Rattle.osc_calls.specs.WritePlan.{first_unreadable, write_by, write_count, write_plan}
use Rattle.osc_write.specs.Writing.{writes, writing, writing_by}
use Rattle.osc_under_way.specs.declared.effects.Effect.TheVariants as effects
use Rattle.osc_settled.proofs.Lists.{some_same}
use Rattle.osc_ready.proofs.LastPage.{last_unmapped}
use Rattle.osc_ready.proofs.Limits.{in_range}
use Rattle.osc_kernel.specs.declared.state.State.{State}
use Rattle.osc_kernel.specs.Inside.{kernel_of}
use Rattle.osc_kernel.specs.Plans.{CanPlan, planned_by}

by_reason : (bad : Option ℕ) (t : KeptTables) (buf count : ℕ) (k : KernelState) → write_by bad t buf count k ≡ writes (writing_by bad t buf count k.jobs) k
by_reason None t buf count k = refl
by_reason (Some address) t buf count k = refl

plan_writes : (p : Process) (buf len : ℕ) (k : KernelState) → write_plan p buf len k ≡ writes (writing p.space.tables (length k.output) buf len k.jobs) k
plan_writes p buf len k = by_reason (first_unreadable p.space.tables buf (write_count k.output len)) p.space.tables buf (write_count k.output len) k

pub write_made : (s : State) (c : Calling) (p : Process) (buf len : ℕ) (answer : Answer) (jobs : JobList) → CanPlan s c
    → answer ≡ (writing p.space.tables (length s.output.items) buf len s.jobs.pushed).answer → jobs.pushed ≡ (writing p.space.tables (length s.output.items) buf len s.jobs.pushed).jobs
    → planned_by (record s { jobs = jobs }) (record { answer = answer; effect = effects.Nothing }) ≡ write_plan p buf len (kernel_of s)
write_made s c p buf len answer jobs can a j =
    let k = kernel_of s in
    let none : drop s.done s.jobs.pushed ≡ s.jobs.pushed = ap (λ n. drop n s.jobs.pushed) can.done in
    (let z : planned_by (record s { jobs = jobs }) (record { answer = answer; effect = effects.Nothing }) ≡ record { kernel = record k { jobs = drop s.done jobs.pushed }; answer = answer; effect = Nothing; closing = s.closing } = refl in z)
    ∙ ap (λ n. record { kernel = record k { jobs = drop n jobs.pushed }; answer = answer; effect = Nothing; closing = s.closing }) can.done
    ∙ ap (λ x. record { kernel = record k { jobs = jobs.pushed }; answer = answer; effect = Nothing; closing = x }) can.keeps
    ∙ ap (λ x. answered x (record k { jobs = jobs.pushed })) a
    ∙ ap (λ x. answered (writing p.space.tables (length s.output.items) buf len s.jobs.pushed).answer (record k { jobs = x })) j
    ∙ ap (λ js. writes (writing p.space.tables (length s.output.items) buf len js) k) (sym none)
    ∙ sym (plan_writes p buf len k)

pub last_page : (s : State) (c : Calling) (p : Process) → CanPlan s c → process_at (kernel_of s) c.pid ≡ Some p → mapping_of p.space.tables (2 ^ 52 - 1) ≡ None
last_page s c p can at =
    let has = can.caller.has in
    let sized = can.rooms.sized c.pid has.process has.at in
    subst (λ (x : Process). mapping_of x.space.tables (2 ^ 52 - 1) ≡ None) (some_same has.process p (sym has.at ∙ at))
    (last_unmapped has.process.space.tables has.fits.parts.levels (let a = sized.levels in let b = (in_range s.config can.rooms.valid).few_levels in omega (arith, a, b)) has.fits.parts.agrees.ranges)
