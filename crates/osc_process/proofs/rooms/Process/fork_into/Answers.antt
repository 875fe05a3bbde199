-- The child is the plan's, and inherits what its parent has granted.
use Rattle.std.proofs.Common.{◌≡◌, ◌-◌, ◌∙◌, ◌++◌, Bool, List, None, refl, ap, subst, sym}
use Rattle.osc_space.specs.Space.{Space, first_reason}
use Rattle.osc_space.specs.Fork.{Forked, fork_reasons, fork_plan}
use Rattle.osc_shadow.specs.Parts.{space_of}
use Rattle.osc_fork.specs.Plan.{forking, forked_to, after_jobs}
use Rattle.osc_calls.specs.Kernel.{Process}
use Rattle.osc_calls.specs.ProcessPlans.{child_process}
use Rattle.osc_process.specs.Parts.{SameSizes}
use Rattle.osc_process.proofs.Forks.{fork_made, child_sizes, inherits, child_is}
use Rattle.osc_process.proofs.rooms.Process.fork_into.Goals as goal

pub returns-clause-child : goal.returns-clause-child
returns-clause-child c =
    let i = c.self.inside in
    let n = c.plan_fork-copied.new in
    let s = space_of i.space.tables i.space.marks i.space.heap i.waiting in
    let none : first_reason (fork_reasons s c.args.frames.now) ≡ None = ap (λ (p : Process). first_reason (fork_reasons p.space c.args.frames.now)) c.self.view_is ∙ c.requires.granted in
    let made = fork_made s c.plan_fork-copied.result (forking c.child.inside.space.tables c.child.inside.space.marks c.child.inside.space.heap c.args.frames.now c.args.jobs.now.pushed) n.names
    (forking n.child_tables n.child_marks n.child_heap n.frames n.jobs.pushed) none (c.plan_fork-copied.ensures.plan i.waiting) in
    let space : space_of n.child_tables n.child_marks n.child_heap c.copied-child-inside.result ≡ (fork_plan s c.args.frames.now).child =
    ap (λ w. space_of n.child_tables n.child_marks n.child_heap w) c.copied-child-inside.ensures ∙ ap (λ (f : Forked). f.child) made in
    let status = ap (λ (p : Process). p.status) (c.child.view_is ∙ c.requires.unused) in
    child_is (space_of n.child_tables n.child_marks n.child_heap c.copied-child-inside.result) (fork_plan s c.args.frames.now).child (c.next_page.result - 16777216) c.args.pid c.child.inside.status space
    (inherits s c.args.frames.now c.next_page.result (c.next_page.result - 16777216) c.next_page.ensures.page refl) status
    ∙ ap (λ (p : Process). child_process c.args.pid (fork_plan p.space c.args.frames.now).child) c.self.view_is

pub returns-clause-free : goal.returns-clause-free
returns-clause-free c =
    let i = c.self.inside in
    let n = c.plan_fork-copied.new in
    let s = space_of i.space.tables i.space.marks i.space.heap i.waiting in
    let none : first_reason (fork_reasons s c.args.frames.now) ≡ None = ap (λ (p : Process). first_reason (fork_reasons p.space c.args.frames.now)) c.self.view_is ∙ c.requires.granted in
    let made = fork_made s c.plan_fork-copied.result (forking c.child.inside.space.tables c.child.inside.space.marks c.child.inside.space.heap c.args.frames.now c.args.jobs.now.pushed) n.names
    (forking n.child_tables n.child_marks n.child_heap n.frames n.jobs.pushed) none (c.plan_fork-copied.ensures.plan i.waiting) in
    ap (λ (f : Forked). f.free) made ∙ ap (λ (p : Process). (fork_plan p.space c.args.frames.now).free) c.self.view_is

pub returns-clause-jobs : goal.returns-clause-jobs
returns-clause-jobs c =
    let i = c.self.inside in
    let n = c.plan_fork-copied.new in
    let s = space_of i.space.tables i.space.marks i.space.heap i.waiting in
    let none : first_reason (fork_reasons s c.args.frames.now) ≡ None = ap (λ (p : Process). first_reason (fork_reasons p.space c.args.frames.now)) c.self.view_is ∙ c.requires.granted in
    let made = fork_made s c.plan_fork-copied.result (forking c.child.inside.space.tables c.child.inside.space.marks c.child.inside.space.heap c.args.frames.now c.args.jobs.now.pushed) n.names
    (forking n.child_tables n.child_marks n.child_heap n.frames n.jobs.pushed) none (c.plan_fork-copied.ensures.plan i.waiting) in
    ap (λ (f : Forked). f.jobs) made ∙ ap (λ (p : Process). c.args.jobs.now.pushed ++ (fork_plan p.space c.args.frames.now).jobs) c.self.view_is

pub returns-clause-sizes : goal.returns-clause-sizes
returns-clause-sizes c =
    let child = returns-clause-child c in
    subst (λ (x : Space). SameSizes c.args.self.now.space x) (sym (ap (λ (p : Process). p.space) child)) (child_sizes c.args.self.now.space c.args.frames.now)
