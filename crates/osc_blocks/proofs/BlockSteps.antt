-- Each step of the kernel keeps the heap of each process one, and the blocks of its objects that wait held. While
-- nothing is to be given back of a process, that its parts fit says it; else it is the caller after its plan.
use Rattle.std.proofs.Common.{ℕ, ◌≡◌, ◌≤◌, ◌==◌, ◌||◌, ◌⊎◌, inl, inr, ⊎_elim, cond, Bool, true, false, Option, Some, None, List, [], slice_get, arith, refl, sym, ap, subst, ◌∙◌}
use Rattle.std.proofs.lemmas.Bool.Decides.{nat_tests}
use Rattle.osc_word.specs.declared.calls.Answer.{Answer}
use Rattle.osc_word.specs.declared.calls.Answer.TheVariants as answers
use Rattle.osc_word.specs.declared.calls.Call.{Call}
use Rattle.osc_word.specs.declared.calls.Call.TheVariants as calls
use Rattle.osc_word.specs.declared.calls.Request.{Request}
use Rattle.osc_word.specs.declared.settings.Config.{Config}
use Rattle.osc_word.specs.declared.settings.HeapKind.TheVariants.{Oscar}
use Rattle.osc_word.specs.Limits.{first_fault}
use Rattle.osc_image.specs.Image.{Image}
use Rattle.osc_paging.specs.Agree.{Agrees}
use Rattle.osc_paging.specs.JobWords.{words_after}
use Rattle.osc_paging.specs.KeptTables.{KeptTables}
use Rattle.osc_space.specs.Agree.{is_waiting}
use Rattle.osc_space.specs.Header.{Found}
use Rattle.osc_space.specs.Objects.{is_live}
use Rattle.osc_space.specs.Share.{Regions}
use Rattle.osc_space.specs.Space.{Space, Outcome, Keeps, unchanged}
use Rattle.osc_parts.specs.FreeLaws.{HasTerms}
use Rattle.osc_parts.specs.Settled.{PartsFit, Settled}
use Rattle.osc_calls.specs.declared.Begun.{Begun}
use Rattle.osc_calls.specs.declared.Begun.TheVariants as begun
use Rattle.osc_calls.specs.Kernel.{KernelState, Process, Calling, Quiet, Waiting, process_at, is_last}
use Rattle.osc_calls.specs.Requests.{calling_of, meant}
use Rattle.osc_calls.specs.Refusals.{draft_of, refusal_of}
use Rattle.osc_calls.specs.HeapPlans.{terms_of, malloc_by, free_by, free_of, realloc_by}
use Rattle.osc_calls.specs.Planned.{Planned, planned_unless, outcome_planned}
use Rattle.osc_calls.specs.WritePlan.{write_by, first_unreadable, write_count}
use Rattle.osc_calls.specs.ProcessPlans.{done_by, value_left, fork_done, spawn_done, share_done}
use Rattle.osc_calls.specs.Plan.{plan_meant, plan_of, committed, plan_by, plan_waiting, plan}
use Rattle.osc_calls.specs.Begin.{no_words, begun_in, begin_as, begin_call, begin}
use Rattle.osc_calls.specs.JobDone.{job_done}
use Rattle.osc_calls.specs.Finish.{finish}
use Rattle.osc_calls.specs.Open.{open_kernel, open_words}
use Rattle.osc_settled.specs.Memory.{memory_of, entries_in, Returns, MemoryFits}
use Rattle.osc_settled.specs.UnderWay.{closing_of}
use Rattle.osc_settled.specs.KernelFits.{KernelFits}
use Rattle.osc_settled.proofs.Lists.{get-put_same, some_same}
use Rattle.osc_settled.proofs.Memories.{returns_keeps}
use Rattle.osc_settled.proofs.Outcomes.{asks}
use Rattle.osc_settled.proofs.Plans.{plans_keep}
use Rattle.osc_settled.proofs.Beginning.{at_rest, begins_keep}
use Rattle.osc_settled.proofs.ImageStart.{images_start}
use Rattle.osc_safe.specs.KernelSteps.{Kept, Begins, Plans, EndsJob, Finishes}
use Rattle.osc_safe.proofs.CallSteps.{finished-home}
use Rattle.osc_caches.specs.Blocks.{BlocksStand}
use Rattle.osc_caches.proofs.Blocks.{plans_hold}
use Rattle.osc_blocks.specs.AllBlocks.{AllBlocksStand, StepsKeepBlocks, RunsKeepBlocks}
use Rattle.osc_blocks.proofs.ConfigSteps.{planned-same, finish-same, steps_keep_config}
use Rattle.osc_blocks.proofs.Runs.{runs-keep}

-- ---- a process of which nothing is to be given back
kept-if : (a b : Bool) → b ≡ true → (a || b) ≡ true
kept-if true b e = refl
kept-if false b e = e

parts-stand : (batch : ℕ) (regions : Regions) (s : Space) (free : List Bool) → PartsFit Oscar batch regions s free → BlocksStand s
parts-stand batch regions s free parts = record {
  heap = parts.heap;
  held = λ object o w e. (let a = parts.agrees in let h = a.heap in h.held object o (e, kept-if (is_live o) (is_waiting s object) w));
}

keeps-stand : (words : List ℕ) (k : KernelState) (pid : ℕ) (p : Process) → KernelFits words k → k.config.heap ≡ Oscar → process_at k pid ≡ Some p → p.status ≡ None → closing_of k.under_way pid ≡ Keeps
    → BlocksStand p.space
keeps-stand words k pid p fits oscar here lives keeps =
    let s = fits.memory.spaces pid p here lives in
    let r = subst (λ c. Returns k.config.heap k.config.batch k.regions c p.space k.free) keeps s.returns in
    parts-stand k.config.batch k.regions p.space k.free
    (subst (λ z. PartsFit z k.config.batch k.regions p.space k.free) oscar (returns_keeps k.config.heap k.config.batch k.regions p.space k.free r))

-- ---- a kernel of which no call is committed
record IsCalm (words : List ℕ) (k : KernelState) : Type 0 where
  config : first_fault k.config ≡ None
  heap : k.config.heap ≡ Oscar
  memory : MemoryFits words (memory_of k) (λ q. Keeps)
  jobs : k.jobs ≡ []

settled : (words : List ℕ) (k : KernelState) (pid : ℕ) (p : Process) → IsCalm words k → process_at k pid ≡ Some p → p.status ≡ None
    → Settled Oscar k.config.batch (λ frame index. 0) words k.regions (draft_of k p)
settled words k pid p calm here lives =
    let was = calm.memory.spaces pid p here lives in record {
      parts = subst (λ z. PartsFit z k.config.batch k.regions p.space k.free) calm.heap (returns_keeps k.config.heap k.config.batch k.regions p.space k.free was.returns);
      tables = subst (λ js. Agrees p.space.tables k.free (words_after (λ frame index. 0) js words)) (sym calm.jobs)
          (subst (λ js. Agrees p.space.tables k.free (words_after (entries_in k.processes) js words)) calm.jobs was.tables);
    }

few-harts : (config : Config) → first_fault config ≡ None → config.harts ≤ 8
few-harts config e = grind (arith, nat_tests, e)

has-terms : (words : List ℕ) (k : KernelState) → IsCalm words k → HasTerms k.config.batch (terms_of k)
has-terms words k calm = record { is = refl; harts = few-harts k.config calm.config }

-- ---- plans
-- a plan gives nothing back, or leaves its caller such a heap
abbrev Leaves : Calling → Planned → Type 0
Leaves c made = (made.closing ≡ Keeps) ⊎ ((q : Process) → process_at made.kernel c.pid ≡ Some q → q.status ≡ None → BlocksStand q.space)

outcome-leaves : (k : KernelState) (c : Calling) (p : Process) (o : Outcome) → process_at k c.pid ≡ Some p → (p.status ≡ None → BlocksStand o.draft.space) → Leaves c (outcome_planned c.pid p k o)
outcome-leaves k c p o here stands = inr left
  where
    new : Process
    new = record p { space = o.draft.space }

    left : (q : Process) → process_at (outcome_planned c.pid p k o).kernel c.pid ≡ Some q → q.status ≡ None → BlocksStand q.space
    left q there lives =
        let it : new ≡ q = some_same new q (sym (get-put_same k.processes c.pid p new here) ∙ there) in
        subst (λ (z : Process). BlocksStand z.space) it (stands (ap (λ (z : Process). z.status) it ∙ lives))

malloc-stands : (words : List ℕ) (k : KernelState) (c : Calling) (p : Process) (size : ℕ) → IsCalm words k → process_at k c.pid ≡ Some p → p.status ≡ None
    → BlocksStand (malloc_by k.config.heap size (draft_of k p)).draft.space
malloc-stands words k c p size calm here lives =
    subst (λ kind. BlocksStand (malloc_by kind size (draft_of k p)).draft.space) (sym calm.heap)
    (plans_hold.malloc k.config.batch size (λ frame index. 0) words k.regions (draft_of k p) (settled words k c.pid p calm here lives))

free-stands : (words : List ℕ) (k : KernelState) (c : Calling) (p : Process) (pointer : ℕ) (found : Found) → IsCalm words k → process_at k c.pid ≡ Some p → p.status ≡ None
    → BlocksStand (free_of k.config.heap (terms_of k) pointer found (draft_of k p)).draft.space
free-stands words k c p pointer found calm here lives =
    subst (λ kind. BlocksStand (free_of kind (terms_of k) pointer found (draft_of k p)).draft.space) (sym calm.heap) (go (pointer == 0))
  where
    rest : Settled Oscar k.config.batch (λ frame index. 0) words k.regions (draft_of k p)
    rest = settled words k c.pid p calm here lives

    go : (b : Bool) → BlocksStand (cond b (unchanged answers.Nothing (draft_of k p)) (free_by Oscar (terms_of k) pointer found (draft_of k p))).draft.space
    go true = let r = rest in parts-stand k.config.batch k.regions p.space k.free r.parts
    go false = plans_hold.free k.config.batch pointer (λ frame index. 0) words k.regions (terms_of k) found (draft_of k p) rest (has-terms words k calm)

realloc-stands : (words : List ℕ) (k : KernelState) (c : Calling) (p : Process) (pointer size : ℕ) (found : Found) → IsCalm words k → process_at k c.pid ≡ Some p → p.status ≡ None
    → BlocksStand (realloc_by k.config.heap (terms_of k) pointer size found (draft_of k p)).draft.space
realloc-stands words k c p pointer size found calm here lives =
    subst (λ kind. BlocksStand (realloc_by kind (terms_of k) pointer size found (draft_of k p)).draft.space) (sym calm.heap)
    (plans_hold.realloc k.config.batch pointer size (λ frame index. 0) words k.regions (terms_of k) found (draft_of k p) (settled words k c.pid p calm here lives))

unless-keeps : (r : Option Answer) (k : KernelState) (made : Planned) → made.closing ≡ Keeps → (planned_unless r k made).closing ≡ Keeps
unless-keeps None k made e = e
unless-keeps (Some answer) k made e = refl

write-keeps : (bad : Option ℕ) (t : KeptTables) (buf count : ℕ) (k : KernelState) → (write_by bad t buf count k).closing ≡ Keeps
write-keeps None t buf count k = refl
write-keeps (Some address) t buf count k = refl

done-keeps : (last : Bool) (c : Calling) (k : KernelState) → (done_by last c k).closing ≡ Keeps
done-keeps true c k = refl
done-keeps false c k = refl

leaves : (words : List ℕ) (k : KernelState) (c : Calling) (p : Process) (found : Found) (call : Call) → IsCalm words k → process_at k c.pid ≡ Some p → Leaves c (plan_meant found c p k call)
leaves words k c p found (calls.Malloc size) calm here = outcome-leaves k c p (malloc_by k.config.heap size (draft_of k p)) here (malloc-stands words k c p size calm here)
leaves words k c p found (calls.Free pointer) calm here = outcome-leaves k c p (free_of k.config.heap (terms_of k) pointer found (draft_of k p)) here (free-stands words k c p pointer found calm here)
leaves words k c p found (calls.Realloc pointer size) calm here =
    outcome-leaves k c p (realloc_by k.config.heap (terms_of k) pointer size found (draft_of k p)) here (realloc-stands words k c p pointer size found calm here)
leaves words k c p found (calls.Write buf len) calm here = inl (write-keeps (first_unreadable p.space.tables buf (write_count k.output len)) p.space.tables buf (write_count k.output len) k)
leaves words k c p found calls.Fork calm here = inl (unless-keeps (refusal_of calls.Fork p k) k (fork_done c p k) refl)
leaves words k c p found (calls.Spawn pc sp arg) calm here = inl (unless-keeps (refusal_of (calls.Spawn pc sp arg) p k) k (spawn_done c p pc sp arg k) refl)
leaves words k c p found (calls.Share count) calm here = inl (unless-keeps (refusal_of (calls.Share count) p k) k (share_done c p count k) refl)
leaves words k c p found (calls.Done value) calm here = inl (done-keeps (is_last k.records c.pid) c (value_left c.thread value k))
leaves words k c p found (calls.Exit status) calm here = inl refl
leaves words k c p found (calls.Join number) calm here = inl refl
leaves words k c p found (calls.Wait number) calm here = inl refl
leaves words k c p found (calls.Unknown number) calm here = inl refl
leaves words k c p found (calls.End fault) calm here = inl refl

made-stand : (words : List ℕ) (c : Calling) (made : Planned) → KernelFits words (committed c made) → made.kernel.config.heap ≡ Oscar → Leaves c made → AllBlocksStand (committed c made)
made-stand words c made fits oscar l pid q here lives = go (c.pid == pid) refl
  where
    keeps : closing_of (committed c made).under_way pid ≡ Keeps → BlocksStand q.space
    keeps = keeps-stand words (committed c made) pid q fits oscar here lives

    go : (b : Bool) → (c.pid == pid) ≡ b → BlocksStand q.space
    go false d = keeps (ap (λ b. cond b made.closing Keeps) d)
    go true d =
        let same : pid ≡ c.pid = grind (arith, nat_tests, d) in
        ⊎_elim
        (λ (e : made.closing ≡ Keeps). keeps (ap (λ b. cond b made.closing Keeps) d ∙ e))
        (λ (f : (x : Process) → process_at made.kernel c.pid ≡ Some x → x.status ≡ None → BlocksStand x.space). f q (subst (λ z. process_at made.kernel z ≡ Some q) same here) lives)
        l

planned-by : (words : List ℕ) (k : KernelState) (c : Calling) (found : Found) (o : Option Process) → process_at k c.pid ≡ o → IsCalm words k → KernelFits words (plan_by found c o k).kernel → (plan_by found c o k).kernel.config.heap ≡ Oscar
    → AllBlocksStand k → AllBlocksStand (plan_by found c o k).kernel
planned-by words k c found None here calm fits oscar all = all
planned-by words k c found (Some p) here calm fits oscar all = made-stand words c (plan_of found c p k) fits oscar (leaves words k c p found (meant c.call) calm here)

planned : (words : List ℕ) (k : KernelState) (c : Calling) (found : Found) → k.under_way ≡ Waiting c → IsCalm words k → KernelFits words (plan found k).kernel → AllBlocksStand k → AllBlocksStand (plan found k).kernel
unfolding plan
planned words k c found u calm fits all =
    let oscar : (plan found k).kernel.config.heap ≡ Oscar = ap (λ (z : Config). z.heap) (planned-same found k) ∙ calm.heap in
    subst (λ w. AllBlocksStand (plan_waiting found w k).kernel) (sym u)
    (planned-by words k c found (process_at k c.pid) refl calm (subst (λ w. KernelFits words (plan_waiting found w k).kernel) u fits)
    (subst (λ w. (plan_waiting found w k).kernel.config.heap ≡ Oscar) u oscar) all)

-- ---- begin
begun-stand : (words : List ℕ) (b : Begun) (c : Calling) (k : KernelState) → IsCalm words k → KernelFits words (begin_as b c k).kernel → AllBlocksStand k → AllBlocksStand (begin_as b c k).kernel
begun-stand words begun.Planned c k calm fits all =
    planned words (record k { under_way = Waiting c }) c no_words refl (record { config = calm.config; heap = calm.heap; memory = calm.memory; jobs = calm.jobs }) fits all
begun-stand words begun.Again c k calm fits all = all
begun-stand words begun.JournalFull c k calm fits all = all
begun-stand words begun.Gone c k calm fits all = all
begun-stand words begun.Boxes c k calm fits all = all
begun-stand words (begun.Header first second) c k calm fits all = all

called-stand : (words : List ℕ) (hart : ℕ) (o : Option Calling) (k : KernelState) → IsCalm words k → KernelFits words (begin_call hart o k).kernel → AllBlocksStand k → AllBlocksStand (begin_call hart o k).kernel
called-stand words hart None k calm fits all = all
called-stand words hart (Some c) k calm fits all = begun-stand words (begun_in (process_at k c.pid) c k) c k calm fits all

begin-stand : (words : List ℕ) (hart pc : ℕ) (regs : List ℕ) (asked : Request) (k : KernelState) → IsCalm words k → KernelFits words (begin hart regs pc asked k).kernel → AllBlocksStand k
    → AllBlocksStand (begin hart regs pc asked k).kernel
unfolding begin
begin-stand words hart pc regs asked k calm fits all = called-stand words hart (calling_of hart regs pc asked (slice_get k.records hart)) k calm fits all

-- ---- jobs, and the end of a call
done-stand : (word : ℕ) (k : KernelState) → AllBlocksStand k → AllBlocksStand (job_done word k).kernel
unfolding job_done
done-stand word k all = all

quiet-stand : (words : List ℕ) (k : KernelState) → KernelFits words k → k.under_way ≡ Quiet → k.config.heap ≡ Oscar → AllBlocksStand k
quiet-stand words k fits u oscar pid p here lives = keeps-stand words k pid p fits oscar here lives (ap (λ w. closing_of w pid) u)

-- ---- each step
waits-calm : (words : List ℕ) (k : KernelState) (c : Calling) → KernelFits words k → k.config.heap ≡ Oscar → k.under_way ≡ Waiting c → IsCalm words k
waits-calm words k c fits oscar u =
    let a = asks words k c fits u in
    let sizes = a.sizes in
    let waits = a.waits in record { config = sizes.config; heap = oscar; memory = a.memory; jobs = waits.jobs }

rests-calm : (words : List ℕ) (k : KernelState) → KernelFits words k → k.config.heap ≡ Oscar → k.under_way ≡ Quiet → IsCalm words k
rests-calm words k fits oscar u =
    let r = at_rest words k fits u in
    let sizes = r.sizes in record { config = sizes.config; heap = oscar; memory = r.memory; jobs = r.jobs }

pub steps_keep_blocks : StepsKeepBlocks
steps_keep_blocks words old new shows fits oscar (Kept e q) all = subst AllBlocksStand (sym e) all
steps_keep_blocks words old new shows fits oscar (Begins hart regs pc asked u e f) all =
    subst AllBlocksStand (sym e) (begin-stand words hart pc regs asked old (rests-calm words old fits oscar u) (begins_keep words hart pc regs asked old fits u) all)
steps_keep_blocks words old new shows fits oscar (Plans found c u e f) all =
    subst AllBlocksStand (sym e) (planned words old c found u (waits-calm words old c fits oscar u) (plans_keep words found old c fits u) all)
steps_keep_blocks words old new shows fits oscar (EndsJob word job n e f) all = subst AllBlocksStand (sym e) (done-stand word old all)
steps_keep_blocks words old new shows fits oscar (Finishes n e f) all =
    let home = finished-home old (record { words = words; fits = fits }) n in
    let now = home.fits in
    subst AllBlocksStand (sym e) (quiet-stand now.words (finish old).kernel now.fits home.quiet (ap (λ (z : Config). z.heap) (finish-same old) ∙ oscar))

-- ---- runs
opens-quiet : (image : Image) (config : Config) → (open_kernel image config).under_way ≡ Quiet
unfolding open_kernel
opens-quiet image config = refl

pub runs_keep_blocks : RunsKeepBlocks
runs_keep_blocks file image config picks k fit is_image room has oscar =
    runs-keep (λ z. z.config.heap ≡ Oscar → AllBlocksStand z)
    (λ words old new shows fits step all here.
    (let was : old.config.heap ≡ Oscar = ap (λ (z : Config). z.heap) (sym (steps_keep_config old new shows step)) ∙ here in
    steps_keep_blocks words old new shows fits was step (all was)))
    file image config picks k fit is_image room
    (quiet-stand (open_words image (open_kernel image config)) (open_kernel image config) (images_start file image config fit is_image room) (opens-quiet image config)) has oscar
