-- Each plan leaves what each hart relies on, by cases on the call.
use Rattle.std.proofs.Common.{ℕ, ◌+◌, ◌-◌, ◌*◌, ◌/◌, ◌%◌, ◌≡◌, ◌≢◌, ◌==◌, inl, nat_lt, max, min, cond, Bool, true, false, Option, Some, None, unwrap_or, List, [], ◌∷◌, ◌++◌, length, slice_get, arith, refl, sym, ap, subst, ◌∙◌}
use Rattle.std.specs.List.{range_with_len, flat_map}
use Rattle.std.proofs.lemmas.List.Concat.{flat_map-cons}
use Rattle.std.proofs.lemmas.Option.{slice_get_within}
use Rattle.osc_word.specs.declared.calls.Answer.{Answer}
use Rattle.osc_word.specs.declared.calls.Answer.TheVariants as answers
use Rattle.osc_word.specs.declared.calls.Call.{Call}
use Rattle.osc_word.specs.declared.calls.Call.TheVariants as calls
use Rattle.osc_word.specs.declared.job_list.Job.{Job}
use Rattle.osc_word.specs.declared.job_list.Job.TheVariants.{ToOut}
use Rattle.osc_word.specs.declared.job_list.WordAt.{WordAt}
use Rattle.osc_word.specs.declared.settings.HeapKind.TheVariants.{Oscar}
use Rattle.osc_paging.specs.KeptTables.{KeptTables}
use Rattle.osc_space.specs.Header.{Found}
use Rattle.osc_space.specs.Space.{Draft, Outcome, Closing, Keeps, GivesBack, unchanged}
use Rattle.osc_space.specs.Fork.{fork_plan}
use Rattle.osc_space.specs.Share.{share_plan, share_address}
use Rattle.osc_parts.specs.Settled.{Settled}
use Rattle.osc_calls.specs.Kernel.{KernelState, Process, Calling, Committed, Waiting, process_at, is_last}
use Rattle.osc_calls.specs.Requests.{meant}
use Rattle.osc_calls.specs.Refusals.{draft_of, sharing_of, refusal_of}
use Rattle.osc_calls.specs.HeapPlans.{terms_of, malloc_by, free_by, free_of, realloc_by}
use Rattle.osc_calls.specs.Planned.{Planned, closing_effect, answered, planned_unless, outcome_planned}
use Rattle.osc_calls.specs.WritePlan.{write_by, write_count, first_unreadable, load_frame, out_job, word_job, out_jobs}
use Rattle.osc_calls.specs.ProcessPlans.{child_process, done_by, value_left, fork_done, spawn_done, share_done}
use Rattle.osc_calls.specs.Plan.{plan_meant, plan_of, committed, plan_by, plan_waiting, plan}
use Rattle.osc_calls.specs.JobDone.{entries}
use Rattle.osc_settled.specs.Records.{is_living}
use Rattle.osc_settled.specs.UnderWay.{made_by}
use Rattle.osc_settled.specs.KernelFits.{KernelFits}
use Rattle.osc_settled.proofs.Commits.{lives_none}
use Rattle.osc_settled.proofs.Outcomes.{Asks, asks, caller_lives}
use Rattle.osc_settled.proofs.Answering.{settled, has_terms}
use Rattle.osc_settled.proofs.Spawning.{get-more, get-last}
use Rattle.osc_settled.proofs.Plans.{plans_keep}
use Rattle.osc_showing.specs.Showing.{is_closed}
use Rattle.osc_showing.specs.PlanTurns.{PlanTurns}
use Rattle.osc_showing.proofs.Folds.{closed-append}
use Rattle.osc_showing.proofs.Plans.{unchanged-turns, malloc-turns, free-turns}
use Rattle.osc_showing.proofs.ReallocPlans.{realloc-turns}
use Rattle.osc_caches.specs.Going.{PagesGo}
use Rattle.osc_caches.proofs.Going.{plans_go}
use Rattle.osc_relying.proofs.Heights.{malloc_by-same, free_of-same, realloc_by-same}
use Rattle.osc_lasting.specs.Lasting.{Lasts, each_hart, PlansLast}
use Rattle.osc_lasting.proofs.Carried.{same-carried, outcome-carried}
use Rattle.osc_lasting.proofs.Leaving.{Leaves, same-leaves, put-leaves, committed-last, other-open}
use Rattle.osc_lasting.proofs.ShareCarries.{share-carried}

-- ---- the caller's memory
settled-oscar : (words : List ℕ) (k : KernelState) (c : Calling) (p : Process) → k.config.heap ≡ Oscar → Asks words k c → process_at k c.pid ≡ Some p → Settled Oscar k.config.batch (entries k) words k.regions (draft_of k p)
settled-oscar words k c p oscar a e = subst (λ z. Settled z k.config.batch (entries k) words k.regions (draft_of k p)) oscar (settled words k c p (entries k) a e)

made_caller : (closing : Closing) (pid : ℕ) → made_by (closing_effect closing) pid ≡ pid
made_caller Keeps pid = refl
made_caller (GivesBack blocks) pid = refl

unchanged-go : (d : Draft) → PagesGo d (unchanged answers.Nothing d)
unchanged-go d = record {
  pages = λ q m e. inl e;
  goes_on = λ q f g. record { object = g.object; o = g.o; is = g.is; has = g.has; goes = g.goes; at = g.at };
}

-- ---- jobs
none-open : (jobs : List Job) → jobs ≡ [] → (f : ℕ) → is_closed jobs f ≡ false
none-open jobs e f = ap (λ js. is_closed js f) e

more-open : (xs ys : List Job) (f : ℕ) → xs ≡ [] → is_closed ys f ≡ false → is_closed (xs ++ ys) f ≡ false
more-open xs ys f e h = ap (λ js. is_closed (js ++ ys) f) e ∙ h

-- what is written out makes no table
piece-open : (t : KeptTables) (from to f : ℕ) → is_closed (out_job t from to) f ≡ false
piece-open t from to f = go (nat_lt from to) (record { frame = unwrap_or (load_frame t from) 0; index = from % 4096 / 8 }) (from % 8) (to - from)
  where
    go : (b : Bool) (at : WordAt) (first count : ℕ) → is_closed (cond b (ToOut at first count ∷ []) []) f ≡ false
    go true at first count = refl
    go false at first count = refl

pieces-open : (t : KeptTables) (from to f : ℕ) (words : List ℕ) → is_closed (flat_map (word_job t from to) words) f ≡ false
pieces-open t from to f [] = refl
pieces-open t from to f (word ∷ words) =
    let here : is_closed (word_job t from to word) f ≡ false = piece-open t (max from (8 * word)) (min to (8 * word + 8)) f in
    let later = pieces-open t from to f words in
    ap (λ js. is_closed js f) (flat_map-cons (word_job t from to) word words)
    ∙ closed-append (word_job t from to word) (flat_map (word_job t from to) words) f ∙ grind (arith, here, later)

-- ---- calls that change no process
answered-leaves : (words : List ℕ) (k : KernelState) (c : Calling) (p : Process) (answer : Answer) → Asks words k c → process_at k c.pid ≡ Some p → p.status ≡ None → Leaves k c p (answered answer k)
answered-leaves words k c p answer a here lives = same-leaves k c p (answered answer k) here lives refl refl refl refl (none-open k.jobs a.waits.jobs)

write-leaves : (words : List ℕ) (k : KernelState) (c : Calling) (p : Process) (bad : Option ℕ) (t : KeptTables) (buf count : ℕ) → Asks words k c → process_at k c.pid ≡ Some p → p.status ≡ None → Leaves k c p (write_by bad t buf count k)
write-leaves words k c p (Some address) t buf count a here lives = answered-leaves words k c p (answers.BadBuffer address) a here lives
write-leaves words k c p None t buf count a here lives = same-leaves k c p (write_by None t buf count k) here lives refl refl refl refl
    (λ f. more-open k.jobs (out_jobs t buf count) f a.waits.jobs (pieces-open t buf (buf + count) f (range_with_len (buf / 8) ((buf % 8 + count + 7) / 8))))

done-leaves : (words : List ℕ) (k : KernelState) (c : Calling) (p : Process) (last : Bool) (thread : Option ℕ) (value : ℕ) → Asks words k c → process_at k c.pid ≡ Some p → p.status ≡ None → Leaves k c p (done_by last c (value_left thread value k))
done-leaves words k c p true None value a here lives = same-leaves k c p (done_by true c k) here lives refl refl refl refl (none-open k.jobs a.waits.jobs)
done-leaves words k c p true (Some number) value a here lives = same-leaves k c p (done_by true c (value_left (Some number) value k)) here lives refl refl refl refl (none-open k.jobs a.waits.jobs)
done-leaves words k c p false None value a here lives = same-leaves k c p (done_by false c k) here lives refl refl refl refl (none-open k.jobs a.waits.jobs)
done-leaves words k c p false (Some number) value a here lives = same-leaves k c p (done_by false c (value_left (Some number) value k)) here lives refl refl refl refl (none-open k.jobs a.waits.jobs)

spawn-leaves : (words : List ℕ) (k : KernelState) (c : Calling) (p : Process) (r : Option Answer) (pc sp arg : ℕ) → Asks words k c → process_at k c.pid ≡ Some p → p.status ≡ None → Leaves k c p (planned_unless r k (spawn_done c p pc sp arg k))
spawn-leaves words k c p (Some answer) pc sp arg a here lives = answered-leaves words k c p answer a here lives
spawn-leaves words k c p None pc sp arg a here lives = same-leaves k c p (spawn_done c p pc sp arg k) here lives refl refl refl refl (λ f. more-open k.jobs _ f a.waits.jobs refl)

-- ---- fork
fork-leaves : (words : List ℕ) (k : KernelState) (c : Calling) (p : Process) (r : Option Answer) → Asks words k c → process_at k c.pid ≡ Some p → p.status ≡ None
    → KernelFits words (committed c (planned_unless r k (fork_done c p k))) → Leaves k c p (planned_unless r k (fork_done c p k))
fork-leaves words k c p (Some answer) a here lives fits = answered-leaves words k c p answer a here lives
fork-leaves words k c p None a here lives fits = record {
  own = p;
  is = still c.pid p here;
  lives = refl;
  carried = same-carried p.space made.answer made.kernel.jobs
      (other-open words (committed c made) done c.pid p child fits refl (old c.pid p here) (still c.pid p here) lives there refl);
  due = λ hart l. absurd (omega (arith, l));
  harts = refl;
  others = λ pid x n e. still pid x e;
  maker = child;
  maker_is = there;
  maker_lives = refl;
  apart = λ pid x n e. old pid x e;
}
  where
    made : Planned
    made = fork_done c p k

    done : Committed
    done = record { calling = c; answer = made.answer; effect = made.effect; closing = made.closing }

    child : Process
    child = child_process c.pid (fork_plan p.space k.free).child

    there : slice_get (k.processes ++ child_process c.pid (fork_plan p.space k.free).child ∷ []) (length k.processes) ≡ Some (child_process c.pid (fork_plan p.space k.free).child)
    there = get-last k.processes (child_process c.pid (fork_plan p.space k.free).child)

    still : (pid : ℕ) (x : Process) → process_at k pid ≡ Some x → slice_get (k.processes ++ child_process c.pid (fork_plan p.space k.free).child ∷ []) pid ≡ Some x
    still pid x e = get-more k.processes (child_process c.pid (fork_plan p.space k.free).child ∷ []) pid x e

    old : (pid : ℕ) (x : Process) → process_at k pid ≡ Some x → pid ≢ length k.processes
    old pid x e same = let l = slice_get_within k.processes pid x e in absurd (omega (arith, l, same))

-- ---- share
share-leaves : (words : List ℕ) (k : KernelState) (c : Calling) (p : Process) (r : Option Answer) (count : ℕ) → k.config.heap ≡ Oscar → Asks words k c → process_at k c.pid ≡ Some p → p.status ≡ None
    → refusal_of (calls.Share count) p k ≡ r → Leaves k c p (planned_unless r k (share_done c p count k))
share-leaves words k c p (Some answer) count oscar a here lives e = answered-leaves words k c p answer a here lives
share-leaves words k c p None count oscar a here lives e =
    let s = share_plan count (sharing_of k p) in
    put-leaves k c p (record p { space = record (p.space) { tables = s.tables } }) (share_done c p count k) here lives refl refl refl refl
    (share-carried k.config.batch (entries k) words k.regions count (share_address (sharing_of k p)) (draft_of k p) (settled-oscar words k c p oscar a here) a.waits.jobs e)
    (λ hart l. absurd (omega (arith, l)))

-- ---- the heap
outcome-leaves : (words : List ℕ) (k : KernelState) (c : Calling) (p : Process) (o : Outcome) → Asks words k c → process_at k c.pid ≡ Some p → p.status ≡ None → o.draft.space.tables.top ≡ p.space.tables.top
    → PagesGo (draft_of k p) o → PlanTurns k.config.harts (draft_of k p) o → Leaves k c p (outcome_planned c.pid p k o)
outcome-leaves words k c p o a here lives top go turns =
    put-leaves k c p (record p { space = o.draft.space }) (outcome_planned c.pid p k o) here lives refl refl refl (made_caller o.closing c.pid)
    (outcome-carried (draft_of k p) o (settled words k c p (entries k) a here).tables.apart top go turns.turned) turns.due

free-leaves : (words : List ℕ) (found : Found) (k : KernelState) (c : Calling) (p : Process) (pointer : ℕ) → k.config.heap ≡ Oscar → Asks words k c → process_at k c.pid ≡ Some p → p.status ≡ None
    → Leaves k c p (outcome_planned c.pid p k (free_of k.config.heap (terms_of k) pointer found (draft_of k p)))
free-leaves words found k c p pointer oscar a here lives =
    outcome-leaves words k c p (free_of k.config.heap (terms_of k) pointer found (draft_of k p)) a here lives (free_of-same k.config.heap (terms_of k) pointer found (draft_of k p))
    (goes (pointer == 0)) (turns (pointer == 0))
  where
    oscars : Settled Oscar k.config.batch (entries k) words k.regions (draft_of k p)
    oscars = settled-oscar words k c p oscar a here

    goes : (b : Bool) → PagesGo (draft_of k p) (cond b (unchanged answers.Nothing (draft_of k p)) (free_by k.config.heap (terms_of k) pointer found (draft_of k p)))
    goes true = unchanged-go (draft_of k p)
    goes false = subst (λ z. PagesGo (draft_of k p) (free_by z (terms_of k) pointer found (draft_of k p))) (sym oscar)
        (plans_go.free k.config.batch pointer (entries k) words k.regions (terms_of k) found (draft_of k p) oscars)

    turns : (b : Bool) → PlanTurns k.config.harts (draft_of k p) (cond b (unchanged answers.Nothing (draft_of k p)) (free_by k.config.heap (terms_of k) pointer found (draft_of k p)))
    turns true = unchanged-turns k.config.harts k.config.batch (entries k) words k.regions (draft_of k p) answers.Nothing oscars a.waits.jobs
    turns false = subst (λ z. PlanTurns k.config.harts (draft_of k p) (free_by z (terms_of k) pointer found (draft_of k p))) (sym oscar)
        (free-turns k.config.batch pointer (entries k) words k.regions (terms_of k) found (draft_of k p) oscars (has_terms words k c a) a.waits.jobs)

-- ---- each call
call-leaves : (words : List ℕ) (found : Found) (k : KernelState) (c : Calling) (p : Process) (call : Call) → k.config.heap ≡ Oscar → Asks words k c → process_at k c.pid ≡ Some p → p.status ≡ None
    → KernelFits words (committed c (plan_meant found c p k call)) → Leaves k c p (plan_meant found c p k call)
call-leaves words found k c p (calls.Exit status) oscar a here lives fits = same-leaves k c p (plan_meant found c p k (calls.Exit status)) here lives refl refl refl refl (none-open k.jobs a.waits.jobs)
call-leaves words found k c p (calls.Write buf len) oscar a here lives fits =
    write-leaves words k c p (first_unreadable p.space.tables buf (write_count k.output len)) p.space.tables buf (write_count k.output len) a here lives
call-leaves words found k c p (calls.Malloc size) oscar a here lives fits =
    outcome-leaves words k c p (malloc_by k.config.heap size (draft_of k p)) a here lives (malloc_by-same k.config.heap size (draft_of k p))
    (subst (λ z. PagesGo (draft_of k p) (malloc_by z size (draft_of k p))) (sym oscar)
    (plans_go.malloc k.config.batch size (entries k) words k.regions (draft_of k p) (settled-oscar words k c p oscar a here)))
    (subst (λ z. PlanTurns k.config.harts (draft_of k p) (malloc_by z size (draft_of k p))) (sym oscar)
    (malloc-turns k.config.harts k.config.batch size (entries k) words k.regions (draft_of k p) (settled-oscar words k c p oscar a here) a.waits.jobs))
call-leaves words found k c p (calls.Free pointer) oscar a here lives fits = free-leaves words found k c p pointer oscar a here lives
call-leaves words found k c p (calls.Realloc pointer size) oscar a here lives fits =
    outcome-leaves words k c p (realloc_by k.config.heap (terms_of k) pointer size found (draft_of k p)) a here lives (realloc_by-same k.config.heap (terms_of k) pointer size found (draft_of k p))
    (subst (λ z. PagesGo (draft_of k p) (realloc_by z (terms_of k) pointer size found (draft_of k p))) (sym oscar)
    (plans_go.realloc k.config.batch pointer size (entries k) words k.regions (terms_of k) found (draft_of k p) (settled-oscar words k c p oscar a here)))
    (subst (λ z. PlanTurns k.config.harts (draft_of k p) (realloc_by z (terms_of k) pointer size found (draft_of k p))) (sym oscar)
    (realloc-turns k.config.batch pointer size (entries k) words k.regions (terms_of k) found (draft_of k p) (settled-oscar words k c p oscar a here) (has_terms words k c a) a.waits.jobs))
call-leaves words found k c p calls.Fork oscar a here lives fits = fork-leaves words k c p (refusal_of calls.Fork p k) a here lives fits
call-leaves words found k c p (calls.Spawn pc sp arg) oscar a here lives fits = spawn-leaves words k c p (refusal_of (calls.Spawn pc sp arg) p k) pc sp arg a here lives
call-leaves words found k c p (calls.Join number) oscar a here lives fits = answered-leaves words k c p (plan_meant found c p k (calls.Join number)).answer a here lives
call-leaves words found k c p (calls.Done value) oscar a here lives fits = done-leaves words k c p (is_last k.records c.pid) c.thread value a here lives
call-leaves words found k c p (calls.Share count) oscar a here lives fits = share-leaves words k c p (refusal_of (calls.Share count) p k) count oscar a here lives refl
call-leaves words found k c p (calls.Wait number) oscar a here lives fits = answered-leaves words k c p (plan_meant found c p k (calls.Wait number)).answer a here lives
call-leaves words found k c p (calls.Unknown number) oscar a here lives fits = answered-leaves words k c p answers.Unknown a here lives
call-leaves words found k c p (calls.End fault) oscar a here lives fits = same-leaves k c p (plan_meant found c p k (calls.End fault)) here lives refl refl refl refl (none-open k.jobs a.waits.jobs)

by-process : (words : List ℕ) (found : Found) (k : KernelState) (c : Calling) (o : Option Process) → k.config.heap ≡ Oscar → Asks words k c → k.under_way ≡ Waiting c → process_at k c.pid ≡ o
    → KernelFits words (plan_by found c o k).kernel → Lasts k (plan_by found c o k).kernel each_hart
by-process words found k c None oscar a u e fits = absurd (let z = sym (caller_lives words k c a) ∙ ap is_living e in let b : ⊥ = grind (arith, z) in b)
by-process words found k c (Some p) oscar a u e fits =
    committed-last words k c p (plan_of found c p k) a u e
    (call-leaves words found k c p (meant c.call) oscar a e (lives_none p (process_at k c.pid) e (caller_lives words k c a)) fits) fits

pub plans_last : PlansLast
unfolding plan
plans_last words found c k fits levels oscar u =
    subst (λ x. Lasts k (plan_waiting found x k).kernel each_hart) (sym u)
    (by-process words found k c (process_at k c.pid) oscar (asks words k c fits u) u refl
    (subst (λ x. KernelFits words (plan_waiting found x k).kernel) u (plans_keep words found k c fits u)))
