-- What the words show of the tables of a process in a call on the heap, from the plan on and job by job.
use Rattle.std.proofs.Common.{ℕ, ◌+◌, ◌*◌, ◌≡◌, ◌≢◌, ◌<◌, ◌≤◌, ◌==◌, ◌⊎◌, ⊎_elim, cond, Bool, true, false, Option, Some, None, List, ◌∷◌, drop, length, arith, refl, sym, ap, subst, ◌∙◌}
use Rattle.std.proofs.lemmas.Bool.Decides.{nat_tests}
use Rattle.osc_word.specs.declared.calls.Answer.TheVariants as answers
use Rattle.osc_word.specs.declared.calls.Call.{Call}
use Rattle.osc_word.specs.declared.calls.Call.TheVariants as calls
use Rattle.osc_word.specs.declared.job_list.Job.{Job}
use Rattle.osc_word.specs.declared.job_list.Job.TheVariants.{PutWord, ZeroWords, CopyWords, CopyPart, CopyTable, ClearBox, Tell, ToOut}
use Rattle.osc_word.specs.declared.settings.HeapKind.{HeapKind}
use Rattle.osc_word.specs.declared.settings.HeapKind.TheVariants.{Oscar}
use Rattle.osc_sv39.specs.Walk.{word_at}
use Rattle.osc_paging.specs.KeptTables.{KeptTables, piece_of}
use Rattle.osc_paging.specs.JobWords.{words_done, words_after}
use Rattle.osc_paging.specs.Agree.{Agrees}
use Rattle.osc_paging.specs.CopyLaws.{IsNoTable, IsTable, WritesElsewhere}
use Rattle.osc_paging.specs.OtherLaws.{IsAnyTable}
use Rattle.osc_paging.proofs.WordLists.{zeroed_at, length-zeroed}
use Rattle.osc_paging.proofs.Elsewhere.{length-words_done, job_elsewhere}
use Rattle.osc_space.specs.Header.{Found}
use Rattle.osc_space.specs.Space.{Outcome, unchanged}
use Rattle.osc_parts.specs.Settled.{Settled}
use Rattle.osc_calls.specs.Kernel.{KernelState, Process, Calling, process_at}
use Rattle.osc_calls.specs.Requests.{meant}
use Rattle.osc_calls.specs.Refusals.{draft_of}
use Rattle.osc_calls.specs.Planned.{outcome_planned}
use Rattle.osc_calls.specs.HeapPlans.{terms_of, malloc_by, free_by, free_of, realloc_by}
use Rattle.osc_calls.specs.Plan.{plan_meant, committed, plan_by, plan_waiting, plan}
use Rattle.osc_calls.specs.JobDone.{job_done, entries}
use Rattle.osc_settled.specs.Records.{is_living}
use Rattle.osc_settled.proofs.Lists.{get-put_same}
use Rattle.osc_settled.proofs.Commits.{lives_none}
use Rattle.osc_settled.proofs.Outcomes.{Asks, asks, caller_lives}
use Rattle.osc_settled.proofs.Answering.{settled, has_terms, malloc_fits, null_fits, realloc_fits}
use Rattle.osc_showing.specs.Showing.{IsWhole, IsQuiet, Shows}
use Rattle.osc_showing.specs.PlanTurns.{PlanTurns}
use Rattle.osc_showing.proofs.Plans.{unchanged-turns, malloc-turns, free-turns}
use Rattle.osc_showing.proofs.ReallocPlans.{realloc-turns}
use Rattle.osc_showing.proofs.Shown.{tidy-of, turns-show, same-shows, quiet-shows, clear-shows, put-shows, zero-shows}
use Rattle.osc_caches.specs.Going.{PagesGo}
use Rattle.osc_caches.specs.HeapShows.{is_heap_call, cleared_in, CallShows, HeapPlansShow, HeapJobsShow}
use Rattle.osc_caches.proofs.Going.{unchanged-go, malloc-go, free-go, realloc-go}

-- ---- the plan
-- a plan on the caller's memory that turns its tables
outcome-shows : (words : List ℕ) (k : KernelState) (c : Calling) (p : Process) (o : Outcome) → Asks words k c → process_at k c.pid ≡ Some p → length o.draft.free ≡ length k.free
    → PlanTurns k.config.harts (draft_of k p) o → PagesGo (draft_of k p) o → CallShows (committed c (outcome_planned c.pid p k o)) c.pid words
outcome-shows words k c p o a e size turns go = record {
  old = p.space.tables;
  p = record p { space = o.draft.space };
  is = get-put_same k.processes c.pid p (record p { space = o.draft.space }) e;
  was = record { free = k.free; tidy = tidy-of p.space.tables k.free words agree; pages = go.pages };
  shows = turns-show _ p.space.tables o.draft.space.tables k.free o.draft.free o.draft.jobs words agree turns.turned
      (let s = a.sizes.memory in let f = a.sizes.free in omega (arith, s, f, size)) turns.due;
}
  where
    agree : Agrees p.space.tables k.free words
    agree =
        let was = a.memory.spaces c.pid p e (lives_none p (process_at k c.pid) e (caller_lives words k c a)) in
        subst (λ js. Agrees p.space.tables k.free (words_after (entries k) js words)) a.waits.jobs was.tables

abbrev PlanShown : List ℕ → KernelState → Calling → Process → Outcome → Type 0
PlanShown words k c p o = (length o.draft.free ≡ length k.free) × PlanTurns k.config.harts (draft_of k p) o

shown-by : (words : List ℕ) (found : Found) (k : KernelState) (c : Calling) (p : Process) (kind : HeapKind) → kind ≡ Oscar → k.config.heap ≡ kind → Asks words k c → process_at k c.pid ≡ Some p
    → (call : Call) → is_heap_call call ≡ true → CallShows (committed c (plan_meant found c p k call)) c.pid words
shown-by words found k c p kind oscar is a e (calls.Malloc size) h =
    outcome-shows words k c p (malloc_by k.config.heap size (draft_of k p)) a e
    (malloc_fits k.config.heap k.config.batch (entries k) words k.regions size (draft_of k p) (settled words k c p (entries k) a e)).takes.size
    (subst (λ z. PlanTurns k.config.harts (draft_of k p) (malloc_by z size (draft_of k p))) (sym (is ∙ oscar))
    (malloc-turns k.config.harts k.config.batch size (entries k) words k.regions (draft_of k p) (subst (λ z. Settled z k.config.batch (entries k) words k.regions (draft_of k p)) (is ∙ oscar) (settled words k c p (entries k) a e)) a.waits.jobs))
    (subst (λ z. PagesGo (draft_of k p) (malloc_by z size (draft_of k p))) (sym (is ∙ oscar))
    (malloc-go k.config.batch size (entries k) words k.regions (draft_of k p) (subst (λ z. Settled z k.config.batch (entries k) words k.regions (draft_of k p)) (is ∙ oscar) (settled words k c p (entries k) a e))))
shown-by words found k c p kind oscar is a e (calls.Free pointer) h =
    outcome-shows words k c p (free_of k.config.heap (terms_of k) pointer found (draft_of k p)) a e
    (null_fits k.config.heap k.config.batch (entries k) words k.regions (terms_of k) pointer found (draft_of k p) (pointer == 0) (has_terms words k c a) (settled words k c p (entries k) a e)).takes.size
    (null (pointer == 0))
    (null_go (pointer == 0))
  where
    oscars : Settled Oscar k.config.batch (entries k) words k.regions (draft_of k p)
    oscars = subst (λ z. Settled z k.config.batch (entries k) words k.regions (draft_of k p)) (is ∙ oscar) (settled words k c p (entries k) a e)

    null : (b : Bool) → PlanTurns k.config.harts (draft_of k p) (cond b (unchanged answers.Nothing (draft_of k p)) (free_by k.config.heap (terms_of k) pointer found (draft_of k p)))
    null true = unchanged-turns k.config.harts k.config.batch (entries k) words k.regions (draft_of k p) answers.Nothing oscars a.waits.jobs
    null false = subst (λ z. PlanTurns k.config.harts (draft_of k p) (free_by z (terms_of k) pointer found (draft_of k p))) (sym (is ∙ oscar))
        (free-turns k.config.batch pointer (entries k) words k.regions (terms_of k) found (draft_of k p) oscars (has_terms words k c a) a.waits.jobs)

    null_go : (b : Bool) → PagesGo (draft_of k p) (cond b (unchanged answers.Nothing (draft_of k p)) (free_by k.config.heap (terms_of k) pointer found (draft_of k p)))
    null_go true = unchanged-go (draft_of k p) answers.Nothing
    null_go false = subst (λ z. PagesGo (draft_of k p) (free_by z (terms_of k) pointer found (draft_of k p))) (sym (is ∙ oscar))
        (free-go k.config.batch pointer (entries k) words k.regions (terms_of k) found (draft_of k p) oscars)
shown-by words found k c p kind oscar is a e (calls.Realloc pointer size) h =
    outcome-shows words k c p (realloc_by k.config.heap (terms_of k) pointer size found (draft_of k p)) a e
    (realloc_fits k.config.heap k.config.batch (entries k) words k.regions (terms_of k) pointer size found (draft_of k p) (has_terms words k c a) (settled words k c p (entries k) a e)).takes.size
    (subst (λ z. PlanTurns k.config.harts (draft_of k p) (realloc_by z (terms_of k) pointer size found (draft_of k p))) (sym (is ∙ oscar))
    (realloc-turns k.config.batch pointer size (entries k) words k.regions (terms_of k) found (draft_of k p)
    (subst (λ z. Settled z k.config.batch (entries k) words k.regions (draft_of k p)) (is ∙ oscar) (settled words k c p (entries k) a e)) (has_terms words k c a) a.waits.jobs))
    (subst (λ z. PagesGo (draft_of k p) (realloc_by z (terms_of k) pointer size found (draft_of k p))) (sym (is ∙ oscar))
    (realloc-go k.config.batch pointer size (entries k) words k.regions (terms_of k) found (draft_of k p)
    (subst (λ z. Settled z k.config.batch (entries k) words k.regions (draft_of k p)) (is ∙ oscar) (settled words k c p (entries k) a e))))
shown-by words found k c p kind oscar is a e (calls.Exit status) h = absurd (let b : ⊥ = grind (arith, h) in b)
shown-by words found k c p kind oscar is a e (calls.Write buf len) h = absurd (let b : ⊥ = grind (arith, h) in b)
shown-by words found k c p kind oscar is a e calls.Fork h = absurd (let b : ⊥ = grind (arith, h) in b)
shown-by words found k c p kind oscar is a e (calls.Spawn pc sp arg) h = absurd (let b : ⊥ = grind (arith, h) in b)
shown-by words found k c p kind oscar is a e (calls.Join number) h = absurd (let b : ⊥ = grind (arith, h) in b)
shown-by words found k c p kind oscar is a e (calls.Done value) h = absurd (let b : ⊥ = grind (arith, h) in b)
shown-by words found k c p kind oscar is a e (calls.Share count) h = absurd (let b : ⊥ = grind (arith, h) in b)
shown-by words found k c p kind oscar is a e (calls.Wait number) h = absurd (let b : ⊥ = grind (arith, h) in b)
shown-by words found k c p kind oscar is a e (calls.Unknown number) h = absurd (let b : ⊥ = grind (arith, h) in b)
shown-by words found k c p kind oscar is a e (calls.End fault) h = absurd (let b : ⊥ = grind (arith, h) in b)

by-process : (words : List ℕ) (found : Found) (k : KernelState) (c : Calling) (o : Option Process) → k.config.heap ≡ Oscar → Asks words k c → process_at k c.pid ≡ o → is_heap_call (meant c.call) ≡ true
    → CallShows (plan_by found c o k).kernel c.pid words
by-process words found k c None oscar a e h = absurd (let z = sym (caller_lives words k c a) ∙ ap is_living e in let b : ⊥ = grind (arith, z) in b)
by-process words found k c (Some p) oscar a e h = shown-by words found k c p Oscar refl oscar a e (meant c.call) h

pub heap_plans_show : HeapPlansShow
unfolding plan
heap_plans_show words found k c f oscar u h =
    subst (λ x. CallShows (plan_waiting found x k).kernel c.pid words) (sym u) (by-process words found k c (process_at k c.pid) oscar (asks words k c f u) refl h)

-- ---- a job
-- a job in a frame that is no table
elsewhere-shows : (harts : ℕ) (old t : KeptTables) (free : List Bool) (entries : ℕ → ℕ → ℕ) (job : Job) (rest : List Job) (words : List ℕ) → IsQuiet t job → WritesElsewhere t job
    → Shows harts old t free (job ∷ rest) words → Shows harts old t free rest (words_done entries job words)
elsewhere-shows harts old t free entries job rest words q w s =
    same-shows harts old t free rest words (words_done entries job words) (quiet-shows harts old t free job rest words q s) (length-words_done entries job words)
    (λ f i l h c. job_elsewhere entries t job words f i w l h)

not-any : (t : KeptTables) (f : ℕ) → IsAnyTable t f → IsNoTable t f → ⊥
not-any t f h n = ⊎_elim (λ (a : IsTable t f). a n.0) (λ (a : piece_of t.aside f ≢ None). a n.1) h

pub job-shows : (harts : ℕ) (old t : KeptTables) (free : List Bool) (entries : ℕ → ℕ → ℕ) (job : Job) (rest : List Job) (words : List ℕ)
    → Shows harts old t free (job ∷ rest) words → Shows harts old t free rest (words_done entries job words)
job-shows harts old t free entries (PutWord at value) rest words s = put-shows harts old t free at value rest words s
job-shows harts old t free entries (ZeroWords at count) rest words s =
    zero-shows harts old t free at count rest words (words_done entries (ZeroWords at count) words) s (length-zeroed count _ words) other zero
  where
    apart : (f g i j count : ℕ) (b c : Bool) → (g == f) ≡ false → i < 512 → j + count ≤ 512 → ((f * 512 + i < g * 512 + j) ⊎ (g * 512 + j + count ≤ f * 512 + i))
    apart f g i j count b c d l w = grind (arith, nat_tests, d)

    other : (f i : ℕ) → i < 512 → (at.frame == f) ≡ false → word_at (words_done entries (ZeroWords at count) words) f i ≡ word_at words f i
    other f i l d =
        let z = apart f at.frame i at.index count true true d l s.jobs.0.1 in
        grind (arith, nat_tests, z, zeroed_at count (at.frame * 512 + at.index) words (f * 512 + i))

    zero : (i : ℕ) → i < 512 → IsAnyTable t at.frame → word_at (words_done entries (ZeroWords at count) words) at.frame i ≡ 0
    zero i l h = ⊎_elim
        (λ (none : IsNoTable t at.frame). absurd (not-any t at.frame h none))
        (λ (w : IsWhole t at.frame at.index count). (let a = w.from in let b = w.all in grind (arith, nat_tests, a, b, zeroed_at count (at.frame * 512 + at.index) words (at.frame * 512 + i))))
        s.jobs.0.2
job-shows harts old t free entries (CopyWords from to count) rest words s = elsewhere-shows harts old t free entries (CopyWords from to count) rest words tt (s.jobs.0.1, s.jobs.0.2) s
job-shows harts old t free entries (CopyPart from to bytes) rest words s = elsewhere-shows harts old t free entries (CopyPart from to bytes) rest words tt (s.jobs.0.1, s.jobs.0.2) s
job-shows harts old t free entries (CopyTable from to) rest words s = elsewhere-shows harts old t free entries (CopyTable from to) rest words s.jobs.0.1 s.jobs.0.1 s
job-shows harts old t free entries (ClearBox hart) rest words s = clear-shows harts old t free hart rest words s
job-shows harts old t free entries (Tell hart) rest words s = quiet-shows harts old t free (Tell hart) rest words tt s
job-shows harts old t free entries (ToOut at first count) rest words s = quiet-shows harts old t free (ToOut at first count) rest words tt s

pub heap_jobs_show : HeapJobsShow
unfolding job_done
heap_jobs_show word pid words k job jobs s e = record {
  old = s.old;
  p = s.p;
  is = s.is;
  was = s.was;
  shows = subst (λ js. Shows (cleared_in k.config.harts k.under_way) s.old s.p.space.tables k.free (drop 1 js) (words_done (entries k) job words)) (sym e)
      (job-shows _ s.old s.p.space.tables k.free (entries k) job jobs words (subst (λ js. Shows (cleared_in k.config.harts k.under_way) s.old s.p.space.tables k.free js words) e s.shows));
}
