-- What the plan of each call makes of the tables of all processes.
use Rattle.std.proofs.Common.{ℕ, zero, suc, ◌+◌, ◌-◌, ◌≡◌, ◌==◌, nat_le, Bool, true, false, cond, Option, Some, None, List, [], ◌∷◌, ◌++◌, length, slice_get, slice_set, count_by, arith, refl, sym, ap, subst, ◌∙◌}
use Rattle.std.proofs.lemmas.Bool.Decides.{nat_tests}
use Rattle.std.proofs.lemmas.List.{append-nil}
use Rattle.osc_word.specs.declared.settings.HeapKind.{HeapKind}
use Rattle.osc_word.specs.declared.settings.HeapKind.TheVariants.{Oscar, Plain}
use Rattle.osc_word.specs.declared.calls.Call.{Call}
use Rattle.osc_word.specs.declared.calls.Call.TheVariants as calls
use Rattle.osc_word.specs.declared.calls.Answer.{Answer}
use Rattle.osc_word.specs.declared.calls.Answer.TheVariants as answers
use Rattle.osc_paging.specs.KeptTables.{KeptTables}
use Rattle.osc_space.specs.Header.{Found}
use Rattle.osc_space.specs.Space.{Draft, Outcome}
use Rattle.osc_space.specs.Fork.{fork_plan}
use Rattle.osc_space.specs.Share.{share_plan}
use Rattle.osc_calls.specs.Kernel.{KernelState, Process, Calling, process_at, is_last, runs}
use Rattle.osc_calls.specs.Requests.{meant}
use Rattle.osc_calls.specs.Refusals.{draft_of, sharing_of, refusal_of}
use Rattle.osc_calls.specs.HeapPlans.{terms_of, malloc_by, free_of, realloc_by}
use Rattle.osc_calls.specs.Planned.{Planned, answered, planned_unless, outcome_planned}
use Rattle.osc_calls.specs.WritePlan.{write_by, first_unreadable, write_count}
use Rattle.osc_calls.specs.ProcessPlans.{done_by, value_left, child_process, fork_done, spawn_done, share_done}
use Rattle.osc_calls.specs.Plan.{plan_meant, committed}
use Rattle.osc_settled.specs.KernelFits.{KernelFits}
use Rattle.osc_settled.proofs.Lists.{some_same, get-put_same}
use Rattle.osc_settled.proofs.Commits.{commits}
use Rattle.osc_settled.proofs.Outcomes.{Asks}
use Rattle.osc_settled.proofs.Answering.{settled}
use Rattle.osc_settled.proofs.Plans.{row}
use Rattle.osc_machine.specs.Replay.{Ledger, ends, loses_thread, told_by, child_of}
use Rattle.osc_machine.specs.Refusals.{Setting}
use Rattle.osc_machine.specs.Agreements.{tells_nothing}
use Rattle.osc_ledger.specs.Tables.{TablesTold}
use Rattle.osc_ledger.specs.Wanting.{setting}
use Rattle.osc_ledger.proofs.Accounts.{as_kept}
use Rattle.osc_ledger.proofs.HeapTells.{told_keeps, with_space}
use Rattle.osc_ledger.proofs.HeapLaw.{heap-row}
use Rattle.osc_ledger.proofs.ForkTables.{forks_keep_tables}
use Rattle.osc_ledger.proofs.CallTells.{Silent, fork-silent, spawn-silent, share-silent, no-child}
use Rattle.osc_tabled.proofs.PlainKeeps.{plain-malloc-told, plain-null-told, plain-free-told, plain-realloc-told}
use Rattle.osc_tabled.proofs.ShareRows.{share-told}
use Rattle.osc_tabled.proofs.AllTold.{Told, AllTold, same-told, is_ending, TablesRow}

put-here : (ps : List Process) (i : ℕ) (p : Process) → slice_get ps i ≡ Some p → slice_set ps i p ≡ ps
put-here [] i p e = refl
put-here (q ∷ ps) zero p e = ap (λ z. z ∷ ps) (sym (some_same q p e))
put-here (q ∷ ps) (suc i) p e = ap (λ zs. q ∷ zs) (put-here ps i p e)

module _ (words image : List ℕ) (found : Found) (k : KernelState) (c : Calling) (p : Process) (a : Asks words k c) (here : process_at k c.pid ≡ Some p) (l : Ledger) (is : l ≡ as_kept p l)
    (told : TablesTold (setting k image) l p.space.tables) where
  abbrev s : Setting
  s = setting k image

  abbrev d : Draft
  d = draft_of k p

  abbrev n : ℕ
  n = length k.journal

  abbrev Row : Call → Planned → Type 0
  Row call made = TablesRow s k c.pid call l made

  told-kept : TablesTold s (as_kept p l) p.space.tables
  told-kept = subst (λ m. TablesTold s m p.space.tables) is told

  -- ---- calls that change no process
  same-row : (call : Call) (made : Planned) → made.kernel.processes ≡ k.processes → child_of call made.answer l ≡ []
      → (is_ending made.effect ≡ false → TablesTold s (told_by k.config n call made.answer l) p.space.tables) → Row call made
  same-row call made processes childless tells = record {
    process = p;
    children = [];
    processes = processes ∙ sym (put-here k.processes c.pid p here) ∙ sym (append-nil (slice_set k.processes c.pid p));
    told = tells;
    child = subst (λ ch. AllTold s ch []) (sym childless) tt;
  }

  refused-row : (call : Call) (answer : Answer) → tells_nothing answer ≡ true → Row call (answered answer k)
  refused-row call answer e =
      same-row call (answered answer k) refl (no-child call answer l e) (λ f. subst (λ m. TablesTold s m p.space.tables) (sym (told_keeps k.config n call answer l e)) told)

  write-row : (bad : Option ℕ) (t : KeptTables) (buf len count : ℕ) → Row (calls.Write buf len) (write_by bad t buf count k)
  write-row (Some address) t buf len count = refused-row (calls.Write buf len) (answers.BadBuffer address) refl
  write-row None t buf len count = same-row (calls.Write buf len) (write_by None t buf count k) refl refl (λ f. told)

  ends-row : {A : Type 0} → true ≡ false → A
  ends-row e = absurd (let z : ⊥ = grind (arith, e) in z)

  -- ---- the end of a thread
  done-row : (last : Bool) (thread : Option ℕ) (value : ℕ) → nat_le l.threads 1 ≡ last → Row (calls.Done value) (done_by last c (value_left thread value k))
  done-row last thread value e = go last thread e
    where
      fewer : nat_le l.threads 1 ≡ false → TablesTold s (loses_thread l) p.space.tables
      fewer f =
          subst (λ b. TablesTold s (cond b (ends l) (record l { threads = l.threads - 1 })) p.space.tables) (sym f)
          (same-told s l (record l { threads = l.threads - 1 }) p.space.tables refl refl refl refl told)

      go : (b : Bool) (thread : Option ℕ) → nat_le l.threads 1 ≡ b → Row (calls.Done value) (done_by b c (value_left thread value k))
      go true None f = same-row (calls.Done value) (done_by true c k) refl refl (λ g. ends-row g)
      go true (Some number) f = same-row (calls.Done value) (done_by true c (value_left (Some number) value k)) refl refl (λ g. ends-row g)
      go false None f = same-row (calls.Done value) (done_by false c k) refl refl (λ g. fewer f)
      go false (Some number) f = same-row (calls.Done value) (done_by false c (value_left (Some number) value k)) refl refl (λ g. fewer f)

  -- ---- fork, spawn and share
  fork-row : (r : Option Answer) → Silent r → Row calls.Fork (planned_unless r k (fork_done c p k))
  fork-row (Some answer) e = refused-row calls.Fork answer e
  fork-row None e = record {
    process = p;
    children = child_process c.pid (fork_plan p.space k.free).child ∷ [];
    processes = ap (λ ps. ps ++ child_process c.pid (fork_plan p.space k.free).child ∷ []) (sym (put-here k.processes c.pid p here));
    told = λ f. told;
    child = ((λ f. forks_keep_tables s l p.space k.free told), tt);
  }

  spawn-row : (r : Option Answer) (pc sp arg : ℕ) → Silent r → Row (calls.Spawn pc sp arg) (planned_unless r k (spawn_done c p pc sp arg k))
  spawn-row (Some answer) pc sp arg e = refused-row (calls.Spawn pc sp arg) answer e
  spawn-row None pc sp arg e =
      same-row (calls.Spawn pc sp arg) (spawn_done c p pc sp arg k) refl refl
      (λ f. same-told s l (record l { threads = l.threads + 1; spawned = l.spawned + 1 }) p.space.tables refl refl refl refl told)

  share-row : (r : Option Answer) (count : ℕ) → refusal_of (calls.Share count) p k ≡ r → Silent r → Row (calls.Share count) (planned_unless r k (share_done c p count k))
  share-row (Some answer) count e f = refused-row (calls.Share count) answer f
  share-row None count e f =
      let q = with_space p (record (p.space) { tables = (share_plan count (sharing_of k p)).tables }) in record {
        process = q;
        children = [];
        processes = sym (append-nil (slice_set k.processes c.pid q));
        told = λ g. share-told k.config.heap k.config.batch (λ frame index. 0) words k.regions count d (settled words k c p (λ frame index. 0) a here) e s l n told;
        child = tt;
      }

  -- ---- the heap
  heap-call-row : (call : Call) (o : Outcome) → ((answer : Answer) (m : Ledger) → child_of call answer m ≡ []) → TablesTold s (told_by k.config n call o.answer (as_kept p l)) o.draft.space.tables
      → Row call (outcome_planned c.pid p k o)
  heap-call-row call o childless tells = record {
    process = with_space p o.draft.space;
    children = [];
    processes = sym (append-nil (slice_set k.processes c.pid (with_space p o.draft.space)));
    told = λ f. subst (λ m. TablesTold s (told_by k.config n call o.answer m) o.draft.space.tables) (sym is) tells;
    child = subst (λ ch. AllTold s ch []) (sym (childless o.answer l)) tt;
  }

  owed : (call : Call) → KernelFits words (committed c (plan_meant found c p k (meant call)))
  owed call = commits words c (plan_meant found c p k (meant call)) (row words found c p k (meant call) a here)

  put-there : (q : Process) → slice_get (slice_set k.processes c.pid q) c.pid ≡ Some q
  put-there q = get-put_same k.processes c.pid p q here

  malloc-row : (size : ℕ) → Row (calls.Malloc size) (plan_meant found c p k (calls.Malloc size))
  malloc-row size = heap-call-row (calls.Malloc size) o (λ answer m. refl) (by k.config.heap refl)
    where
      o : Outcome
      o = malloc_by k.config.heap size d

      by : (kind : HeapKind) → k.config.heap ≡ kind → TablesTold s (told_by k.config n (calls.Malloc size) o.answer (as_kept p l)) o.draft.space.tables
      by Oscar e = heap-row words image found k c p a here e l told-kept (calls.Malloc size) (with_space p o.draft.space) refl (put-there (with_space p o.draft.space)) (owed (calls.Malloc size))
      by Plain e = plain-malloc-told words image k c p a here e l told-kept size

  free-row : (pointer : ℕ) → Row (calls.Free pointer) (plan_meant found c p k (calls.Free pointer))
  free-row pointer = heap-call-row (calls.Free pointer) o (λ answer m. refl) (by k.config.heap refl)
    where
      o : Outcome
      o = free_of k.config.heap (terms_of k) pointer found d

      by : (kind : HeapKind) → k.config.heap ≡ kind → TablesTold s (told_by k.config n (calls.Free pointer) o.answer (as_kept p l)) o.draft.space.tables
      by Oscar e = heap-row words image found k c p a here e l told-kept (calls.Free pointer) (with_space p o.draft.space) refl (put-there (with_space p o.draft.space)) (owed (calls.Free pointer))
      by Plain e = plain-free-told words image k c p a here e l told-kept pointer found

  realloc-row : (pointer size : ℕ) → Row (calls.Realloc pointer size) (plan_meant found c p k (meant (calls.Realloc pointer size)))
  realloc-row pointer size = by k.config.heap refl
    where
      made : Bool → Outcome
      made true = malloc_by k.config.heap size d
      made false = realloc_by k.config.heap (terms_of k) pointer size found d

      planned : (b : Bool) → TablesTold s (told_by k.config n (calls.Realloc pointer size) (made b).answer (as_kept p l)) (made b).draft.space.tables
          → Row (calls.Realloc pointer size) (plan_meant found c p k (cond b (calls.Malloc size) (calls.Realloc pointer size)))
      planned true t = heap-call-row (calls.Realloc pointer size) (made true) (λ answer m. refl) t
      planned false t = heap-call-row (calls.Realloc pointer size) (made false) (λ answer m. refl) t

      plain : (b : Bool) → (pointer == 0) ≡ b → k.config.heap ≡ Plain → TablesTold s (told_by k.config n (calls.Realloc pointer size) (made b).answer (as_kept p l)) (made b).draft.space.tables
      plain true f e =
          subst (λ q. TablesTold s (told_by k.config n (calls.Realloc q size) (made true).answer (as_kept p l)) (made true).draft.space.tables) (let z : 0 ≡ pointer = grind (arith, nat_tests, f) in z)
          (plain-null-told words image k c p a here e l told-kept size)
      plain false f e = plain-realloc-told words image k c p a here e l told-kept pointer size found

      oscar : (b : Bool) → k.config.heap ≡ Oscar
          → ((q : Process) → slice_get (plan_meant found c p k (cond b (calls.Malloc size) (calls.Realloc pointer size))).kernel.processes c.pid ≡ Some q
          → KernelFits words (committed c (plan_meant found c p k (cond b (calls.Malloc size) (calls.Realloc pointer size))))
          → TablesTold s (told_by k.config n (calls.Realloc pointer size) (plan_meant found c p k (cond b (calls.Malloc size) (calls.Realloc pointer size))).answer (as_kept p l)) q.space.tables)
          → KernelFits words (committed c (plan_meant found c p k (cond b (calls.Malloc size) (calls.Realloc pointer size))))
          → TablesTold s (told_by k.config n (calls.Realloc pointer size) (made b).answer (as_kept p l)) (made b).draft.space.tables
      oscar true e h fits = h (with_space p (made true).draft.space) (put-there (with_space p (made true).draft.space)) fits
      oscar false e h fits = h (with_space p (made false).draft.space) (put-there (with_space p (made false).draft.space)) fits

      by : (kind : HeapKind) → k.config.heap ≡ kind → Row (calls.Realloc pointer size) (plan_meant found c p k (meant (calls.Realloc pointer size)))
      by Oscar e = planned (pointer == 0) (oscar (pointer == 0) e (λ q at fits. heap-row words image found k c p a here e l told-kept (calls.Realloc pointer size) q refl at fits) (owed (calls.Realloc pointer size)))
      by Plain e = planned (pointer == 0) (plain (pointer == 0) refl e)

  -- ---- all calls
  pub tables-row : (call : Call) → l.threads ≡ count_by (runs c.pid) k.records → Row call (plan_meant found c p k (meant call))
  tables-row (calls.Exit status) t = same-row (calls.Exit status) (plan_meant found c p k (calls.Exit status)) refl refl (λ g. ends-row g)
  tables-row (calls.Write buf len) t = write-row (first_unreadable p.space.tables buf (write_count k.output len)) p.space.tables buf len (write_count k.output len)
  tables-row (calls.Malloc size) t = malloc-row size
  tables-row (calls.Free pointer) t = free-row pointer
  tables-row (calls.Realloc pointer size) t = realloc-row pointer size
  tables-row calls.Fork t = fork-row (refusal_of calls.Fork p k) (fork-silent p k)
  tables-row (calls.Spawn pc sp arg) t = spawn-row (refusal_of (calls.Spawn pc sp arg) p k) pc sp arg (spawn-silent pc sp arg p k)
  tables-row (calls.Join number) t = same-row (calls.Join number) (plan_meant found c p k (calls.Join number)) refl refl (λ g. told)
  tables-row (calls.Done value) t = done-row (is_last k.records c.pid) c.thread value (ap (λ m. nat_le m 1) t)
  tables-row (calls.Share count) t = share-row (refusal_of (calls.Share count) p k) count refl (share-silent count p k)
  tables-row (calls.Wait number) t = same-row (calls.Wait number) (plan_meant found c p k (calls.Wait number)) refl refl (λ g. told)
  tables-row (calls.Unknown number) t = same-row (calls.Unknown number) (plan_meant found c p k (calls.Unknown number)) refl refl (λ g. told)
  tables-row (calls.End fault) t = same-row (calls.End fault) (plan_meant found c p k (calls.End fault)) refl refl (λ g. ends-row g)
