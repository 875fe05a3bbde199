-- Each call's entry tells what its plan and its return make of what its process keeps.
use Rattle.std.proofs.Common.{ℕ, ◌-◌, ◌≡◌, ◌<◌, ◌==◌, nat_le, Bool, true, false, cond, Option, Some, None, is_some, option_map, find, List, [], ◌∷◌, ◌++◌, length, map, slice_get, slice_set, count_by, arith, refl, sym, ap, subst, ◌∙◌}
use Rattle.std.specs.List.{list_any}
use Rattle.std.proofs.lemmas.Bool.Decides.{nat_tests}
use Rattle.std.proofs.lemmas.List.{append-nil, map-append, map-set}
use Rattle.osc_word.specs.declared.settings.HeapKind.{HeapKind}
use Rattle.osc_word.specs.declared.settings.HeapKind.TheVariants.{Oscar, Plain}
use Rattle.osc_word.specs.declared.calls.Call.{Call}
use Rattle.osc_word.specs.declared.calls.Call.TheVariants as calls
use Rattle.osc_word.specs.declared.calls.Answer.{Answer}
use Rattle.osc_word.specs.declared.calls.Answer.TheVariants as answers
use Rattle.osc_class.specs.Rooms.{room_of}
use Rattle.osc_slot.specs.declared.Block.{Block}
use Rattle.osc_slot.specs.Heap.{next_block}
use Rattle.osc_paging.specs.KeptTables.{KeptTables}
use Rattle.osc_space.specs.Agree.{HeapAgrees, ObjectsAgree, PlainAgrees}
use Rattle.osc_space.specs.Header.{Found}
use Rattle.osc_space.specs.Space.{Draft, Outcome, Reason, first_reason, unchanged}
use Rattle.osc_space.specs.Fork.{fork_reasons, fork_plan}
use Rattle.osc_space.specs.PlainHeap.{plain_reasons}
use Rattle.osc_space.specs.Share.{share_reasons, share_plan}
use Rattle.osc_parts.specs.Settled.{Settled}
use Rattle.osc_parts.proofs.Lists.{get_append}
use Rattle.osc_calls.specs.Kernel.{KernelState, Process, Calling, process_at, is_last, runs}
use Rattle.osc_calls.specs.Requests.{meant}
use Rattle.osc_calls.specs.Refusals.{draft_of, sharing_of, refusal_of, reasons_of}
use Rattle.osc_calls.specs.HeapPlans.{terms_of, malloc_by, free_by, free_of, realloc_by}
use Rattle.osc_calls.specs.Planned.{Planned, answered, planned_unless, outcome_planned}
use Rattle.osc_calls.specs.WritePlan.{write_by, first_unreadable, write_count}
use Rattle.osc_calls.specs.ProcessPlans.{done_by, value_left, child_process, fork_done, spawn_done, share_done}
use Rattle.osc_calls.specs.Plan.{plan_meant}
use Rattle.osc_settled.proofs.Lists.{get-put_same}
use Rattle.osc_settled.proofs.Commits.{lives_none}
use Rattle.osc_settled.proofs.Outcomes.{Asks, caller_lives}
use Rattle.osc_settled.proofs.Answering.{settled}
use Rattle.osc_machine.specs.Replay.{Ledger, fresh_block, ends, loses_thread, told_by, child_of}
use Rattle.osc_machine.specs.Agreements.{Account, account_told, account_kept, tells_nothing}
use Rattle.osc_ledger.proofs.Accounts.{as_kept}
use Rattle.osc_ledger.proofs.HeapTells.{told_keeps, with_space, Tells, malloc-oscar, malloc-plain, free-oscar, free-null, realloc-oscar}
use Rattle.osc_ledger.proofs.PlainTells.{next-absent, null-anew, free-plain, realloc-plain}
use Rattle.osc_ledger.proofs.Returned.{account_after, after-closing, put-same, AccountRow}

-- ---- answers that tell nothing
abbrev pub AreSilent : List Reason → Type 0
AreSilent [] = Unit {0}
AreSilent (r ∷ reasons) = (tells_nothing r.answer ≡ true) × AreSilent reasons

abbrev pub Silent : Option Answer → Type 0
Silent None = Unit {0}
Silent (Some a) = tells_nothing a ≡ true

first-silent : (reasons : List Reason) → AreSilent reasons → Silent (first_reason reasons)
first-silent [] h = tt
first-silent (x ∷ xs) h = go x.holds (first-silent xs h.1)
  where
    go : (b : Bool) → Silent (first_reason xs) → Silent (option_map (λ (r : Reason). r.answer) (cond b (Some x) (find (λ (r : Reason). r.holds) xs)))
    go true later = h.0
    go false later = later

pub fork-silent : (p : Process) (k : KernelState) → Silent (refusal_of calls.Fork p k)
unfolding fork_reasons
fork-silent p k = first-silent (reasons_of calls.Fork p k) (refl, (refl, (refl, tt)))

pub spawn-silent : (pc sp arg : ℕ) (p : Process) (k : KernelState) → Silent (refusal_of (calls.Spawn pc sp arg) p k)
spawn-silent pc sp arg p k = first-silent (reasons_of (calls.Spawn pc sp arg) p k) (refl, (refl, tt))

pub share-silent : (count : ℕ) (p : Process) (k : KernelState) → Silent (refusal_of (calls.Share count) p k)
unfolding share_reasons
share-silent count p k = first-silent (reasons_of (calls.Share count) p k) (refl, (refl, tt))

pub no-child : (call : Call) (answer : Answer) (l : Ledger) → tells_nothing answer ≡ true → child_of call answer l ≡ []
no-child calls.Fork (answers.Number child) l e = absurd (let z : ⊥ = grind (arith, e) in z)
no-child _ _ l e = refl

-- ---- what stands between two calls
frames-are : (words : List ℕ) (k : KernelState) (c : Calling) (p : Process) → Asks words k c → process_at k c.pid ≡ Some p → p.space.heap.frames ≡ k.config.frames
frames-are words k c p a e = (settled words k c p (λ frame index. 0) a e).parts.agrees.frames ∙ a.sizes.free

module _ (words : List ℕ) (k : KernelState) (c : Calling) (p : Process) (a : Asks words k c) (here : process_at k c.pid ≡ Some p) where
  abbrev n : ℕ
  n = length k.journal

  abbrev d : Draft
  d = draft_of k p

  frames : p.space.heap.frames ≡ k.config.frames
  frames = frames-are words k c p a here

  agrees : (kind : HeapKind) → k.config.heap ≡ kind → HeapAgrees kind p.space
  agrees kind e = subst (λ h. HeapAgrees h p.space) e (settled words k c p (λ frame index. 0) a here).parts.agrees.heap

  known : k.config.heap ≡ Oscar → (w : ℕ) → list_any (λ x. x == w) p.space.waiting ≡ true → w < length p.space.objects
  known e w f = let o : ObjectsAgree p.space = agrees Oscar e in o.waiting.known w f

  none-waits : k.config.heap ≡ Plain → p.space.waiting ≡ []
  none-waits e = let o : PlainAgrees p.space = agrees Plain e in o.waiting

  absent : (size : ℕ) → k.config.heap ≡ Plain → first_reason (plain_reasons (room_of size) d) ≡ None
      → list_any (λ (b : Block). b.start == (next_block p.space.heap (room_of size)).start) p.space.heap.held ≡ false
  absent size e f =
      next-absent k.config.batch (λ frame index. 0) words k.regions size d
      (subst (λ h. Settled h k.config.batch (λ frame index. 0) words k.regions d) e (settled words k c p (λ frame index. 0) a here)) f

  -- ---- the heap
  malloc-tells : (size : ℕ) (kind : HeapKind) → Tells k (calls.Malloc size) p (malloc_by kind size d)
  malloc-tells size Oscar = malloc-oscar k p frames (calls.Malloc size) size (λ object pointer l. refl)
  malloc-tells size Plain = malloc-plain k p frames (calls.Malloc size) size (λ pointer l. refl)

  null-tells : (size : ℕ) (kind : HeapKind) → Tells k (calls.Realloc 0 size) p (malloc_by kind size d)
  null-tells size Oscar = malloc-oscar k p frames (calls.Realloc 0 size) size (λ object pointer l. refl)
  null-tells size Plain = malloc-plain k p frames (calls.Realloc 0 size) size (λ pointer l. null-anew k p frames pointer (fresh_block k.config (room_of size) l) l)

  free-by-tells : (pointer : ℕ) (found : Found) (kind : HeapKind) → k.config.heap ≡ kind → Tells k (calls.Free pointer) p (free_by kind (terms_of k) pointer found d)
  free-by-tells pointer found Oscar e = free-oscar k p frames pointer found
  free-by-tells pointer found Plain e = free-plain k p frames pointer (none-waits e)

  free-tells : (pointer : ℕ) (found : Found) → Tells k (calls.Free pointer) p (free_of k.config.heap (terms_of k) pointer found d)
  free-tells pointer found = go (pointer == 0) refl
    where
      go : (b : Bool) → (pointer == 0) ≡ b → Tells k (calls.Free pointer) p (cond b (unchanged answers.Nothing d) (free_by k.config.heap (terms_of k) pointer found d))
      go true e = subst (λ q. Tells k (calls.Free q) p (unchanged answers.Nothing d)) (let z : 0 ≡ pointer = grind (arith, nat_tests, e) in z) (free-null k p frames)
      go false e = free-by-tells pointer found k.config.heap refl

  realloc-tells : (pointer size : ℕ) (found : Found) (kind : HeapKind) → k.config.heap ≡ kind → Tells k (calls.Realloc pointer size) p (realloc_by kind (terms_of k) pointer size found d)
  realloc-tells pointer size found Oscar e = realloc-oscar k p frames pointer size found (known e)
  realloc-tells pointer size found Plain e = realloc-plain k p frames pointer size found.second (none-waits e) (absent size e)

  -- a call on the heap
  outcome-row : (call : Call) (l : Ledger) (o : Outcome) → l ≡ as_kept p l → ((answer : Answer) (m : Ledger) → child_of call answer m ≡ []) → Tells k call p o
      → AccountRow k c.pid call l (outcome_planned c.pid p k o)
  outcome-row call l o is childless tells = record {
    config = refl;
    journal = refl;
    process = with_space p o.draft.space;
    here = get-put_same k.processes c.pid p (with_space p o.draft.space) here;
    processes = map-set account_kept k.processes c.pid (with_space p o.draft.space)
        ∙ sym (append-nil (slice_set (map account_kept k.processes) c.pid (account_kept (with_space p o.draft.space))))
        ∙ ap (λ ch. slice_set (map account_kept k.processes) c.pid (account_kept (with_space p o.draft.space)) ++ map account_told ch) (sym (childless o.answer l));
    told = ap (λ m. account_told (told_by k.config n call o.answer m)) is ∙ tells l ∙ sym (after-closing o.closing (with_space p o.draft.space));
  }

  -- ---- calls that change no account
  same-row : (call : Call) (l : Ledger) (made : Planned) → l ≡ as_kept p l → made.kernel.config ≡ k.config → made.kernel.journal ≡ k.journal → made.kernel.processes ≡ k.processes
      → child_of call made.answer l ≡ [] → account_told (told_by k.config n call made.answer l) ≡ account_after made.effect made.closing p
      → AccountRow k c.pid call l made
  same-row call l made is config journal processes childless told = record {
    config = config;
    journal = journal;
    process = p;
    here = ap (λ ps. slice_get ps c.pid) processes ∙ here;
    processes = ap (map account_kept) processes ∙ sym (put-same account_kept k.processes c.pid p here) ∙ sym (append-nil (slice_set (map account_kept k.processes) c.pid (account_kept p)))
        ∙ ap (λ ch. slice_set (map account_kept k.processes) c.pid (account_kept p) ++ map account_told ch) (sym childless);
    told = told;
  }

  kept : (l : Ledger) → l ≡ as_kept p l → account_told l ≡ account_kept p
  kept l is = ap account_told is

  refused-row : (call : Call) (l : Ledger) (answer : Answer) → l ≡ as_kept p l → tells_nothing answer ≡ true → AccountRow k c.pid call l (answered answer k)
  refused-row call l answer is e =
      same-row call l (answered answer k) is refl refl refl (no-child call answer l e) (ap account_told (told_keeps k.config n call answer l e) ∙ kept l is)

  ended : (l : Ledger) → l ≡ as_kept p l → account_told (ends l) ≡ (let a : Account = record { objects = p.space.objects; waiting = []; held = []; over = true } in a)
  ended l is = ap (λ m. account_told (ends m)) is

  lives : p.status ≡ None
  lives = lives_none p (process_at k c.pid) here (caller_lives words k c a)

  -- ---- writes, joins and waits
  write-row : (bad : Option ℕ) (t : KeptTables) (buf len count : ℕ) (l : Ledger) → l ≡ as_kept p l → AccountRow k c.pid (calls.Write buf len) l (write_by bad t buf count k)
  write-row (Some address) t buf len count l is = refused-row (calls.Write buf len) l (answers.BadBuffer address) is refl
  write-row None t buf len count l is = same-row (calls.Write buf len) l (write_by None t buf count k) is refl refl refl refl (kept l is)

  -- ---- the end of a thread
  done-row : (last : Bool) (thread : Option ℕ) (value : ℕ) (l : Ledger) → l ≡ as_kept p l → nat_le l.threads 1 ≡ last
      → AccountRow k c.pid (calls.Done value) l (done_by last c (value_left thread value k))
  done-row last thread value l is e = go last thread e
    where
      told : (b : Bool) → nat_le l.threads 1 ≡ b → account_told (loses_thread l) ≡ account_told (cond b (ends l) (record l { threads = l.threads - 1 }))
      told b f = ap (λ x. account_told (cond x (ends l) (record l { threads = l.threads - 1 }))) f

      go : (b : Bool) (thread : Option ℕ) → nat_le l.threads 1 ≡ b → AccountRow k c.pid (calls.Done value) l (done_by b c (value_left thread value k))
      go true None f = same-row (calls.Done value) l (done_by true c k) is refl refl refl refl (told true f ∙ ended l is)
      go true (Some number) f = same-row (calls.Done value) l (done_by true c (value_left (Some number) value k)) is refl refl refl refl (told true f ∙ ended l is)
      go false None f = same-row (calls.Done value) l (done_by false c k) is refl refl refl refl (told false f ∙ kept l is)
      go false (Some number) f = same-row (calls.Done value) l (done_by false c (value_left (Some number) value k)) is refl refl refl refl (told false f ∙ kept l is)

  -- ---- fork, spawn and share
  fork-row : (r : Option Answer) (l : Ledger) → Silent r → l ≡ as_kept p l → AccountRow k c.pid calls.Fork l (planned_unless r k (fork_done c p k))
  unfolding fork_plan
  fork-row (Some answer) l e is = refused-row calls.Fork l answer is e
  fork-row None l e is =
      let child = child_process c.pid (fork_plan p.space k.free).child in record {
        config = refl;
        journal = refl;
        process = p;
        here = get_append k.processes (child ∷ []) c.pid p here;
        processes = map-append account_kept k.processes (child ∷ [])
            ∙ ap (λ zs. zs ++ account_kept child ∷ []) (sym (put-same account_kept k.processes c.pid p here))
            ∙ ap (λ z. slice_set (map account_kept k.processes) c.pid (account_kept p) ++ z ∷ []) (sym (kept l is ∙ ap (λ s. let m : Account = record { objects = p.space.objects; waiting = p.space.waiting; held = p.space.heap.held; over = is_some s } in m) lives));
        told = kept l is;
      }

  spawn-row : (r : Option Answer) (pc sp arg : ℕ) (l : Ledger) → Silent r → l ≡ as_kept p l → AccountRow k c.pid (calls.Spawn pc sp arg) l (planned_unless r k (spawn_done c p pc sp arg k))
  spawn-row (Some answer) pc sp arg l e is = refused-row (calls.Spawn pc sp arg) l answer is e
  spawn-row None pc sp arg l e is = same-row (calls.Spawn pc sp arg) l (spawn_done c p pc sp arg k) is refl refl refl refl (kept l is)

  share-row : (r : Option Answer) (count : ℕ) (l : Ledger) → Silent r → l ≡ as_kept p l → AccountRow k c.pid (calls.Share count) l (planned_unless r k (share_done c p count k))
  share-row (Some answer) count l e is = refused-row (calls.Share count) l answer is e
  share-row None count l e is =
      let q = with_space p (record (p.space) { tables = (share_plan count (sharing_of k p)).tables }) in record {
        config = refl;
        journal = refl;
        process = q;
        here = get-put_same k.processes c.pid p q here;
        processes = map-set account_kept k.processes c.pid q ∙ sym (append-nil (slice_set (map account_kept k.processes) c.pid (account_kept q)));
        told = kept l is;
      }

  -- ---- all calls
  pub account-row : (found : Found) (call : Call) (l : Ledger) → l ≡ as_kept p l → l.threads ≡ count_by (runs c.pid) k.records
      → AccountRow k c.pid call l (plan_meant found c p k (meant call))
  account-row found (calls.Exit status) l is t = same-row (calls.Exit status) l (plan_meant found c p k (calls.Exit status)) is refl refl refl refl (ended l is)
  account-row found (calls.Write buf len) l is t = write-row (first_unreadable p.space.tables buf (write_count k.output len)) p.space.tables buf len (write_count k.output len) l is
  account-row found (calls.Malloc size) l is t = outcome-row (calls.Malloc size) l (malloc_by k.config.heap size d) is (λ answer m. refl) (malloc-tells size k.config.heap)
  account-row found (calls.Free pointer) l is t = outcome-row (calls.Free pointer) l (free_of k.config.heap (terms_of k) pointer found d) is (λ answer m. refl) (free-tells pointer found)
  account-row found (calls.Realloc pointer size) l is t = go (pointer == 0) refl
    where
      go : (b : Bool) → (pointer == 0) ≡ b → AccountRow k c.pid (calls.Realloc pointer size) l (plan_meant found c p k (cond b (calls.Malloc size) (calls.Realloc pointer size)))
      go true e = outcome-row (calls.Realloc pointer size) l (malloc_by k.config.heap size d) is (λ answer m. refl)
          (subst (λ q. Tells k (calls.Realloc q size) p (malloc_by k.config.heap size d)) (let z : 0 ≡ pointer = grind (arith, nat_tests, e) in z) (null-tells size k.config.heap))
      go false e = outcome-row (calls.Realloc pointer size) l (realloc_by k.config.heap (terms_of k) pointer size found d) is (λ answer m. refl) (realloc-tells pointer size found k.config.heap refl)
  account-row found calls.Fork l is t = fork-row (refusal_of calls.Fork p k) l (fork-silent p k) is
  account-row found (calls.Spawn pc sp arg) l is t = spawn-row (refusal_of (calls.Spawn pc sp arg) p k) pc sp arg l (spawn-silent pc sp arg p k) is
  account-row found (calls.Join number) l is t = same-row (calls.Join number) l (plan_meant found c p k (calls.Join number)) is refl refl refl refl (kept l is)
  account-row found (calls.Done value) l is t = done-row (is_last k.records c.pid) c.thread value l is (ap (λ m. nat_le m 1) t)
  account-row found (calls.Share count) l is t = share-row (refusal_of (calls.Share count) p k) count l (share-silent count p k) is
  account-row found (calls.Wait number) l is t = same-row (calls.Wait number) l (plan_meant found c p k (calls.Wait number)) is refl refl refl refl (kept l is)
  account-row found (calls.Unknown number) l is t = same-row (calls.Unknown number) l (plan_meant found c p k (calls.Unknown number)) is refl refl refl refl (kept l is)
  account-row found (calls.End fault) l is t = same-row (calls.End fault) l (plan_meant found c p k (calls.End fault)) is refl refl refl refl (ended l is)
