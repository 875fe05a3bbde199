-- As many harts run a process as its entries tell of its threads, and as many threads were spawned.
use Rattle.std.proofs.Common.{ℕ, zero, suc, ◌+◌, ◌-◌, ◌≡◌, ◌≢◌, ◌<◌, ◌==◌, nat_le, Bool, true, false, cond, Option, Some, None, is_none, option_map, List, [], ◌∷◌, length, map, slice_get, slice_set, count_by, sum_by, arith, refl, sym, ap, subst, ◌∙◌}
use Rattle.std.proofs.lemmas.Bool.Decides.{nat_tests}
use Rattle.std.proofs.lemmas.List.{length-append}
use Rattle.std.proofs.lemmas.List.Sums.{sum_by-cons}
use Rattle.std.proofs.lemmas.Option.{slice_get-map}
use Rattle.osc_word.specs.declared.calls.Call.{Call}
use Rattle.osc_word.specs.declared.calls.Call.TheVariants as calls
use Rattle.osc_word.specs.declared.calls.Answer.{Answer}
use Rattle.osc_word.specs.declared.calls.Answer.TheVariants as answers
use Rattle.osc_paging.specs.KeptTables.{KeptTables}
use Rattle.osc_space.specs.Header.{Found}
use Rattle.osc_space.specs.Space.{Reason, reason, first_reason}
use Rattle.osc_space.specs.Fork.{fork_reasons}
use Rattle.osc_calls.specs.declared.Thread.{Thread}
use Rattle.osc_calls.specs.declared.HartRecord.{HartRecord}
use Rattle.osc_calls.specs.declared.HartRecord.TheVariants.{Idle, Runs, Stopped}
use Rattle.osc_calls.specs.Threads.{thread_at, put_value, thread_done, new_number}
use Rattle.osc_calls.specs.Kernel.{KernelState, Process, Calling, process_at, idle_hart, is_last, runs}
use Rattle.osc_calls.specs.Requests.{meant}
use Rattle.osc_calls.specs.Refusals.{no_process, no_thread, refusal_of}
use Rattle.osc_calls.specs.Planned.{Planned, answered, planned_unless}
use Rattle.osc_calls.specs.WritePlan.{write_by, first_unreadable, write_count}
use Rattle.osc_calls.specs.ProcessPlans.{record_stopped, records_ended, done_by, value_left, new_hart, fork_done, spawn_done, share_done}
use Rattle.osc_calls.specs.Plan.{plan_meant}
use Rattle.osc_settled.specs.Records.{is_living}
use Rattle.osc_settled.proofs.Lists.{length-put, sum-put}
use Rattle.osc_settled.proofs.Spawning.{idle_there, idle_is, runs_itself}
use Rattle.osc_settled.proofs.Outcomes.{Asks, caller_lives}
use Rattle.osc_machine.specs.Replay.{Ledger, ends, loses_thread, told_by, child_of}
use Rattle.osc_machine.specs.Agreements.{tells_nothing}
use Rattle.osc_ledger.proofs.HeapTells.{told_keeps}
use Rattle.osc_ledger.proofs.ToldCounts.{SameThreads, threads_stay}
use Rattle.osc_ledger.proofs.CallTells.{Silent, fork-silent, spawn-silent, share-silent, no-child}

-- how many harts run a process
abbrev pub running : List HartRecord → ℕ → ℕ
running records pid = count_by (runs pid) records

-- what a call's plan makes of harts and threads, and what its entry tells of them
pub record ThreadRow (k : KernelState) (pid : ℕ) (call : Call) (l : Ledger) (made : Planned) : Type 0 where
  pub caller : (told_by k.config (length k.journal) call made.answer l).over ≡ false → (told_by k.config (length k.journal) call made.answer l).threads ≡ running made.kernel.records pid
  pub others : (q : ℕ) → q ≢ pid → q < length k.processes → running made.kernel.records q ≡ running k.records q
  pub child : (m : Ledger) → child_of call made.answer l ≡ m ∷ [] → m.threads ≡ running made.kernel.records (length k.processes)
  pub spawned : (told_by k.config (length k.journal) call made.answer l).spawned + length k.threads ≡ l.spawned + length made.kernel.threads

-- ---- counts of harts
one : ℕ → HartRecord → ℕ
one q r = cond (runs q r) 1 0

other-runs : (pid q : ℕ) (thread : Option ℕ) → q ≢ pid → runs q (Runs pid thread) ≡ false
other-runs pid q thread n = go (pid == q) refl
  where
    go : (b : Bool) → (pid == q) ≡ b → b ≡ false
    go true e = absurd (n (let s : q ≡ pid = grind (arith, nat_tests, e) in s))
    go false e = refl

-- one record changes
pub put-runs : (records : List HartRecord) (hart q : ℕ) (old new : HartRecord) (a b : Bool) → slice_get records hart ≡ Some old → runs q old ≡ a → runs q new ≡ b
    → running (slice_set records hart new) q + cond a 1 0 ≡ running records q + cond b 1 0
put-runs records hart q old new a b here e f =
    ap (λ x. running (slice_set records hart new) q + cond x 1 0) (sym e)
    ∙ sum-put (λ (r : HartRecord). cond (runs q r) 1 0) records hart old new here
    ∙ ap (λ x. running records q + cond x 1 0) f

stopped-runs : (pid q : ℕ) (r : HartRecord) → q ≢ pid → runs q (record_stopped pid r) ≡ runs q r
stopped-runs pid q Idle n = refl
stopped-runs pid q (Stopped other) n = refl
stopped-runs pid q (Runs other thread) n = go (other == pid) refl
  where
    go : (b : Bool) → (other == pid) ≡ b → runs q (cond b (Stopped pid) (Runs other thread)) ≡ runs q (Runs other thread)
    go true e = sym (subst (λ z. runs q (Runs z thread) ≡ false) (let s : pid ≡ other = grind (arith, nat_tests, e) in s) (other-runs pid q thread n))
    go false e = refl

all-stopped : (pid q : ℕ) (records : List HartRecord) → q ≢ pid → running (map (record_stopped pid) records) q ≡ running records q
all-stopped pid q [] n = refl
all-stopped pid q (r ∷ records) n =
    sum_by-cons (λ (x : HartRecord). cond (runs q x) 1 0) (record_stopped pid r) (map (record_stopped pid) records)
    ∙ ap (λ (b : Bool). cond b 1 0 + running (map (record_stopped pid) records) q) (stopped-runs pid q r n)
    ∙ ap (λ m. cond (runs q r) 1 0 + m) (all-stopped pid q records n)
    ∙ sym (sum_by-cons (λ (x : HartRecord). cond (runs q x) 1 0) r records)

ended-runs : (records : List HartRecord) (hart pid q : ℕ) (thread : Option ℕ) → slice_get records hart ≡ Some (Runs pid thread) → q ≢ pid
    → running (records_ended hart pid records) q ≡ running records q
ended-runs records hart pid q thread here n =
    let at : slice_get (map (record_stopped pid) records) hart ≡ Some (Stopped pid) =
    slice_get-map (record_stopped pid) records hart ∙ ap (option_map (record_stopped pid)) here ∙ ap (λ (b : Bool). Some (cond b (Stopped pid) (Runs pid thread))) (runs_itself pid thread) in
    let put = put-runs (map (record_stopped pid) records) hart q (Stopped pid) Idle false false at refl refl in
    let all = all-stopped pid q records n in
    omega (arith, put, all)

none-runs : (records : List HartRecord) (q : ℕ) → ((h : ℕ) (t : Option ℕ) → slice_get records h ≡ Some (Runs q t) → ⊥) → running records q ≡ 0
none-runs [] q never = refl
none-runs (r ∷ records) q never =
    let sum = sum_by-cons (λ (x : HartRecord). cond (runs q x) 1 0) r records in
    let here = ap (λ (b : Bool). cond {A = ℕ} b 1 0) (first r refl) in
    let later = none-runs records q (λ h t e. never (suc h) t e) in
    omega (arith, sum, here, later)
  where
    first : (x : HartRecord) → r ≡ x → runs q x ≡ false
    first Idle e = refl
    first (Stopped other) e = refl
    first (Runs other thread) e = by (other == q) refl
      where
        by : (b : Bool) → (other == q) ≡ b → b ≡ false
        by true f = absurd (never 0 thread (ap (λ (x : HartRecord). Some x) e ∙ ap (λ z. Some (Runs z thread)) (let s : other ≡ q = grind (arith, nat_tests, f) in s)))
        by false f = refl

-- ---- threads that are done
done-length : (number value : ℕ) (threads : List Thread) → length (thread_done number value threads) ≡ length threads
done-length number value threads = go (thread_at threads number)
  where
    go : (o : Option Thread) → length (put_value (number - 1) value o threads) ≡ length threads
    go None = refl
    go (Some t) = length-put threads (number - 1) (record { pid = t.pid; value = Some value })

-- ---- the calls
first-fails : (b : Bool) (rest : List Reason) (x : Answer) → first_reason (reason b x ∷ rest) ≡ None → b ≡ false
first-fails true rest x e = absurd (let z : ⊥ = grind (arith, e) in z)
first-fails false rest x e = refl

none-left : (m : Ledger) → [] ≡ m ∷ [] → ⊥
none-left m e = grind (arith, e)

module _ (words : List ℕ) (k : KernelState) (c : Calling) (p : Process) (a : Asks words k c) (here : process_at k c.pid ≡ Some p) where
  abbrev n : ℕ
  n = length k.journal

  abbrev Runs-told : Ledger → Type 0
  Runs-told l = l.threads ≡ running k.records c.pid

  -- a call that changes neither
  same-row : (call : Call) (l : Ledger) (made : Planned) → Runs-told l → made.kernel.records ≡ k.records → made.kernel.threads ≡ k.threads → child_of call made.answer l ≡ []
      → SameThreads l (told_by k.config n call made.answer l) → ThreadRow k c.pid call l made
  same-row call l made t records threads childless s = record {
    caller = λ e. s.threads ∙ t ∙ ap (λ r. running r c.pid) (sym records);
    others = λ q d w. ap (λ r. running r q) records;
    child = λ m e. absurd (none-left m (sym childless ∙ e));
    spawned = (let x = s.spawned in let y = ap length threads in omega (arith, x, y));
  }

  refused-row : (call : Call) (l : Ledger) (answer : Answer) → Runs-told l → tells_nothing answer ≡ true → ThreadRow k c.pid call l (answered answer k)
  refused-row call l answer t e =
      let is = told_keeps k.config n call answer l e in
      same-row call l (answered answer k) t refl refl (no-child call answer l e) (record { threads = ap (λ (m : Ledger). m.threads) is; spawned = ap (λ (m : Ledger). m.spawned) is })

  -- a process ends
  ends-row : (call : Call) (l : Ledger) (made : Planned) → made.kernel.records ≡ records_ended c.hart c.pid k.records → length made.kernel.threads ≡ length k.threads → child_of call made.answer l ≡ []
      → told_by k.config n call made.answer l ≡ ends l → ThreadRow k c.pid call l made
  ends-row call l made records threads childless told = record {
    caller = λ e. (let x : true ≡ false = sym (ap (λ (m : Ledger). m.over) told) ∙ e in absurd (let z : ⊥ = grind (arith, x) in z));
    others = λ q d w. ap (λ r. running r q) records ∙ ended-runs k.records c.hart c.pid q c.thread a.waits.caller d;
    child = λ m e. absurd (none-left m (sym childless ∙ e));
    spawned = (let x = ap (λ (m : Ledger). m.spawned) told in omega (arith, x, threads));
  }

  write-row : (bad : Option ℕ) (t : KeptTables) (buf len count : ℕ) (l : Ledger) → Runs-told l → ThreadRow k c.pid (calls.Write buf len) l (write_by bad t buf count k)
  write-row (Some address) t buf len count l r = refused-row (calls.Write buf len) l (answers.BadBuffer address) r refl
  write-row None t buf len count l r = same-row (calls.Write buf len) l (write_by None t buf count k) r refl refl refl (record { threads = refl; spawned = refl })

  left-records : (thread : Option ℕ) (value : ℕ) → (value_left thread value k).records ≡ k.records
  left-records None value = refl
  left-records (Some number) value = refl

  left-threads : (thread : Option ℕ) (value : ℕ) → length (value_left thread value k).threads ≡ length k.threads
  left-threads None value = refl
  left-threads (Some number) value = done-length number value k.threads

  done-row : (last : Bool) (value : ℕ) (l : Ledger) → Runs-told l → nat_le l.threads 1 ≡ last → ThreadRow k c.pid (calls.Done value) l (done_by last c (value_left c.thread value k))
  done-row true value l t e =
      ends-row (calls.Done value) l (done_by true c (value_left c.thread value k)) (ap (records_ended c.hart c.pid) (left-records c.thread value)) (left-threads c.thread value) refl
      (ap (λ b. cond b (ends l) (record l { threads = l.threads - 1 })) e)
  done-row false value l t e =
      let told : loses_thread l ≡ record l { threads = l.threads - 1 } = ap (λ b. cond b (ends l) (record l { threads = l.threads - 1 })) e in
      let records = ap (λ rs. slice_set rs c.hart Idle) (left-records c.thread value) in record {
        caller = λ f. (let x = ap (λ (m : Ledger). m.threads) told in
            let y = put-runs k.records c.hart c.pid (Runs c.pid c.thread) Idle true false a.waits.caller (runs_itself c.pid c.thread) refl in
            let z = ap (λ r. running r c.pid) records in omega (arith, x, y, z, t));
        others = λ q d w. (let y = put-runs k.records c.hart q (Runs c.pid c.thread) Idle false false a.waits.caller (other-runs c.pid q c.thread d) refl in
            let z = ap (λ r. running r q) records in omega (arith, y, z));
        child = λ m f. absurd (none-left m f);
        spawned = (let x = ap (λ (m : Ledger). m.spawned) told in let y = left-threads c.thread value in omega (arith, x, y));
      }

  within : c.pid < length k.processes
  within = living k.processes c.pid (caller_lives words k c a)
    where
      living : (ps : List Process) (pid : ℕ) → is_living (slice_get ps pid) ≡ true → pid < length ps
      living [] pid e = absurd (let z : ⊥ = grind (arith, e) in z)
      living (q ∷ ps) zero e = omega arith
      living (q ∷ ps) (suc pid) e = let l = living ps pid e in omega (arith, l)

  no-child-runs : running k.records (length k.processes) ≡ 0
  no-child-runs = none-runs k.records (length k.processes) (λ h t e. past k.processes (a.records.lives h (length k.processes) t e))
    where
      past : (ps : List Process) → is_living (slice_get ps (length ps)) ≡ true → ⊥
      past [] e = let z : ⊥ = grind (arith, e) in z
      past (q ∷ ps) e = past ps e

  forked-row : (hart : ℕ) (l : Ledger) → Runs-told l → slice_get k.records hart ≡ Some Idle → new_hart k ≡ hart → ThreadRow k c.pid calls.Fork l (fork_done c p k)
  forked-row hart l t idle is =
      let child = length k.processes in
      let records = ap (λ h. slice_set k.records h (Runs child None)) is in
      let w = within in record {
        caller = λ e. (let y = put-runs k.records hart c.pid Idle (Runs child None) false false idle refl (other-runs child c.pid None (λ s. (let z : ⊥ = omega (arith, s, w) in z))) in
            let z = ap (λ r. running r c.pid) records in omega (arith, y, z, t));
        others = λ q d v. (let y = put-runs k.records hart q Idle (Runs child None) false false idle refl (other-runs child q None (λ s. (let z : ⊥ = omega (arith, s, v) in z))) in
            let z = ap (λ r. running r q) records in omega (arith, y, z));
        child = λ m e. (let x = ap (λ (ls : List Ledger). sum_by (λ (b : Ledger). b.threads) ls) e in
            let f = sum_by-cons (λ (b : Ledger). b.threads) (record l { threads = 1; spawned = 0 }) [] in
            let g = sum_by-cons (λ (b : Ledger). b.threads) m [] in
            let y = put-runs k.records hart child Idle (Runs child None) false true idle refl (runs_itself child None) in
            let z = ap (λ r. running r child) records in let none = no-child-runs in omega (arith, x, f, g, y, z, none));
        spawned = refl;
      }

  fork-row : (r : Option Answer) (l : Ledger) → refusal_of calls.Fork p k ≡ r → Silent r → Runs-told l → ThreadRow k c.pid calls.Fork l (planned_unless r k (fork_done c p k))
  fork-row (Some answer) l f e t = refused-row calls.Fork l answer t e
  fork-row None l f e t =
      let some = first-fails (is_none (idle_hart k.records)) (no_process k ∷ fork_reasons p.space k.free) answers.NoHart f in
      forked-row (new_hart k) l t (idle_there k.records (new_hart k) (idle_is (idle_hart k.records) some)) refl

  spawned-row : (hart pc sp arg : ℕ) (l : Ledger) → Runs-told l → slice_get k.records hart ≡ Some Idle → new_hart k ≡ hart → ThreadRow k c.pid (calls.Spawn pc sp arg) l (spawn_done c p pc sp arg k)
  spawned-row hart pc sp arg l t idle is =
      let number = new_number k.threads in
      let records = ap (λ h. slice_set k.records h (Runs c.pid (Some number))) is in record {
        caller = λ e. (let y = put-runs k.records hart c.pid Idle (Runs c.pid (Some number)) false true idle refl (runs_itself c.pid (Some number)) in
            let z = ap (λ r. running r c.pid) records in omega (arith, y, z, t));
        others = λ q d v. (let y = put-runs k.records hart q Idle (Runs c.pid (Some number)) false false idle refl (other-runs c.pid q (Some number) d) in
            let z = ap (λ r. running r q) records in omega (arith, y, z));
        child = λ m e. absurd (none-left m e);
        spawned = (let x = length-append k.threads (record { pid = c.pid; value = None } ∷ []) in omega (arith, x));
      }

  spawn-row : (r : Option Answer) (pc sp arg : ℕ) (l : Ledger) → refusal_of (calls.Spawn pc sp arg) p k ≡ r → Silent r → Runs-told l
      → ThreadRow k c.pid (calls.Spawn pc sp arg) l (planned_unless r k (spawn_done c p pc sp arg k))
  spawn-row (Some answer) pc sp arg l f e t = refused-row (calls.Spawn pc sp arg) l answer t e
  spawn-row None pc sp arg l f e t =
      let some = first-fails (is_none (idle_hart k.records)) (no_thread k ∷ []) answers.NoHart f in
      spawned-row (new_hart k) pc sp arg l t (idle_there k.records (new_hart k) (idle_is (idle_hart k.records) some)) refl

  share-row : (r : Option Answer) (count : ℕ) (l : Ledger) → Silent r → Runs-told l → ThreadRow k c.pid (calls.Share count) l (planned_unless r k (share_done c p count k))
  share-row (Some answer) count l e t = refused-row (calls.Share count) l answer t e
  share-row None count l e t = same-row (calls.Share count) l (share_done c p count k) t refl refl refl (record { threads = refl; spawned = refl })

  pub thread-row : (found : Found) (call : Call) (l : Ledger) → Runs-told l → ThreadRow k c.pid call l (plan_meant found c p k (meant call))
  thread-row found (calls.Exit status) l t = ends-row (calls.Exit status) l (plan_meant found c p k (calls.Exit status)) refl refl refl refl
  thread-row found (calls.Write buf len) l t = write-row (first_unreadable p.space.tables buf (write_count k.output len)) p.space.tables buf len (write_count k.output len) l t
  thread-row found (calls.Malloc size) l t = same-row (calls.Malloc size) l (plan_meant found c p k (calls.Malloc size)) t refl refl refl (threads_stay k.config n (calls.Malloc size) (plan_meant found c p k (calls.Malloc size)).answer l refl)
  thread-row found (calls.Free pointer) l t = same-row (calls.Free pointer) l (plan_meant found c p k (calls.Free pointer)) t refl refl refl (threads_stay k.config n (calls.Free pointer) (plan_meant found c p k (calls.Free pointer)).answer l refl)
  thread-row found (calls.Realloc pointer size) l t = go (pointer == 0)
    where
      go : (b : Bool) → ThreadRow k c.pid (calls.Realloc pointer size) l (plan_meant found c p k (cond b (calls.Malloc size) (calls.Realloc pointer size)))
      go true = same-row (calls.Realloc pointer size) l (plan_meant found c p k (calls.Malloc size)) t refl refl refl (threads_stay k.config n (calls.Realloc pointer size) (plan_meant found c p k (calls.Malloc size)).answer l refl)
      go false = same-row (calls.Realloc pointer size) l (plan_meant found c p k (calls.Realloc pointer size)) t refl refl refl (threads_stay k.config n (calls.Realloc pointer size) (plan_meant found c p k (calls.Realloc pointer size)).answer l refl)
  thread-row found calls.Fork l t = fork-row (refusal_of calls.Fork p k) l refl (fork-silent p k) t
  thread-row found (calls.Spawn pc sp arg) l t = spawn-row (refusal_of (calls.Spawn pc sp arg) p k) pc sp arg l refl (spawn-silent pc sp arg p k) t
  thread-row found (calls.Join number) l t = same-row (calls.Join number) l (plan_meant found c p k (calls.Join number)) t refl refl refl (record { threads = refl; spawned = refl })
  thread-row found (calls.Done value) l t = done-row (is_last k.records c.pid) value l t (ap (λ m. nat_le m 1) t)
  thread-row found (calls.Share count) l t = share-row (refusal_of (calls.Share count) p k) count l (share-silent count p k) t
  thread-row found (calls.Wait number) l t = same-row (calls.Wait number) l (plan_meant found c p k (calls.Wait number)) t refl refl refl (record { threads = refl; spawned = refl })
  thread-row found (calls.Unknown number) l t = same-row (calls.Unknown number) l (plan_meant found c p k (calls.Unknown number)) t refl refl refl (record { threads = refl; spawned = refl })
  thread-row found (calls.End fault) l t = ends-row (calls.End fault) l (plan_meant found c p k (calls.End fault)) refl refl refl refl
