-- A spawn keeps what holds.
use Rattle.std.proofs.Common.{ℕ, zero, suc, ◌+◌, ◌≡◌, ◌≢◌, ◌<◌, ◌⊎◌, inl, inr, nat_lt, not, Bool, true, false, Option, Some, None, is_none, unwrap_or, List, [], ◌∷◌, ◌++◌, length, get_or, slice_get, slice_set, arith, refl, ap, sym, ◌∙◌, subst}
use Rattle.std.proofs.lemmas.Bool.Decides.{nat_tests}
use Rattle.std.proofs.lemmas.Option.{slice_get-get_or}
use Rattle.std.proofs.lemmas.List.{length-append}
use Rattle.std.proofs.lemmas.List.Quantifiers.{position-Some}
use Rattle.osc_word.specs.declared.calls.Call.TheVariants as calls
use Rattle.osc_word.specs.declared.calls.Answer.{Answer}
use Rattle.osc_word.specs.declared.calls.Answer.TheVariants as answers
use Rattle.osc_word.specs.declared.job_list.Job.TheVariants.{Tell}
use Rattle.osc_calls.specs.declared.Thread.{Thread}
use Rattle.osc_calls.specs.declared.HartRecord.{HartRecord}
use Rattle.osc_calls.specs.declared.HartRecord.TheVariants.{Idle, Runs, Stopped}
use Rattle.osc_calls.specs.Threads.{thread_at, new_number, spawned, has_room}
use Rattle.osc_calls.specs.Kernel.{KernelState, Process, Calling, process_at, root_frame, root_in, is_idle, idle_hart, runs}
use Rattle.osc_word.specs.declared.orders.Start.{Start}
use Rattle.osc_space.specs.Space.{Keeps, reason, first_reason}
use Rattle.osc_calls.specs.Refusals.{refusal_of, no_hart, no_thread}
use Rattle.osc_calls.specs.Planned.{planned_unless}
use Rattle.osc_calls.specs.ProcessPlans.{new_hart, spawn_start, spawn_made, spawn_done}
use Rattle.osc_settled.specs.Memory.{memory_of}
use Rattle.osc_settled.specs.Records.{is_living, goes_on, is_at_work, RecordsFit}
use Rattle.osc_settled.specs.UnderWay.{HasAlone, StartFits, runs_at}
use Rattle.osc_settled.proofs.Manned.{manned_put}
use Rattle.osc_settled.proofs.Lists.{get-put_same, get-put_other, length-put, some_same}
use Rattle.osc_settled.proofs.Memories.{closes_for}
use Rattle.osc_settled.proofs.Commits.{Owed}
use Rattle.osc_settled.proofs.Outcomes.{Asks, caller_lives, closes_nothing}
use Rattle.osc_settled.proofs.Answering.{answered_owed}
use Rattle.osc_settled.proofs.Ending.{put_at, living_within}
use Rattle.osc_settled.proofs.Jobs.{more_writes, more_memory}
use Rattle.osc_settled.proofs.Silent.{outs, outs-push, first_no_end}

-- ---- lists that grow
pub get-more : {X : Type 0} (xs ys : List X) (i : ℕ) (x : X) → slice_get xs i ≡ Some x → slice_get (xs ++ ys) i ≡ Some x
get-more [] ys i x e = absurd (let z : ⊥ = grind (arith, e) in z)
get-more (z ∷ xs) ys zero x e = e
get-more (z ∷ xs) ys (suc i) x e = get-more xs ys i x e

pub get-last : {X : Type 0} (xs : List X) (y : X) → slice_get (xs ++ y ∷ []) (length xs) ≡ Some y
get-last [] y = refl
get-last (x ∷ xs) y = get-last xs y

-- an element of a list with one more
pub get-either : {X : Type 0} (xs : List X) (y : X) (i : ℕ) (x : X) → slice_get (xs ++ y ∷ []) i ≡ Some x → (slice_get xs i ≡ Some x) ⊎ ((i ≡ length xs) × (y ≡ x))
get-either [] y zero x e = inr (refl, some_same y x e)
get-either [] y (suc i) x e = absurd (let z : ⊥ = grind (arith, e) in z)
get-either (z ∷ xs) y zero x e = inl e
get-either {X = X} (z ∷ xs) y (suc i) x e = go (get-either xs y i x e)
  where
    go : (slice_get xs i ≡ Some x) ⊎ ((i ≡ length xs) × (y ≡ x)) → (slice_get xs i ≡ Some x) ⊎ ((suc i ≡ length (z ∷ xs)) × (y ≡ x))
    go (inl g) = inl g
    go (inr g) = inr ((let h = g.0 in omega (arith, h)), g.1)

-- ---- the idle hart
pub idle_there : (records : List HartRecord) (hart : ℕ) → idle_hart records ≡ Some hart → slice_get records hart ≡ Some Idle
idle_there records hart e =
    let f = position-Some is_idle records hart Idle e in
    slice_get-get_or records hart Idle f.0 ∙ ap (λ (r : HartRecord). Some r) (idle (get_or records hart Idle) f.1)
  where
    idle : (r : HartRecord) → is_idle r ≡ true → r ≡ Idle
    idle Idle h = refl
    idle (Runs pid thread) h = absurd (let z : ⊥ = grind (arith, h) in z)
    idle (Stopped pid) h = absurd (let z : ⊥ = grind (arith, h) in z)

-- ---- threads
one_more : (n : ℕ) → n + 1 ≡ suc n
one_more n = omega arith

pub works_more : (threads : List Thread) (new : Thread) (q : ℕ) (t : Option ℕ) → is_at_work threads q t ≡ true → is_at_work (threads ++ new ∷ []) q t ≡ true
works_more threads new q None h = refl
works_more threads new q (Some zero) h = h
works_more threads new q (Some (suc i)) h = go (slice_get threads i) refl h
  where
    go : (o : Option Thread) → slice_get threads i ≡ o → goes_on q o ≡ true → goes_on q (slice_get (threads ++ new ∷ []) i) ≡ true
    go None e g = absurd (let z : ⊥ = grind (arith, g) in z)
    go (Some t) e g = ap (goes_on q) (get-more threads (new ∷ []) i t e) ∙ g

works_new : (threads : List Thread) (pid : ℕ) → is_at_work (spawned pid threads) pid (Some (new_number threads)) ≡ true
works_new threads pid =
    ap (λ n. goes_on pid (thread_at (spawned pid threads) n)) (one_more (length threads))
    ∙ ap (goes_on pid) (get-last threads (record { pid = pid; value = None })) ∙ itself pid
  where
    itself : (n : ℕ) → goes_on n (Some (record { pid = n; value = None })) ≡ true
    itself n = grind (arith, nat_tests)

-- no hart runs a thread of the next number
no_thread_yet : (threads : List Thread) (q : ℕ) → is_at_work threads q (Some (new_number threads)) ≡ false
no_thread_yet threads q = ap (λ n. goes_on q (thread_at threads n)) (one_more (length threads)) ∙ ap (goes_on q) (past threads)
  where
    past : (xs : List Thread) → slice_get xs (length xs) ≡ None
    past [] = refl
    past (x ∷ xs) = past xs

-- ---- the records
-- a hart that runs a thread is the one on which it begins, or ran it before
abbrev pub RunsEither : ℕ → ℕ → ℕ → Option ℕ → ℕ → Option ℕ → List HartRecord → Type 0
RunsEither hart h pid thread q t records = ((h ≡ hart) × (Runs pid thread ≡ Runs q t)) ⊎ ((h ≢ hart) × (slice_get records h ≡ Some (Runs q t)))

same_run_pid : (pid q : ℕ) (thread t : Option ℕ) → Runs pid thread ≡ Runs q t → pid ≡ q
same_run_pid pid q thread t e = cc

same_run_thread : (pid q : ℕ) (thread t : Option ℕ) → Runs pid thread ≡ Runs q t → thread ≡ t
same_run_thread pid q thread t e = cc

-- a thread begins on a hart
pub records_more : (ps : List Process) (threads after : List Thread) (records : List HartRecord) (hart pid : ℕ) (thread : Option ℕ)
    → RecordsFit ps threads records None → is_living (slice_get ps pid) ≡ true
    → ((q : ℕ) (t : Option ℕ) → is_at_work threads q t ≡ true → is_at_work after q t ≡ true) → is_at_work after pid thread ≡ true
    → ((h : ℕ) → slice_get records h ≢ Some (Runs pid thread))
    → ((place : ℕ) (t : Thread) → slice_get after place ≡ Some t → t.pid < length ps)
    → RecordsFit ps after (slice_set records hart (Runs pid thread)) None
records_more ps threads after records hart pid thread f alive stay new none within = record {
  lives = λ h q t g. lives h q t (put_at records hart h (Runs pid thread) (Runs q t) g);
  goes_on = λ h q t g e. (let z : ⊥ = grind (arith, e) in z);
  works = λ h q t g. works h q t (put_at records hart h (Runs pid thread) (Runs q t) g);
  alone = λ a b q t g i. alone a b q t (put_at records hart a (Runs pid thread) (Runs q t) g) (put_at records hart b (Runs pid thread) (Runs q t) i);
  known = λ h q g. f.known h q (before h q (put_at records hart h (Runs pid thread) (Stopped q) g));
  stopped = λ h q g l. f.stopped h q (before h q (put_at records hart h (Runs pid thread) (Stopped q) g)) l;
  spawned = within;
}
  where
    lives : (h q : ℕ) (t : Option ℕ) → RunsEither hart h pid thread q t records → is_living (slice_get ps q) ≡ true
    lives h q t (inl x) = subst (λ k. is_living (slice_get ps k) ≡ true) (same_run_pid pid q thread t x.1) alive
    lives h q t (inr x) = f.lives h q t x.1

    works : (h q : ℕ) (t : Option ℕ) → RunsEither hart h pid thread q t records → is_at_work after q t ≡ true
    works h q t (inl x) =
        subst (λ k. is_at_work after k t ≡ true) (same_run_pid pid q thread t x.1)
        (subst (λ u. is_at_work after pid u ≡ true) (same_run_thread pid q thread t x.1) new)
    works h q t (inr x) = stay q t (f.works h q t x.1)

    alone : (a b q : ℕ) (t : Option ℕ) → RunsEither hart a pid thread q t records → RunsEither hart b pid thread q t records → a ≡ b
    alone a b q t (inl x) (inl y) = x.0 ∙ sym y.0
    alone a b q t (inl x) (inr y) = absurd (none b (y.1 ∙ ap (λ (r : HartRecord). Some r) (sym x.1)))
    alone a b q t (inr x) (inl y) = absurd (none a (x.1 ∙ ap (λ (r : HartRecord). Some r) (sym y.1)))
    alone a b q t (inr x) (inr y) = f.alone a b q t x.1 y.1

    before : (h q : ℕ) → ((h ≡ hart) × (Runs pid thread ≡ Stopped q)) ⊎ ((h ≢ hart) × (slice_get records h ≡ Some (Stopped q))) → slice_get records h ≡ Some (Stopped q)
    before h q (inl x) = absurd (let e = x.1 in let z : ⊥ = cc in z)
    before h q (inr x) = x.1

-- ---- the plan
pub idle_is : (o : Option ℕ) → is_none o ≡ false → o ≡ Some (unwrap_or o 0)
idle_is None e = absurd (let z : ⊥ = grind (arith, e) in z)
idle_is (Some hart) e = refl

pub runs_itself : (pid : ℕ) (thread : Option ℕ) → runs pid (Runs pid thread) ≡ true
runs_itself pid thread = grind (arith, nat_tests)

-- a thread begins in a process with the topmost table that it has
pub start_fits : (k : KernelState) (p : Process) (caller hart : ℕ) (thread : Option ℕ) (start : Start)
    → hart ≢ caller → slice_get k.records hart ≡ Some (Runs start.pid thread) → process_at k start.pid ≡ Some p → start.root ≡ root_frame p.space
    → start.levels ≡ k.config.levels → start.frames ≡ k.config.frames → StartFits k caller hart start
start_fits k p caller hart thread start n r e root levels frames = record {
  other = n;
  runs = ap (runs_at start.pid) r ∙ runs_itself start.pid thread;
  root = root ∙ sym (ap root_in e);
  levels = levels;
  frames = frames;
}

-- an idle hart is not the caller's
pub idle_other : (records : List HartRecord) (hart caller pid : ℕ) (thread : Option ℕ) → slice_get records hart ≡ Some Idle → slice_get records caller ≡ Some (Runs pid thread) → hart ≢ caller
idle_other records hart caller pid thread e f same = let g = sym e ∙ ap (slice_get records) same ∙ f in cc

abbrev the_start : KernelState → Calling → Process → ℕ → ℕ → ℕ → Start
the_start k c p pc sp arg = spawn_start k.config c.pid (root_frame p.space) pc sp arg

spawn_made_owed : (words : List ℕ) (k : KernelState) (c : Calling) (p : Process) (pc sp arg hart : ℕ) → Asks words k c → process_at k c.pid ≡ Some p
    → slice_get k.records hart ≡ Some Idle → length k.threads < 4096
    → Owed words c (spawn_made hart (new_number k.threads) c.pid (the_start k c p pc sp arg) k)
spawn_made_owed words k c p pc sp arg hart a e i l = record {
  sizes = record {
    config = a.sizes.config;
    memory = a.sizes.memory;
    free = a.sizes.free;
    regions = a.sizes.regions;
    records = length-put k.records hart (Runs c.pid (Some (new_number k.threads))) ∙ a.sizes.records;
    processes = a.sizes.processes;
    threads = (let n = length-append k.threads (record { pid = c.pid; value = None } ∷ []) in omega (arith, n, l));
    journal = a.sizes.journal;
    output = (let x : outs (k.jobs ++ Tell hart ∷ []) ≡ outs k.jobs = outs-push k.jobs (Tell hart ∷ []) refl in let y = a.sizes.output in omega (arith, x, y));
    peak = a.sizes.peak;
  };
  room = a.waits.room;
  memory = more_memory words (memory_of k) (closes_for c.pid Keeps) (Tell hart ∷ []) a.waits.jobs (tt, tt) (closes_nothing words (memory_of k) c.pid a.memory);
  records = records_more k.processes k.threads (spawned c.pid k.threads) k.records hart c.pid (Some (new_number k.threads)) a.records (caller_lives words k c a)
      (works_more k.threads (record { pid = c.pid; value = None })) (works_new k.threads c.pid)
      (λ h g. (let z = sym (a.records.works h c.pid (Some (new_number k.threads)) g) ∙ no_thread_yet k.threads c.pid in let w : ⊥ = grind (arith, z) in w))
      within;
  manned = λ q l n. manned_put k.records hart q Idle (Runs c.pid (Some (new_number k.threads))) i (λ t x. (let z : ⊥ = cc in z)) (a.manned q l n);
  lives = caller_lives words k c a;
  caller = get-put_other k.records hart c.hart (Runs c.pid (Some (new_number k.threads))) other ∙ a.waits.caller;
  jobs = more_writes (HasAlone k.regions (process_at k c.pid)) k.jobs (Tell hart ∷ []) a.waits.jobs (tt, tt);
  effect = (
    refl,
    start_fits (spawn_made hart (new_number k.threads) c.pid (the_start k c p pc sp arg) k).kernel p c.hart hart (Some (new_number k.threads)) (the_start k c p pc sp arg)
        other (get-put_same k.records hart Idle (Runs c.pid (Some (new_number k.threads))) i) e refl refl refl,
  );
}
  where
    other : hart ≢ c.hart
    other = idle_other k.records hart c.hart c.pid c.thread i a.waits.caller

    within : (place : ℕ) (t : Thread) → slice_get (spawned c.pid k.threads) place ≡ Some t → t.pid < length k.processes
    within place t g = go (get-either k.threads (record { pid = c.pid; value = None }) place t g)
      where
        go : (slice_get k.threads place ≡ Some t) ⊎ ((place ≡ length k.threads) × (record { pid = c.pid; value = None } ≡ t)) → t.pid < length k.processes
        go (inl x) = a.records.spawned place t x
        go (inr x) = subst (λ (y : Thread). y.pid < length k.processes) x.1 (living_within k.processes c.pid (caller_lives words k c a))

none_hold : (b d : Bool) (x y : Answer) → first_reason (reason b x ∷ reason d y ∷ []) ≡ None → (b ≡ false) × (d ≡ false)
none_hold true d x y e = absurd (let z : ⊥ = grind (arith, e) in z)
none_hold false true x y e = absurd (let z : ⊥ = grind (arith, e) in z)
none_hold false false x y e = (refl, refl)

below : (n : ℕ) → not (nat_lt n 4096) ≡ false → n < 4096
below n e = grind (arith, nat_tests, e)

pub spawn_owed : (words : List ℕ) (k : KernelState) (c : Calling) (p : Process) (pc sp arg : ℕ) → Asks words k c → process_at k c.pid ≡ Some p
    → Owed words c (planned_unless (refusal_of (calls.Spawn pc sp arg) p k) k (spawn_done c p pc sp arg k))
spawn_owed words k c p pc sp arg a e = go (refusal_of (calls.Spawn pc sp arg) p k) refl
  where
    go : (r : Option Answer) → refusal_of (calls.Spawn pc sp arg) p k ≡ r → Owed words c (planned_unless r k (spawn_done c p pc sp arg k))
    go (Some answer) f = answered_owed words k c answer a (first_no_end (no_hart k ∷ no_thread k ∷ []) answer (refl, (refl, tt)) f)
    go None f =
        let n = none_hold (is_none (idle_hart k.records)) (not (has_room k.threads)) answers.NoHart answers.NoThread f in
        spawn_made_owed words k c p pc sp arg (new_hart k) a e (idle_there k.records (new_hart k) (idle_is (idle_hart k.records) n.0)) (below (length k.threads) n.1)
