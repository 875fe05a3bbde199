-- Calls that end a process or a thread.
use Rattle.std.proofs.Common.{ℕ, zero, suc, ◌-◌, ◌≡◌, ◌≢◌, ◌<◌, ◌≤◌, ◌==◌, ◌⊎◌, inl, inr, Bool, true, false, cond, Option, Some, None, option_map, List, [], ◌∷◌, length, map, slice_get, slice_set, arith, refl, ap, sym, ◌∙◌, subst}
use Rattle.std.proofs.lemmas.Bool.Decides.{nat_tests}
use Rattle.std.proofs.lemmas.Option.{slice_get_within, slice_get-map}
use Rattle.osc_parts.specs.Jobs.{AllWriteWhere}
use Rattle.osc_calls.specs.declared.Thread.{Thread}
use Rattle.osc_calls.specs.declared.Report.{Report}
use Rattle.osc_calls.specs.declared.HartRecord.{HartRecord}
use Rattle.osc_calls.specs.declared.HartRecord.TheVariants.{Idle, Runs, Stopped}
use Rattle.osc_calls.specs.Threads.{thread_at, put_value, thread_done}
use Rattle.osc_calls.specs.Kernel.{KernelState, Process, Calling, process_at, is_last}
use Rattle.osc_calls.specs.ProcessPlans.{record_stopped, records_ended, process_ends, value_left, done_by}
use Rattle.osc_settled.specs.Memory.{memory_of}
use Rattle.osc_settled.specs.Records.{is_living, goes_on, is_at_work, RecordsFit, IsManned}
use Rattle.osc_settled.specs.UnderWay.{HasAlone}
use Rattle.osc_settled.proofs.Manned.{manned_put, manned_ended, manned_rest, runs_other}
use Rattle.osc_settled.proofs.Lists.{get-put_same, get-put_other, length-put, some_same}
use Rattle.osc_settled.proofs.Commits.{Owed}
use Rattle.osc_settled.proofs.Outcomes.{Asks, caller_lives, closes_nothing}

-- ---- records
-- a record in a list in which one was put
pub put_at : (records : List HartRecord) (hart h : ℕ) (new r : HartRecord) → slice_get (slice_set records hart new) h ≡ Some r
    → ((h ≡ hart) × (new ≡ r)) ⊎ ((h ≢ hart) × (slice_get records h ≡ Some r))
put_at records hart h new r e = go (hart == h) refl
  where
    put_there : (xs : List HartRecord) (i : ℕ) → slice_get (slice_set xs i new) i ≡ Some r → new ≡ r
    put_there [] i g = absurd (let z : ⊥ = grind (arith, g) in z)
    put_there (x ∷ xs) zero g = some_same new r g
    put_there (x ∷ xs) (suc i) g = put_there xs i g

    go : (b : Bool) → (hart == h) ≡ b → ((h ≡ hart) × (new ≡ r)) ⊎ ((h ≢ hart) × (slice_get records h ≡ Some r))
    go true d =
        let same : h ≡ hart = grind (arith, nat_tests, d) in
        inl (same, put_there records hart (subst (λ j. slice_get (slice_set records hart new) j ≡ Some r) same e))
    go false d =
        let n : hart ≢ h = grind (arith, nat_tests, d) in
        inr ((λ g. n (sym g)), sym (get-put_other records hart h new n) ∙ e)

-- a record from which another was made
pub record Was (change : HartRecord → HartRecord) (records : List HartRecord) (h : ℕ) (r : HartRecord) : Type 0 where
  pub kept : HartRecord
  pub at : slice_get records h ≡ Some kept
  pub is : change kept ≡ r

was : (change : HartRecord → HartRecord) (records : List HartRecord) (h : ℕ) (r : HartRecord) → slice_get (map change records) h ≡ Some r → Was change records h r
was change [] h r e = absurd (let z : ⊥ = grind (arith, e) in z)
was change (x ∷ records) zero r e = record { kept = x; at = refl; is = some_same (change x) r e }
was change (x ∷ records) (suc h) r e = let w = was change records h r e in record { kept = w.kept; at = w.at; is = w.is }

-- a hart that still runs a thread ran it before, of another process
stopped_runs : (pid q : ℕ) (t : Option ℕ) (kept : HartRecord) → record_stopped pid kept ≡ Runs q t → (kept ≡ Runs q t) × (pid ≢ q)
stopped_runs pid q t Idle e = absurd (let z : ⊥ = cc in z)
stopped_runs pid q t (Stopped other) e = absurd (let z : ⊥ = cc in z)
stopped_runs pid q t (Runs other thread) e = go (other == pid) refl e
  where
    go : (b : Bool) → (other == pid) ≡ b → cond b (Stopped pid) (Runs other thread) ≡ Runs q t → (Runs other thread ≡ Runs q t) × (pid ≢ q)
    go true d g = absurd (let z : ⊥ = cc in z)
    go false d g = let n : other ≢ pid = grind (arith, nat_tests, d) in let same : other ≡ q = cc in (g, λ x. n (same ∙ sym x))

stopped_stopped : (pid q : ℕ) (kept : HartRecord) → record_stopped pid kept ≡ Stopped q → (kept ≡ Stopped q) ⊎ (pid ≡ q)
stopped_stopped pid q Idle e = absurd (let z : ⊥ = cc in z)
stopped_stopped pid q (Stopped other) e = inl e
stopped_stopped pid q (Runs other thread) e = go (other == pid) e
  where
    go : (b : Bool) → cond b (Stopped pid) (Runs other thread) ≡ Stopped q → (Runs other thread ≡ Stopped q) ⊎ (pid ≡ q)
    go true g = inr (let same : pid ≡ q = cc in same)
    go false g = inl g

pub record StillRuns (hart pid h q : ℕ) (t : Option ℕ) (records : List HartRecord) : Type 0 where
  pub hart_is : h ≢ hart
  pub at : slice_get records h ≡ Some (Runs q t)
  pub other : pid ≢ q

pub ended_runs : (hart pid h q : ℕ) (t : Option ℕ) (records : List HartRecord) → slice_get (records_ended hart pid records) h ≡ Some (Runs q t) → StillRuns hart pid h q t records
ended_runs hart pid h q t records e = go (put_at (map (record_stopped pid) records) hart h Idle (Runs q t) e)
  where
    go : ((h ≡ hart) × (Idle ≡ Runs q t)) ⊎ ((h ≢ hart) × (slice_get (map (record_stopped pid) records) h ≡ Some (Runs q t))) → StillRuns hart pid h q t records
    go (inl x) = absurd (let y = x.1 in let z : ⊥ = cc in z)
    go (inr x) =
        let w = was (record_stopped pid) records h (Runs q t) x.1 in
        let s = stopped_runs pid q t w.kept w.is in
        record { hart_is = x.0; at = w.at ∙ ap (λ (r : HartRecord). Some r) s.0; other = s.1 }

ended_stopped : (hart pid h q : ℕ) (records : List HartRecord) → slice_get (records_ended hart pid records) h ≡ Some (Stopped q) → (slice_get records h ≡ Some (Stopped q)) ⊎ (pid ≡ q)
ended_stopped hart pid h q records e = go (put_at (map (record_stopped pid) records) hart h Idle (Stopped q) e)
  where
    by : (kept : HartRecord) → slice_get records h ≡ Some kept → (kept ≡ Stopped q) ⊎ (pid ≡ q) → (slice_get records h ≡ Some (Stopped q)) ⊎ (pid ≡ q)
    by kept at (inl x) = inl (at ∙ ap (λ (r : HartRecord). Some r) x)
    by kept at (inr x) = inr x

    go : ((h ≡ hart) × (Idle ≡ Stopped q)) ⊎ ((h ≢ hart) × (slice_get (map (record_stopped pid) records) h ≡ Some (Stopped q))) → (slice_get records h ≡ Some (Stopped q)) ⊎ (pid ≡ q)
    go (inl x) = absurd (let y = x.1 in let z : ⊥ = cc in z)
    go (inr x) = let w = was (record_stopped pid) records h (Stopped q) x.1 in by w.kept w.at (stopped_stopped pid q w.kept w.is)

length-records : (hart pid : ℕ) (records : List HartRecord) → length (records_ended hart pid records) ≡ length records
length-records hart pid records = length-put (map (record_stopped pid) records) hart Idle ∙ length-stopped records
  where
    length-stopped : (xs : List HartRecord) → length (map (record_stopped pid) xs) ≡ length xs
    length-stopped [] = refl
    length-stopped (x ∷ xs) = let e = length-stopped xs in omega (arith, e)

-- ---- threads
-- the threads with what the caller's leaves
abbrev pub threads_left : Option ℕ → ℕ → List Thread → List Thread
threads_left None value threads = threads
threads_left (Some number) value threads = thread_done number value threads

length-left : (thread : Option ℕ) (value : ℕ) (threads : List Thread) → length (threads_left thread value threads) ≡ length threads
length-left None value threads = refl
length-left (Some number) value threads = go (thread_at threads number)
  where
    go : (t : Option Thread) → length (put_value (number - 1) value t threads) ≡ length threads
    go None = refl
    go (Some t) = length-put threads (number - 1) (record { pid = t.pid; value = Some value })

-- each thread is one of the same process
left_pid : (thread : Option ℕ) (value place : ℕ) (threads : List Thread) (t : Thread) (n : ℕ)
    → ((i : ℕ) (x : Thread) → slice_get threads i ≡ Some x → x.pid < n) → slice_get (threads_left thread value threads) place ≡ Some t → t.pid < n
left_pid None value place threads t n h e = h place t e
left_pid (Some zero) value place threads t n h e = h place t e
left_pid (Some (suc i)) value place threads t n h e = go (slice_get threads i) refl e
  where
    put : (x : Thread) → x.pid < n → (b : Bool) → (i == place) ≡ b → slice_get (slice_set threads i (record { pid = x.pid; value = Some value })) place ≡ Some t
        → slice_get threads i ≡ Some x → t.pid < n
    put x l true d g at =
        let same : place ≡ i = grind (arith, nat_tests, d) in
        let is = some_same (record { pid = x.pid; value = Some value }) t (sym (get-put_same threads i x (record { pid = x.pid; value = Some value }) at) ∙ subst (λ j. slice_get (slice_set threads i (record { pid = x.pid; value = Some value })) j ≡ Some t) same g) in
        subst (λ (y : Thread). y.pid < n) is l
    put x l false d g at =
        let m : i ≢ place = grind (arith, nat_tests, d) in
        h place t (sym (get-put_other threads i place (record { pid = x.pid; value = Some value }) m) ∙ g)

    go : (o : Option Thread) → slice_get threads i ≡ o → slice_get (put_value (suc i - 1) value o threads) place ≡ Some t → t.pid < n
    go None at g = h place t g
    go (Some x) at g = put x (h i x at) (i == place) refl (subst (λ j. slice_get (slice_set threads j (record { pid = x.pid; value = Some value })) place ≡ Some t) (let z : suc i - 1 ≡ i = omega arith in z) g) at

-- another thread than the caller's is at work as before
left_works : (thread other : Option ℕ) (value q : ℕ) (threads : List Thread) → thread ≢ other → is_at_work (threads_left thread value threads) q other ≡ is_at_work threads q other
left_works thread None value q threads n = refl
left_works None (Some o) value q threads n = refl
left_works (Some zero) (Some o) value q threads n = refl
left_works (Some (suc i)) (Some zero) value q threads n = refl
left_works (Some (suc i)) (Some (suc j)) value q threads n = go (slice_get threads i)
  where
    ne : i ≢ j
    ne e = n (ap (λ k. Some (suc k)) e)

    go : (o : Option Thread) → goes_on q (slice_get (put_value (suc i - 1) value o threads) j) ≡ goes_on q (slice_get threads j)
    go None = refl
    go (Some x) = ap (goes_on q) (ap (λ k. slice_get (slice_set threads k (record { pid = x.pid; value = Some value })) j) (let z : suc i - 1 ≡ i = omega arith in z)
        ∙ get-put_other threads i j (record { pid = x.pid; value = Some value }) ne)

same_pid : (pid q : ℕ) (o : Option Thread) → goes_on pid o ≡ true → goes_on q o ≡ true → pid ≡ q
same_pid pid q None a b = absurd (let z : ⊥ = grind (arith, a) in z)
same_pid pid q (Some t) a b = grind (arith, nat_tests, a, b)

-- a thread that another hart runs is not the caller's
pub other_thread : (ps : List Process) (threads : List Thread) (records : List HartRecord) (ends : Option ℕ) (hart pid h q value : ℕ) (thread t : Option ℕ)
    → RecordsFit ps threads records ends → slice_get records hart ≡ Some (Runs pid thread) → slice_get records h ≡ Some (Runs q t) → h ≢ hart
    → is_at_work (threads_left thread value threads) q t ≡ true
other_thread ps threads records ends hart pid h q value None t f e g n = f.works h q t g
other_thread ps threads records ends hart pid h q value (Some i) None f e g n = refl
other_thread ps threads records ends hart pid h q value (Some i) (Some j) f e g n =
    left_works (Some i) (Some j) value q threads different ∙ f.works h q (Some j) g
  where
    different : Some i ≢ Some j
    different s =
        let same : j ≡ i = sym (some_same i j s) in
        let g' : slice_get records h ≡ Some (Runs q (Some i)) = subst (λ k. slice_get records h ≡ Some (Runs q (Some k))) same g in
        let one : pid ≡ q = same_pid pid q (thread_at threads i) (f.works hart pid (Some i) e) (f.works h q (Some i) g') in
        n (f.alone h hart q (Some i) g' (subst (λ k. slice_get records hart ≡ Some (Runs k (Some i))) one e))

-- ---- the records after
pub living_within : (ps : List Process) (pid : ℕ) → is_living (slice_get ps pid) ≡ true → pid < length ps
living_within ps pid l = there (slice_get ps pid) refl l
  where
    there : (o : Option Process) → slice_get ps pid ≡ o → is_living o ≡ true → pid < length ps
    there None g m = absurd (let z : ⊥ = grind (arith, m) in z)
    there (Some p) g m = slice_get_within ps pid p g

-- the threads that others run still are at work, and each is of a process
pub record ThreadsStay (ps : List Process) (records : List HartRecord) (hart : ℕ) (after : List Thread) : Type 0 where
  pub works : (h q : ℕ) (t : Option ℕ) → slice_get records h ≡ Some (Runs q t) → h ≢ hart → is_at_work after q t ≡ true
  pub spawned : (place : ℕ) (t : Thread) → slice_get after place ≡ Some t → t.pid < length ps

pub threads_stay : (ps : List Process) (threads : List Thread) (records : List HartRecord) (ends : Option ℕ) (hart : ℕ)
    → RecordsFit ps threads records ends → ThreadsStay ps records hart threads
threads_stay ps threads records ends hart f = record { works = λ h q t g n. f.works h q t g; spawned = f.spawned }

pub threads_stay_left : (ps : List Process) (threads : List Thread) (records : List HartRecord) (ends : Option ℕ) (hart pid value : ℕ) (thread : Option ℕ)
    → RecordsFit ps threads records ends → slice_get records hart ≡ Some (Runs pid thread) → ThreadsStay ps records hart (threads_left thread value threads)
threads_stay_left ps threads records ends hart pid value thread f e = record {
  works = λ h q t g n. other_thread ps threads records ends hart pid h q value thread t f e g n;
  spawned = λ place t g. left_pid thread value place threads t (length ps) f.spawned g;
}

-- a process ends
pub records_gone : (ps : List Process) (threads after : List Thread) (records : List HartRecord) (hart pid : ℕ) (thread : Option ℕ)
    → RecordsFit ps threads records None → slice_get records hart ≡ Some (Runs pid thread) → ThreadsStay ps records hart after
    → RecordsFit ps after (records_ended hart pid records) (Some pid)
records_gone ps threads after records hart pid thread f e k = record {
  lives = λ h q t g. (let s = ended_runs hart pid h q t records g in f.lives h q t s.at);
  goes_on = λ h q t g. (let s = ended_runs hart pid h q t records g in λ same. s.other (some_same pid q same));
  works = λ h q t g. (let s = ended_runs hart pid h q t records g in k.works h q t s.at s.hart_is);
  alone = λ a b q t g i. (let s = ended_runs hart pid a q t records g in let r = ended_runs hart pid b q t records i in f.alone a b q t s.at r.at);
  known = λ h q g. known h q (ended_stopped hart pid h q records g);
  stopped = λ h q g alive. stopped h q alive (ended_stopped hart pid h q records g);
  spawned = k.spawned;
}
  where
    known : (h q : ℕ) → (slice_get records h ≡ Some (Stopped q)) ⊎ (pid ≡ q) → q < length ps
    known h q (inl g) = f.known h q g
    known h q (inr same) = subst (λ k. k < length ps) same (living_within ps pid (f.lives hart pid thread e))

    stopped : (h q : ℕ) → is_living (slice_get ps q) ≡ true → (slice_get records h ≡ Some (Stopped q)) ⊎ (pid ≡ q) → Some pid ≡ Some q
    stopped h q alive (inl g) = absurd (let z = f.stopped h q g alive in let w : ⊥ = grind (arith, z) in w)
    stopped h q alive (inr same) = ap (λ k. Some k) same

-- a hart is idle
idle_runs : (hart h q : ℕ) (t : Option ℕ) (records : List HartRecord) → slice_get (slice_set records hart Idle) h ≡ Some (Runs q t) → (h ≢ hart) × (slice_get records h ≡ Some (Runs q t))
idle_runs hart h q t records e = go (put_at records hart h Idle (Runs q t) e)
  where
    go : ((h ≡ hart) × (Idle ≡ Runs q t)) ⊎ ((h ≢ hart) × (slice_get records h ≡ Some (Runs q t))) → (h ≢ hart) × (slice_get records h ≡ Some (Runs q t))
    go (inl x) = absurd (let y = x.1 in let z : ⊥ = cc in z)
    go (inr x) = x

idle_stopped : (hart h q : ℕ) (records : List HartRecord) → slice_get (slice_set records hart Idle) h ≡ Some (Stopped q) → slice_get records h ≡ Some (Stopped q)
idle_stopped hart h q records e = go (put_at records hart h Idle (Stopped q) e)
  where
    go : ((h ≡ hart) × (Idle ≡ Stopped q)) ⊎ ((h ≢ hart) × (slice_get records h ≡ Some (Stopped q))) → slice_get records h ≡ Some (Stopped q)
    go (inl x) = absurd (let y = x.1 in let z : ⊥ = cc in z)
    go (inr x) = x.1

pub records_idle : (ps : List Process) (threads after : List Thread) (records : List HartRecord) (ends : Option ℕ) (hart : ℕ)
    → RecordsFit ps threads records ends → ThreadsStay ps records hart after → RecordsFit ps after (slice_set records hart Idle) ends
records_idle ps threads after records ends hart f k = record {
  lives = λ h q t g. f.lives h q t (idle_runs hart h q t records g).1;
  goes_on = λ h q t g. f.goes_on h q t (idle_runs hart h q t records g).1;
  works = λ h q t g. (let s = idle_runs hart h q t records g in k.works h q t s.1 s.0);
  alone = λ a b q t g i. f.alone a b q t (idle_runs hart a q t records g).1 (idle_runs hart b q t records i).1;
  known = λ h q g. f.known h q (idle_stopped hart h q records g);
  stopped = λ h q g alive. f.stopped h q (idle_stopped hart h q records g) alive;
  spawned = k.spawned;
}

-- ---- who still has a hart
no_end : (q : ℕ) → None ≢ Some q
no_end q x = let z : ⊥ = grind (arith, x) in z

manned_left : (records : List HartRecord) (hart pid q : ℕ) (thread : Option ℕ) (b : Bool) → (pid == q) ≡ b → is_last records pid ≡ false → slice_get records hart ≡ Some (Runs pid thread)
    → IsManned records q → IsManned (slice_set records hart Idle) q
manned_left records hart pid q thread true d last e m =
    let same : pid ≡ q = grind (arith, nat_tests, d) in subst (λ x. IsManned (slice_set records hart Idle) x) same (manned_rest records hart pid thread last e)
manned_left records hart pid q thread false d last e m =
    let n : pid ≢ q = grind (arith, nat_tests, d) in manned_put records hart q (Runs pid thread) Idle e (λ t. runs_other pid q thread t n) m

-- ---- the plans
-- the kernel with other threads and reports
abbrev pub with_threads : List Thread → List Report → KernelState → KernelState
with_threads threads reports k = record k { threads = threads; reports = reports }

pub ends_owed : (words : List ℕ) (k : KernelState) (c : Calling) (status : ℕ) (after : List Thread) (reports : List Report)
    → Asks words k c → ThreadsStay k.processes k.records c.hart after → length after ≡ length k.threads
    → Owed words c (process_ends c status (with_threads after reports k))
ends_owed words k c status after reports a stay l = record {
  sizes = record {
    config = a.sizes.config;
    memory = a.sizes.memory;
    free = a.sizes.free;
    regions = a.sizes.regions;
    records = length-records c.hart c.pid k.records ∙ a.sizes.records;
    processes = a.sizes.processes;
    threads = subst (λ n. n ≤ 4096) (sym l) a.sizes.threads;
    journal = a.sizes.journal;
    output = a.sizes.output;
    peak = a.sizes.peak;
  };
  room = a.waits.room;
  memory = closes_nothing words (memory_of k) c.pid a.memory;
  records = records_gone k.processes k.threads after k.records c.hart c.pid c.thread a.records a.waits.caller stay;
  manned = λ q l n. manned_ended k.records c.hart c.pid q c.thread a.waits.caller (λ x. n (ap (λ y. Some y) x)) (a.manned q l (no_end q));
  lives = caller_lives words k c a;
  caller = get-put_same (map (record_stopped c.pid) k.records) c.hart (record_stopped c.pid (Runs c.pid c.thread)) Idle
      (slice_get-map (record_stopped c.pid) k.records c.hart ∙ ap (option_map (record_stopped c.pid)) a.waits.caller);
  jobs = subst (λ js. AllWriteWhere (HasAlone k.regions (process_at k c.pid)) js) (sym a.waits.jobs) tt;
  effect = refl;
}

-- a thread that is not its process's last
leaves_owed : (words : List ℕ) (k : KernelState) (c : Calling) (after : List Thread) → is_last k.records c.pid ≡ false
    → Asks words k c → ThreadsStay k.processes k.records c.hart after → length after ≡ length k.threads
    → Owed words c (done_by false c (with_threads after k.reports k))
leaves_owed words k c after last a stay l = record {
  sizes = record {
    config = a.sizes.config;
    memory = a.sizes.memory;
    free = a.sizes.free;
    regions = a.sizes.regions;
    records = length-put k.records c.hart Idle ∙ a.sizes.records;
    processes = a.sizes.processes;
    threads = subst (λ n. n ≤ 4096) (sym l) a.sizes.threads;
    journal = a.sizes.journal;
    output = a.sizes.output;
    peak = a.sizes.peak;
  };
  room = a.waits.room;
  memory = closes_nothing words (memory_of k) c.pid a.memory;
  records = records_idle k.processes k.threads after k.records None c.hart a.records stay;
  manned = λ q l n. manned_left k.records c.hart c.pid q c.thread (c.pid == q) refl last a.waits.caller (a.manned q l (no_end q));
  lives = caller_lives words k c a;
  caller = get-put_same k.records c.hart (Runs c.pid c.thread) Idle a.waits.caller;
  jobs = subst (λ js. AllWriteWhere (HasAlone k.regions (process_at k c.pid)) js) (sym a.waits.jobs) tt;
  effect = refl;
}

left_is : (thread : Option ℕ) (value : ℕ) (k : KernelState) → value_left thread value k ≡ with_threads (threads_left thread value k.threads) k.reports k
left_is None value k = refl
left_is (Some number) value k = refl

pub done_owed : (words : List ℕ) (k : KernelState) (c : Calling) (value : ℕ) (last : Bool) → is_last k.records c.pid ≡ last → Asks words k c → Owed words c (done_by last c (value_left c.thread value k))
done_owed words k c value last is a = subst (λ (x : KernelState). Owed words c (done_by last c x)) (sym (left_is c.thread value k)) (go last is)
  where
    stay : ThreadsStay k.processes k.records c.hart (threads_left c.thread value k.threads)
    stay = threads_stay_left k.processes k.threads k.records None c.hart c.pid value c.thread a.records a.waits.caller

    go : (b : Bool) → is_last k.records c.pid ≡ b → Owed words c (done_by b c (with_threads (threads_left c.thread value k.threads) k.reports k))
    go true e = ends_owed words k c 0 (threads_left c.thread value k.threads) k.reports a stay (length-left c.thread value k.threads)
    go false e = leaves_owed words k c (threads_left c.thread value k.threads) e a stay (length-left c.thread value k.threads)
