-- Each step of the kernel keeps what the journal tells, and so it is all along each run.
use Rattle.std.proofs.Common.{ℕ, zero, suc, ◌≡◌, ◌≢◌, ◌<◌, ◌≤◌, ◌==◌, ◌⊎◌, inl, inr, nat_lt, not, Bool, true, false, cond, Option, Some, None, is_some, List, [], ◌∷◌, ◌++◌, length, map, slice_get, slice_set, sum_by, arith, refl, sym, ap, subst, ◌∙◌}
use Rattle.std.proofs.lemmas.Bool.Decides.{nat_tests}
use Rattle.std.proofs.lemmas.List.{append-nil, length-map}
use Rattle.std.proofs.lemmas.List.Sums.{sum_by-append, sum_by-cons}
use Rattle.osc_word.specs.declared.calls.Call.{Call}
use Rattle.osc_word.specs.declared.calls.Call.TheVariants as calls
use Rattle.osc_word.specs.declared.calls.Answer.{Answer}
use Rattle.osc_word.specs.declared.calls.Answer.TheVariants as answers
use Rattle.osc_word.specs.declared.calls.Request.{Request}
use Rattle.osc_word.specs.declared.steps.Label.{Label}
use Rattle.osc_space.specs.Header.{Found}
use Rattle.osc_calls.specs.declared.Begun.{Begun}
use Rattle.osc_calls.specs.declared.Begun.TheVariants as begun
use Rattle.osc_calls.specs.declared.HartRecord.{HartRecord}
use Rattle.osc_calls.specs.declared.HartRecord.TheVariants.{Idle, Runs, Stopped}
use Rattle.osc_calls.specs.Kernel.{KernelState, Process, Calling, Committed, Effect, Nothing, Clears, Starts, Ends, UnderWay, Quiet, Retrying, Leaving, Waiting, Returning, process_at, has_journal_room, runs}
use Rattle.osc_calls.specs.Requests.{calling_of, meant, is_ready}
use Rattle.osc_calls.specs.Planned.{Planned}
use Rattle.osc_calls.specs.Plan.{plan_of, journal_entry, committed, plan_by, plan_waiting, plan}
use Rattle.osc_calls.specs.Begin.{no_words, first_step, begun_in, begin_as, begin_call, begin}
use Rattle.osc_calls.specs.JobDone.{job_done}
use Rattle.osc_calls.specs.Finish.{record_left, hart_left, settled, returned, finish_by, finish}
use Rattle.osc_settled.specs.Records.{is_living}
use Rattle.osc_settled.specs.KernelFits.{KernelFits}
use Rattle.osc_settled.proofs.Lists.{get-put_same, get-put_other, length-put, sum-put, some_same}
use Rattle.osc_settled.proofs.Commits.{lives_none}
use Rattle.osc_settled.proofs.Spawning.{get-either}
use Rattle.osc_settled.proofs.Outcomes.{Asks, asks, caller_lives}
use Rattle.osc_settled.proofs.Beginning.{at_rest, asks_as}
use Rattle.osc_machine.specs.Replay.{Ledger, told_by, child_of, ledger_at, replay}
use Rattle.osc_machine.specs.Agreements.{Account, account_told, account_kept}
use Rattle.osc_safe.specs.KernelSteps.{KernelStep, Kept, Begins, Plans, EndsJob, Finishes}
use Rattle.osc_ledger.specs.Replays.{processes_then, AccountsFit, ThreadsFit, SpawnedFit, ReplayFits, StepsKeepReplay}
use Rattle.osc_ledger.proofs.Returned.{account_after, replay-more, account-at, kept-ledger, returned-accounts, commit-accounts}
use Rattle.osc_ledger.proofs.CallTells.{account-row}
use Rattle.osc_ledger.proofs.ThreadTells.{running, ThreadRow, put-runs, thread-row}

-- ---- ledgers after an entry
child-few : (call : Call) (a : Answer) (l : Ledger) → length (child_of call a l) ≤ 1
child-few calls.Fork (answers.Number child) l = omega arith
child-few _ _ l = omega arith

child-spawned : (call : Call) (a : Answer) (l : Ledger) → sum_by (λ (x : Ledger). x.spawned) (child_of call a l) ≡ 0
child-spawned calls.Fork (answers.Number child) l = sum_by-cons (λ (x : Ledger). x.spawned) (record l { threads = 1; spawned = 0 }) []
child-spawned _ _ l = refl

at-either : (xs ch : List Ledger) (q : ℕ) (m : Ledger) → length ch ≤ 1 → slice_get (xs ++ ch) q ≡ Some m → (slice_get xs q ≡ Some m) ⊎ ((q ≡ length xs) × (ch ≡ m ∷ []))
at-either xs [] q m l e = inl (ap (λ zs. slice_get zs q) (sym (append-nil xs)) ∙ e)
at-either xs (y ∷ []) q m l e = go (get-either xs y q m e)
  where
    go : (slice_get xs q ≡ Some m) ⊎ ((q ≡ length xs) × (y ≡ m)) → (slice_get xs q ≡ Some m) ⊎ ((q ≡ length xs) × (y ∷ [] ≡ m ∷ []))
    go (inl g) = inl g
    go (inr g) = inr (g.0, ap (λ z. z ∷ []) g.1)
at-either xs (y ∷ z ∷ ch) q m l e = absurd (let w : ⊥ = omega (arith, l) in w)

get-within : {X : Type 0} (xs : List X) (i : ℕ) (x : X) → slice_get xs i ≡ Some x → i < length xs
get-within [] i x e = absurd (let z : ⊥ = grind (arith, e) in z)
get-within (y ∷ xs) zero x e = omega arith
get-within (y ∷ xs) (suc i) x e = let l = get-within xs i x e in omega (arith, l)

ledger-there : (ls : List Ledger) (pid : ℕ) → pid < length ls → slice_get ls pid ≡ Some (ledger_at ls pid)
ledger-there [] pid l = absurd (let z : ⊥ = omega (arith, l) in z)
ledger-there (x ∷ ls) zero l = refl
ledger-there (x ∷ ls) (suc pid) l = ledger-there ls pid (omega (arith, l))

pub same-length : (ls : List Ledger) (ps : List Process) → map account_told ls ≡ map account_kept ps → length ls ≡ length ps
same-length ls ps e = sym (length-map ls account_told) ∙ ap (λ (xs : List Account). length xs) e ∙ length-map ps account_kept

-- ---- a kernel whose call under way is not committed keeps its processes when it is given back
left-processes : (hart : ℕ) (o : Option HartRecord) (k : KernelState) → (hart_left hart o k).processes ≡ k.processes
left-processes hart None k = refl
left-processes hart (Some kept) k = refl

abbrev pub IsUncommitted : UnderWay → Type 0
IsUncommitted (Returning done) = ⊥
IsUncommitted _ = Unit {0}

pub uncommitted : (k : KernelState) → IsUncommitted k.under_way → processes_then k ≡ k.processes
unfolding finish
uncommitted k u = go k.under_way u
  where
    go : (w : UnderWay) → IsUncommitted w → (finish_by w k).kernel.processes ≡ k.processes
    go Quiet v = refl
    go Retrying v = refl
    go (Leaving hart) v = left-processes hart (slice_get k.records hart) k
    go (Waiting c) v = refl
    go (Returning done) v = absurd v

-- ---- two kernels that differ in nothing that is spoken of
record SameTold (k m : KernelState) : Type 0 where
  config : m.config ≡ k.config
  journal : m.journal ≡ k.journal
  threads : length m.threads ≡ length k.threads
  records : (pid : ℕ) → running m.records pid ≡ running k.records pid
  accounts : map account_kept (processes_then m) ≡ map account_kept (processes_then k)

same-replay : (k m : KernelState) → SameTold k m → replay m.config m.journal ≡ replay k.config k.journal
same-replay k m s = ap (λ config. replay config m.journal) s.config ∙ ap (replay k.config) s.journal

-- what is told fits after a step, and the configuration stays
pub record Goes (k m : KernelState) : Type 0 where
  pub fits : ReplayFits m
  pub config : m.config ≡ k.config

told-on : (k m : KernelState) → SameTold k m → ReplayFits k → Goes k m
told-on k m s f =
    let is = same-replay k m s in record {
      fits = record {
        accounts = ap (map account_told) is ∙ f.accounts ∙ sym s.accounts;
        threads = λ pid l at goes. f.threads pid l (ap (λ ls. slice_get ls pid) (sym is) ∙ at) goes ∙ sym (s.records pid);
        spawned = ap (sum_by (λ (l : Ledger). l.spawned)) is ∙ f.spawned ∙ sym s.threads;
      };
      config = s.config;
    }

-- ---- a call that commits
module _ (words : List ℕ) (k : KernelState) (c : Calling) (p : Process) (a : Asks words k c) (here : process_at k c.pid ≡ Some p) (f : ReplayFits k)
    (all : map account_told (replay k.config k.journal) ≡ map account_kept k.processes) (found : Found) where
  abbrev ls : List Ledger
  ls = replay k.config k.journal

  abbrev l : Ledger
  l = ledger_at ls c.pid

  abbrev made : Planned
  made = plan_of found c p k

  abbrev t : Ledger
  t = told_by k.config (length k.journal) c.call made.answer l

  abbrev ch : List Ledger
  ch = child_of c.call made.answer l

  count : length ls ≡ length k.processes
  count = same-length ls k.processes all

  there : slice_get ls c.pid ≡ Some l
  there = ledger-there ls c.pid (let x = count in let y = get-within k.processes c.pid p here in omega (arith, x, y))

  kept : account_told l ≡ account_kept p
  kept = account-at ls k.processes c.pid p all here

  goes-on : l.over ≡ false
  goes-on = ap (λ (x : Account). x.over) kept ∙ ap (λ (s : Option ℕ). is_some s) (lives_none p (process_at k c.pid) here (caller_lives words k c a))

  threads-told : l.threads ≡ running k.records c.pid
  threads-told = f.threads c.pid l there goes-on

  row : ThreadRow k c.pid c.call l made
  row = thread-row words k c p a here found c.call l threads-told

  accounts-on : AccountsFit (committed c made)
  accounts-on = commit-accounts k c p made here all (account-row words k c p a here found c.call l (kept-ledger l p kept) threads-told)

  config-same : made.kernel.config ≡ k.config
  config-same = (account-row words k c p a here found c.call l (kept-ledger l p kept) threads-told).config

  journal-same : made.kernel.journal ≡ k.journal
  journal-same = (account-row words k c p a here found c.call l (kept-ledger l p kept) threads-told).journal

  now : replay made.kernel.config (made.kernel.journal ++ journal_entry c made.answer ∷ []) ≡ slice_set ls c.pid t ++ ch
  now = ap (λ config. replay config (made.kernel.journal ++ journal_entry c made.answer ∷ [])) config-same
      ∙ ap (λ journal. replay k.config (journal ++ journal_entry c made.answer ∷ [])) journal-same
      ∙ replay-more k.config k.journal (journal_entry c made.answer)

  put-length : length (slice_set ls c.pid t) ≡ length k.processes
  put-length = length-put ls c.pid t ∙ count

  threads-on : ThreadsFit (committed c made)
  threads-on pid m at goes = either (at-either (slice_set ls c.pid t) ch pid m (child-few c.call made.answer l) (ap (λ zs. slice_get zs pid) (sym now) ∙ at))
    where
      old : (b : Bool) → (c.pid == pid) ≡ b → slice_get (slice_set ls c.pid t) pid ≡ Some m → m.threads ≡ running made.kernel.records pid
      old true e g =
          let same : c.pid ≡ pid = grind (arith, nat_tests, e) in
          let is : t ≡ m = some_same t m (sym (get-put_same ls c.pid l t there) ∙ ap (slice_get (slice_set ls c.pid t)) same ∙ g) in
          ap (λ (x : Ledger). x.threads) (sym is) ∙ row.caller (ap (λ (x : Ledger). x.over) is ∙ goes) ∙ ap (running made.kernel.records) same
      old false e g =
          let other : c.pid ≢ pid = grind (arith, nat_tests, e) in
          let before : slice_get ls pid ≡ Some m = sym (get-put_other ls c.pid pid t other) ∙ g in
          f.threads pid m before goes ∙ sym (row.others pid (λ s. other (sym s)) (let x = count in let y = get-within ls pid m before in omega (arith, x, y)))

      either : (slice_get (slice_set ls c.pid t) pid ≡ Some m) ⊎ ((pid ≡ length (slice_set ls c.pid t)) × (ch ≡ m ∷ [])) → m.threads ≡ running made.kernel.records pid
      either (inl g) = old (c.pid == pid) refl g
      either (inr g) = row.child m g.1 ∙ ap (running made.kernel.records) (sym (g.0 ∙ put-length))

  spawned-on : SpawnedFit (committed c made)
  spawned-on =
      let is = ap (sum_by (λ (x : Ledger). x.spawned)) now in
      let both = sum_by-append (λ (x : Ledger). x.spawned) (slice_set ls c.pid t) ch in
      let put = sum-put (λ (x : Ledger). x.spawned) ls c.pid l t there in
      let child = child-spawned c.call made.answer l in
      let before = f.spawned in
      let more = row.spawned in
      omega (arith, is, both, put, child, before, more)

  pub commits-on : Goes k (committed c made)
  commits-on = record { fits = record { accounts = accounts-on; threads = threads-on; spawned = spawned-on }; config = config-same }

planned-on : (words : List ℕ) (found : Found) (k : KernelState) (c : Calling) → KernelFits words k → k.under_way ≡ Waiting c → ReplayFits k → Goes k (plan found k).kernel
unfolding plan
planned-on words found k c fits u f =
    subst (λ w. Goes k (plan_waiting found w k).kernel) (sym u) (go (process_at k c.pid) refl)
  where
    go : (o : Option Process) → process_at k c.pid ≡ o → Goes k (plan_by found c o k).kernel
    go None e = absurd (let z = sym (caller_lives words k c (asks words k c fits u)) ∙ ap is_living e in let w : ⊥ = grind (arith, z) in w)
    go (Some p) e =
        commits-on words k c p (asks words k c fits u) e f
        (f.accounts ∙ ap (map account_kept) (uncommitted k (subst IsUncommitted (sym u) tt))) found

-- ---- a hart that takes the kernel
same-taken : (k : KernelState) (u : UnderWay) → IsUncommitted k.under_way → IsUncommitted u → SameTold k (record k { under_way = u })
same-taken k u old new = record {
  config = refl;
  journal = refl;
  threads = refl;
  records = λ pid. refl;
  accounts = ap (map account_kept) (uncommitted (record k { under_way = u }) new ∙ sym (uncommitted k old));
}

pub same-waiting : (k : KernelState) (c : Calling) → IsUncommitted k.under_way → ReplayFits k → ReplayFits (record k { under_way = Waiting c })
same-waiting k c waits f = (told-on k (record k { under_way = Waiting c }) (same-taken k (Waiting c) waits tt) f).fits

pub room-there : (o : Option Process) (c : Calling) (k : KernelState) → begun_in o c k ≡ begun.Planned → has_journal_room k ≡ true
room-there None c k e = absurd (let z : ⊥ = cc in z)
room-there (Some p) c k e = go (is_ready k c.pid c.call) (has_journal_room k) e
  where
    go : (ready room : Bool) → cond (not ready) begun.Again (cond (not room) begun.JournalFull (first_step c p k (meant c.call))) ≡ begun.Planned → room ≡ true
    go false room g = absurd (let z : ⊥ = cc in z)
    go true true g = refl
    go true false g = absurd (let z : ⊥ = cc in z)

-- while the call waits the kernel fits still
pub fits-waiting : (words : List ℕ) (k : KernelState) (c : Calling) → KernelFits words k → k.under_way ≡ Quiet → has_journal_room k ≡ true → slice_get k.records c.hart ≡ Some (Runs c.pid c.thread)
    → KernelFits words (record k { under_way = Waiting c })
fits-waiting words k c f u room e =
    let r = at_rest words k f u in record {
      sizes = record {
        config = r.sizes.config;
        memory = r.sizes.memory;
        free = r.sizes.free;
        regions = r.sizes.regions;
        records = r.sizes.records;
        processes = r.sizes.processes;
        threads = r.sizes.threads;
        journal = r.sizes.journal;
        output = r.sizes.output;
        peak = r.sizes.peak;
      };
      memory = r.memory;
      records = r.records;
      manned = r.manned;
      under_way = record { jobs = r.jobs; room = below (length k.journal) k.config.journal room; caller = e };
    }
  where
    below : (n m : ℕ) → nat_lt n m ≡ true → n < m
    below n m e = grind (arith, nat_tests, e)

begin-on : (words : List ℕ) (hart pc : ℕ) (regs : List ℕ) (asked : Request) (k : KernelState) → KernelFits words k → k.under_way ≡ Quiet → ReplayFits k → Goes k (begin hart regs pc asked k).kernel
unfolding begin
begin-on words hart pc regs asked k fits u f = called (calling_of hart regs pc asked (slice_get k.records hart)) refl
  where
    old : IsUncommitted k.under_way
    old = subst IsUncommitted (sym u) tt

    begun-on : (b : Begun) (c : Calling) → (b ≡ begun.Planned → KernelFits words (record k { under_way = Waiting c })) → Goes k (begin_as b c k).kernel
    begun-on begun.Planned c w =
        let g = planned-on words no_words (record k { under_way = Waiting c }) c (w refl) refl (told-on k (record k { under_way = Waiting c }) (same-taken k (Waiting c) old tt) f).fits in
        record { fits = g.fits; config = g.config }
    begun-on begun.Again c w = told-on k (record k { under_way = Retrying }) (same-taken k Retrying old tt) f
    begun-on begun.JournalFull c w = told-on k (record k { under_way = Retrying }) (same-taken k Retrying old tt) f
    begun-on begun.Gone c w = told-on k (record k { under_way = Leaving c.hart }) (same-taken k (Leaving c.hart) old tt) f
    begun-on begun.Boxes c w = told-on k (record k { under_way = Waiting c }) (same-taken k (Waiting c) old tt) f
    begun-on (begun.Header first second) c w = told-on k (record k { under_way = Waiting c }) (same-taken k (Waiting c) old tt) f

    called : (o : Option Calling) → calling_of hart regs pc asked (slice_get k.records hart) ≡ o → Goes k (begin_call hart o k).kernel
    called None e = told-on k (record k { under_way = Leaving hart }) (same-taken k (Leaving hart) old tt) f
    called (Some c) e =
        begun-on (begun_in (process_at k c.pid) c k) c
        (λ g. (let who = asks_as hart pc regs asked (slice_get k.records hart) c e in
        fits-waiting words k c fits u (room-there (process_at k c.pid) c k g) (subst (λ h. slice_get k.records h ≡ Some (Runs c.pid c.thread)) who.1 who.0)))

-- ---- jobs
abbrev by-process : Committed → Option Process → List Account → List Account
by-process done None accounts = accounts
by-process done (Some q) accounts = slice_set accounts done.calling.pid (account_after done.effect done.closing q)

abbrev accounts-by : UnderWay → List Process → List Account
accounts-by (Returning done) ps = by-process done (slice_get ps done.calling.pid) (map account_kept ps)
accounts-by _ ps = map account_kept ps

accounts-then : (k : KernelState) → map account_kept (processes_then k) ≡ accounts-by k.under_way k.processes
unfolding finish
accounts-then k = go k.under_way
  where
    by : (done : Committed) (o : Option Process) → process_at k done.calling.pid ≡ o → map account_kept (returned done (process_at k done.calling.pid) k).kernel.processes ≡ by-process done o (map account_kept k.processes)
    by done None e = ap (λ o. map account_kept (returned done o k).kernel.processes) e
    by done (Some q) e = returned-accounts done q k e

    go : (u : UnderWay) → map account_kept (finish_by u k).kernel.processes ≡ accounts-by u k.processes
    go Quiet = refl
    go Retrying = refl
    go (Leaving hart) = ap (map account_kept) (left-processes hart (slice_get k.records hart) k)
    go (Waiting c) = refl
    go (Returning done) = by done (process_at k done.calling.pid) refl

done-on : (word : ℕ) (k : KernelState) → ReplayFits k → Goes k (job_done word k).kernel
unfolding job_done
done-on word k f =
    told-on k (job_done word k).kernel (record {
      config = refl;
      journal = refl;
      threads = refl;
      records = λ pid. refl;
      accounts = accounts-then (job_done word k).kernel ∙ sym (accounts-then k);
    }) f

-- ---- the kernel is given back
-- what a return leaves
pub record Left (k m : KernelState) : Type 0 where
  pub config : m.config ≡ k.config
  pub journal : m.journal ≡ k.journal
  pub threads : length m.threads ≡ length k.threads
  pub records : (pid : ℕ) → running m.records pid ≡ running k.records pid

settled-left : (done : Committed) (p : Process) (effect : Effect) (k : KernelState) → Left k (settled done p effect k)
settled-left done p (Ends status) k = record { config = refl; journal = refl; threads = refl; records = λ pid. refl }
settled-left done p Nothing k = record { config = refl; journal = refl; threads = refl; records = λ pid. refl }
settled-left done p Clears k = record { config = refl; journal = refl; threads = refl; records = λ pid. refl }
settled-left done p (Starts hart start) k = record { config = refl; journal = refl; threads = refl; records = λ pid. refl }

left-runs : (pid : ℕ) (kept : HartRecord) → runs pid (record_left kept) ≡ runs pid kept
left-runs pid Idle = refl
left-runs pid (Stopped other) = refl
left-runs pid (Runs other thread) = refl

hart-left : (hart : ℕ) (o : Option HartRecord) (k : KernelState) → slice_get k.records hart ≡ o → Left k (hart_left hart o k)
hart-left hart None k e = record { config = refl; journal = refl; threads = refl; records = λ pid. refl }
hart-left hart (Some kept) k e = record {
  config = refl;
  journal = refl;
  threads = refl;
  records = λ pid. (let put = put-runs k.records hart pid kept (record_left kept) (runs pid kept) (runs pid kept) e refl (left-runs pid kept) in omega (arith, put));
}

pub finish-left : (k : KernelState) → Left k (finish k).kernel
unfolding finish
finish-left k = go k.under_way
  where
    by : (done : Committed) (o : Option Process) → Left k (returned done o k).kernel
    by done None = record { config = refl; journal = refl; threads = refl; records = λ pid. refl }
    by done (Some p) = (let s = settled-left done p done.effect k in record { config = s.config; journal = s.journal; threads = s.threads; records = s.records })

    go : (u : UnderWay) → Left k (finish_by u k).kernel
    go Quiet = record { config = refl; journal = refl; threads = refl; records = λ pid. refl }
    go Retrying = record { config = refl; journal = refl; threads = refl; records = λ pid. refl }
    go (Leaving hart) = (let s = hart-left hart (slice_get k.records hart) k refl in record { config = s.config; journal = s.journal; threads = s.threads; records = s.records })
    go (Waiting c) = record { config = refl; journal = refl; threads = refl; records = λ pid. refl }
    go (Returning done) = by done (process_at k done.calling.pid)

quiet-after : (k : KernelState) → (finish k).kernel.under_way ≡ Quiet
unfolding finish
quiet-after k = go k.under_way
  where
    by : (done : Committed) (o : Option Process) → (returned done o k).kernel.under_way ≡ Quiet
    by done None = refl
    by done (Some p) = refl

    go : (u : UnderWay) → (finish_by u k).kernel.under_way ≡ Quiet
    go Quiet = refl
    go Retrying = refl
    go (Leaving hart) = refl
    go (Waiting c) = refl
    go (Returning done) = by done (process_at k done.calling.pid)

finish-on : (k : KernelState) → ReplayFits k → Goes k (finish k).kernel
finish-on k f =
    let s = finish-left k in
    told-on k (finish k).kernel (record {
      config = s.config;
      journal = s.journal;
      threads = s.threads;
      records = s.records;
      accounts = ap (map account_kept) (uncommitted (finish k).kernel (subst IsUncommitted (sym (quiet-after k)) tt));
    }) f

-- ---- each step
pub step-goes : (words : List ℕ) (old new : KernelState) (shows : List Label) → KernelFits words old → KernelStep old new shows → ReplayFits old → Goes old new
step-goes words old new shows fits (Kept e q) f = subst (Goes old) (sym e) (record { fits = f; config = refl })
step-goes words old new shows fits (Begins hart regs pc asked u e q) f = subst (Goes old) (sym e) (begin-on words hart pc regs asked old fits u f)
step-goes words old new shows fits (Plans found c u e q) f = subst (Goes old) (sym e) (planned-on words found old c fits u f)
step-goes words old new shows fits (EndsJob word job n e q) f = subst (Goes old) (sym e) (done-on word old f)
step-goes words old new shows fits (Finishes n e q) f = subst (Goes old) (sym e) (finish-on old f)

pub steps_keep_replay : StepsKeepReplay
steps_keep_replay words old new shows fits step f = (step-goes words old new shows fits step f).fits
