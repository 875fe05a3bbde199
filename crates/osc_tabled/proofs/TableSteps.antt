-- Each step of the kernel keeps what the journal tells of the tables.
use Rattle.std.proofs.Common.{ℕ, zero, suc, ◌≡◌, ◌<◌, nat_le, Bool, true, false, Option, Some, None, is_some, List, [], ◌∷◌, ◌++◌, length, map, slice_get, slice_set, count_by, arith, refl, sym, ap, subst, ◌∙◌}
use Rattle.osc_word.specs.declared.settings.Config.{Config}
use Rattle.osc_word.specs.declared.calls.Entry.{Entry}
use Rattle.osc_word.specs.declared.calls.Request.{Request}
use Rattle.osc_word.specs.declared.job_list.Job.{Job}
use Rattle.osc_word.specs.declared.steps.Label.{Label}
use Rattle.osc_slot.specs.declared.Block.{Block}
use Rattle.osc_space.specs.Header.{Found}
use Rattle.osc_space.specs.Space.{Space, Draft, Closing, Keeps, GivesBack}
use Rattle.osc_space.specs.Finish.{give_blocks, finished}
use Rattle.osc_calls.specs.declared.Begun.{Begun}
use Rattle.osc_calls.specs.declared.Begun.TheVariants as begun
use Rattle.osc_calls.specs.declared.HartRecord.{HartRecord}
use Rattle.osc_calls.specs.declared.HartRecord.TheVariants.{Runs}
use Rattle.osc_calls.specs.Kernel.{KernelState, Process, Calling, Committed, Effect, Nothing, Clears, Starts, Ends, UnderWay, Quiet, Retrying, Leaving, Waiting, Returning, process_at, runs}
use Rattle.osc_calls.specs.Requests.{calling_of, meant}
use Rattle.osc_calls.specs.Plan.{plan_of, plan_by, plan_waiting, plan}
use Rattle.osc_calls.specs.Begin.{no_words, begun_in, begin_as, begin_call, begin}
use Rattle.osc_calls.specs.JobDone.{job_done}
use Rattle.osc_calls.specs.Finish.{hart_left, settled, returned, finish_by, finish}
use Rattle.osc_settled.specs.Records.{is_living}
use Rattle.osc_settled.specs.KernelFits.{KernelFits}
use Rattle.osc_settled.proofs.Commits.{lives_none}
use Rattle.osc_settled.proofs.Outcomes.{Asks, asks, caller_lives}
use Rattle.osc_settled.proofs.Beginning.{asks_as}
use Rattle.osc_machine.specs.Replay.{Ledger, ledger_at, replay}
use Rattle.osc_machine.specs.Agreements.{Account, account_told, account_kept}
use Rattle.osc_safe.specs.KernelSteps.{KernelStep, Kept, Begins, Plans, EndsJob, Finishes}
use Rattle.osc_ledger.specs.Replays.{processes_then, ReplayFits}
use Rattle.osc_ledger.specs.Tables.{TablesTold}
use Rattle.osc_ledger.specs.Wanting.{setting}
use Rattle.osc_ledger.proofs.CallTells.{account-row}
use Rattle.osc_ledger.proofs.Returned.{account-at, kept-ledger}
use Rattle.osc_ledger.proofs.ReplaySteps.{same-length, IsUncommitted, uncommitted, same-waiting, room-there, fits-waiting, finish-left}
use Rattle.osc_tabled.specs.Tabled.{TablesFit, StepsKeepTables}
use Rattle.osc_tabled.proofs.AllTold.{AllTold, told-at, all-fit, commit-told}
use Rattle.osc_tabled.proofs.CallRows.{tables-row}

-- ---- kernels that differ in nothing that is spoken of
same-fit : (image : List ℕ) (k m : KernelState) → m.config ≡ k.config → m.journal ≡ k.journal → processes_then m ≡ processes_then k → TablesFit image k → TablesFit image m
same-fit image k m config journal processes t =
    subst (λ (x : Config). Fit x m.journal (processes_then m)) (sym config)
    (subst (λ js. Fit k.config js (processes_then m)) (sym journal) (subst (λ ps. Fit k.config k.journal ps) (sym processes) t))
  where
    Fit : Config → List Entry → List Process → Type 0
    Fit config journal ps =
        (pid : ℕ) (p : Process) → slice_get ps pid ≡ Some p → p.status ≡ None → TablesTold (record { config = config; image = image }) (ledger_at (replay config journal) pid) p.space.tables

-- ---- a call that commits
get-within : (ps : List Process) (i : ℕ) (p : Process) → slice_get ps i ≡ Some p → i < length ps
get-within [] i p e = absurd (let z : ⊥ = grind (arith, e) in z)
get-within (q ∷ ps) zero p e = omega arith
get-within (q ∷ ps) (suc i) p e = let l = get-within ps i p e in omega (arith, l)

ledger-there : (ls : List Ledger) (pid : ℕ) → pid < length ls → slice_get ls pid ≡ Some (ledger_at ls pid)
ledger-there [] pid l = absurd (let z : ⊥ = omega (arith, l) in z)
ledger-there (x ∷ ls) zero l = refl
ledger-there (x ∷ ls) (suc pid) l = ledger-there ls pid (omega (arith, l))

-- as many harts run the caller as the journal tells
module _ (words : List ℕ) (k : KernelState) (c : Calling) (p : Process) (a : Asks words k c) (here : process_at k c.pid ≡ Some p) (f : ReplayFits k)
    (all : map account_told (replay k.config k.journal) ≡ map account_kept k.processes) where
  abbrev caller-ledger : Ledger
  caller-ledger = ledger_at (replay k.config k.journal) c.pid

  lives : p.status ≡ None
  lives = lives_none p (process_at k c.pid) here (caller_lives words k c a)

  threads-told : caller-ledger.threads ≡ count_by (runs c.pid) k.records
  threads-told =
      let kept = account-at (replay k.config k.journal) k.processes c.pid p all here in
      let count = same-length (replay k.config k.journal) k.processes all in
      let within = get-within k.processes c.pid p here in
      f.threads c.pid caller-ledger (ledger-there (replay k.config k.journal) c.pid (omega (arith, count, within)))
      (ap (λ (x : Account). x.over) kept ∙ ap (λ (s : Option ℕ). is_some s) lives)

  module _ (image : List ℕ) (found : Found) (told : AllTold (setting k image) (replay k.config k.journal) k.processes) where
    commits-fit : TablesFit image (plan_by found c (Some p) k).kernel
    commits-fit =
        let made = plan_of found c p k in
        let kept = kept-ledger caller-ledger p (account-at (replay k.config k.journal) k.processes c.pid p all here) in
        let accounts = account-row words k c p a here found c.call caller-ledger kept threads-told in
        commit-told image k c p made here accounts.config accounts.journal told
        (tables-row words image found k c p a here caller-ledger kept (told-at (setting k image) (replay k.config k.journal) k.processes c.pid p told here lives) c.call threads-told)

planned-fit : (words image : List ℕ) (found : Found) (k : KernelState) (c : Calling) → KernelFits words k → k.under_way ≡ Waiting c → ReplayFits k → TablesFit image k → TablesFit image (plan found k).kernel
unfolding plan
planned-fit words image found k c fits u f t =
    subst (λ w. TablesFit image (plan_waiting found w k).kernel) (sym u) (go (process_at k c.pid) refl)
  where
    waits : IsUncommitted k.under_way
    waits = subst IsUncommitted (sym u) tt

    now : processes_then k ≡ k.processes
    now = uncommitted k waits

    go : (o : Option Process) → process_at k c.pid ≡ o → TablesFit image (plan_by found c o k).kernel
    go None e = absurd (let z = sym (caller_lives words k c (asks words k c fits u)) ∙ ap is_living e in let w : ⊥ = grind (arith, z) in w)
    go (Some p) e =
        commits-fit words k c p (asks words k c fits u) e f (f.accounts ∙ ap (map account_kept) now) image found
        (subst (λ ps. AllTold (setting k image) (replay k.config k.journal) ps) now (all-fit image k f t))

-- ---- a hart that takes the kernel
taken-fit : (image : List ℕ) (k : KernelState) (u : UnderWay) → IsUncommitted k.under_way → IsUncommitted u → TablesFit image k → TablesFit image (record k { under_way = u })
taken-fit image k u old new t =
    same-fit image k (record k { under_way = u }) refl refl (uncommitted (record k { under_way = u }) new ∙ sym (uncommitted k old)) t

begin-fit : (words image : List ℕ) (hart pc : ℕ) (regs : List ℕ) (asked : Request) (k : KernelState) → KernelFits words k → k.under_way ≡ Quiet → ReplayFits k → TablesFit image k
    → TablesFit image (begin hart regs pc asked k).kernel
unfolding begin
begin-fit words image hart pc regs asked k fits u f t = called (calling_of hart regs pc asked (slice_get k.records hart)) refl
  where
    old : IsUncommitted k.under_way
    old = subst IsUncommitted (sym u) tt

    begun-fit : (b : Begun) (c : Calling) → (b ≡ begun.Planned → KernelFits words (record k { under_way = Waiting c })) → TablesFit image (begin_as b c k).kernel
    begun-fit begun.Planned c w =
        planned-fit words image no_words (record k { under_way = Waiting c }) c (w refl) refl (same-waiting k c old f) (taken-fit image k (Waiting c) old tt t)
    begun-fit begun.Again c w = taken-fit image k Retrying old tt t
    begun-fit begun.JournalFull c w = taken-fit image k Retrying old tt t
    begun-fit begun.Gone c w = taken-fit image k (Leaving c.hart) old tt t
    begun-fit begun.Boxes c w = taken-fit image k (Waiting c) old tt t
    begun-fit (begun.Header first second) c w = taken-fit image k (Waiting c) old tt t

    called : (o : Option Calling) → calling_of hart regs pc asked (slice_get k.records hart) ≡ o → TablesFit image (begin_call hart o k).kernel
    called None e = taken-fit image k (Leaving hart) old tt t
    called (Some c) e =
        begun-fit (begun_in (process_at k c.pid) c k) c
        (λ g. (let who = asks_as hart pc regs asked (slice_get k.records hart) c e in
        fits-waiting words k c fits u (room-there (process_at k c.pid) c k g) (subst (λ h. slice_get k.records h ≡ Some (Runs c.pid c.thread)) who.1 who.0)))

-- ---- jobs
-- what a return leaves of a memory does not look at the jobs
gave-same : (blocks : List Block) (space : Space) (free : List Bool) (js ks : List Job)
    → (give_blocks blocks (record { space = space; free = free; jobs = js })).space ≡ (give_blocks blocks (record { space = space; free = free; jobs = ks })).space
gave-same [] space free js ks = refl
gave-same (block ∷ blocks) space free js ks = gave-same blocks _ _ js ks

finished-same : (closing : Closing) (space : Space) (free : List Bool) (js ks : List Job)
    → (finished closing (record { space = space; free = free; jobs = js })).space ≡ (finished closing (record { space = space; free = free; jobs = ks })).space
unfolding finished
finished-same Keeps space free js ks = refl
finished-same (GivesBack blocks) space free js ks =
    ap (λ (s : Space). let t : Space = record s { tables = record (s.tables) { aside = [] }; waiting = [] } in t) (gave-same blocks space free js ks)

done-then : (word : ℕ) (k : KernelState) → processes_then (job_done word k).kernel ≡ processes_then k
unfolding finish job_done
done-then word k = go k.under_way
  where
    left : (hart : ℕ) (o : Option HartRecord) (m : KernelState) → (hart_left hart o m).processes ≡ m.processes
    left hart None m = refl
    left hart (Some kept) m = refl

    ends : (done : Committed) (effect : Effect) (p : Process) → (settled done p effect (job_done word k).kernel).processes ≡ (settled done p effect k).processes
    ends done (Ends status) p = refl
    ends done Nothing p = ap (λ (s : Space). slice_set k.processes done.calling.pid (record p { space = s })) (finished-same done.closing p.space k.free _ _)
    ends done Clears p = ap (λ (s : Space). slice_set k.processes done.calling.pid (record p { space = s })) (finished-same done.closing p.space k.free _ _)
    ends done (Starts hart start) p = ap (λ (s : Space). slice_set k.processes done.calling.pid (record p { space = s })) (finished-same done.closing p.space k.free _ _)

    by : (done : Committed) (o : Option Process) → (returned done o (job_done word k).kernel).kernel.processes ≡ (returned done o k).kernel.processes
    by done None = refl
    by done (Some p) = ends done done.effect p

    go : (u : UnderWay) → (finish_by u (job_done word k).kernel).kernel.processes ≡ (finish_by u k).kernel.processes
    go Quiet = refl
    go Retrying = refl
    go (Leaving hart) = left hart (slice_get k.records hart) (job_done word k).kernel ∙ sym (left hart (slice_get k.records hart) k)
    go (Waiting c) = refl
    go (Returning done) = by done (process_at k done.calling.pid)

done-config : (word : ℕ) (k : KernelState) → (job_done word k).kernel.config ≡ k.config
unfolding job_done
done-config word k = refl

done-journal : (word : ℕ) (k : KernelState) → (job_done word k).kernel.journal ≡ k.journal
unfolding job_done
done-journal word k = refl

done-fit : (image : List ℕ) (word : ℕ) (k : KernelState) → TablesFit image k → TablesFit image (job_done word k).kernel
done-fit image word k t = same-fit image k (job_done word k).kernel (done-config word k) (done-journal word k) (done-then word k) t

-- ---- the kernel is given back
quiet-after : (k : KernelState) → (finish k).kernel.under_way ≡ Quiet
unfolding finish
quiet-after k = go k.under_way
  where
    by : (done : Committed) (o : Option Process) → (returned done o k).kernel.under_way ≡ Quiet
    by done None = refl
    by done (Some p) = refl

    go : (u : UnderWay) → (finish_by u k).kernel.under_way ≡ Quiet
    go Quiet = refl
    go Retrying = refl
    go (Leaving hart) = refl
    go (Waiting c) = refl
    go (Returning done) = by done (process_at k done.calling.pid)

finish-fit : (image : List ℕ) (k : KernelState) → TablesFit image k → TablesFit image (finish k).kernel
finish-fit image k t =
    let s = finish-left k in
    same-fit image k (finish k).kernel s.config s.journal (uncommitted (finish k).kernel (subst IsUncommitted (sym (quiet-after k)) tt)) t

-- ---- each step
pub steps_keep_tables : StepsKeepTables
steps_keep_tables words image old new shows fits (Kept e q) f t = subst (TablesFit image) (sym e) t
steps_keep_tables words image old new shows fits (Begins hart regs pc asked u e q) f t = subst (TablesFit image) (sym e) (begin-fit words image hart pc regs asked old fits u f t)
steps_keep_tables words image old new shows fits (Plans found c u e q) f t = subst (TablesFit image) (sym e) (planned-fit words image found old c fits u f t)
steps_keep_tables words image old new shows fits (EndsJob word job n e q) f t = subst (TablesFit image) (sym e) (done-fit image word old t)
steps_keep_tables words image old new shows fits (Finishes n e q) f t = subst (TablesFit image) (sym e) (finish-fit image old t)
