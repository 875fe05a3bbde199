-- A write that is planned, and each step of the kernel after it.
use Rattle.std.proofs.Common.{ℕ, zero, suc, ◌+◌, ◌-◌, ◌*◌, ◌/◌, ◌%◌, ◌≡◌, ◌<◌, ◌≤◌, nat_lt, min, max, Bool, true, false, cond, Option, Some, None, List, [], ◌∷◌, ◌++◌, slice_get, drop, sum_by, arith, refl, sym, ap, subst, ◌∙◌}
use Rattle.std.specs.Prelude.{unwrap_or}
use Rattle.std.specs.List.{range_with_len, flat_map}
use Rattle.std.proofs.lemmas.Bool.Decides.{nat_tests}
use Rattle.std.proofs.lemmas.List.Concat.{flat_map-cons}
use Rattle.std.proofs.lemmas.List.Sums.{sum_by-append, sum_by-cons}
use Rattle.osc_word.specs.declared.calls.Answer.TheVariants.{Number}
use Rattle.osc_word.specs.declared.calls.Call.TheVariants.{Write}
use Rattle.osc_word.specs.declared.calls.Request.{Request}
use Rattle.osc_word.specs.declared.job_list.Job.{Job}
use Rattle.osc_word.specs.declared.job_list.Job.TheVariants.{ToOut}
use Rattle.osc_word.specs.declared.steps.Label.{Label}
use Rattle.osc_paging.specs.KeptTables.{KeptTables}
use Rattle.osc_space.specs.Header.{Found}
use Rattle.osc_calls.specs.declared.Begun.{Begun}
use Rattle.osc_calls.specs.declared.Begun.TheVariants as begun
use Rattle.osc_calls.specs.Kernel.{KernelState, Process, Calling, Committed, UnderWay, Quiet, Retrying, Leaving, Waiting, Returning, process_at}
use Rattle.osc_calls.specs.Requests.{calling_of, meant}
use Rattle.osc_calls.specs.Begin.{no_words, begun_in, begin_as, begin_call, begin}
use Rattle.osc_calls.specs.Labels.{out_count}
use Rattle.osc_calls.specs.WritePlan.{write_count, load_frame, first_unreadable, out_job, word_job, out_jobs, write_by}
use Rattle.osc_calls.specs.Plan.{plan_meant, plan_of, committed, plan_by, plan_waiting, plan}
use Rattle.osc_calls.specs.JobDone.{job_done}
use Rattle.osc_calls.specs.Finish.{finish}
use Rattle.osc_settled.specs.UnderWay.{UnderWayFits}
use Rattle.osc_settled.specs.KernelFits.{KernelFits}
use Rattle.osc_safe.specs.Standing.{FitsSome}
use Rattle.osc_safe.specs.KernelSteps.{KernelStep, Kept, Begins, Plans, EndsJob, Finishes}
use Rattle.osc_safe.proofs.CallSteps.{finished-home}
use Rattle.osc_written.specs.Written.{AllWriteSome, WriteStands, Written}

-- ---- the jobs of a write
abbrev outs : List Job → ℕ
outs jobs = sum_by out_count jobs

both-some : (xs ys : List Job) → AllWriteSome xs → AllWriteSome ys → AllWriteSome (xs ++ ys)
both-some [] ys v w = w
both-some (x ∷ xs) ys v w = (v.0, both-some xs ys v.1 w)

-- the bytes from one address to another
record Piece (from to : ℕ) (jobs : List Job) : Type 0 where
  few : outs jobs ≤ to - from
  some : AllWriteSome jobs

piece-is : (t : KeptTables) (from to : ℕ) → Piece from to (out_job t from to)
piece-is t from to = go (nat_lt from to) refl
  where
    go : (b : Bool) → nat_lt from to ≡ b → Piece from to (cond b (ToOut (record { frame = unwrap_or (load_frame t from) 0; index = from % 4096 / 8 }) (from % 8) (to - from) ∷ []) [])
    go true e = record { few = omega arith; some = ((let l : from < to = grind (arith, nat_tests, e) in omega (arith, l)), tt) }
    go false e = record { few = omega arith; some = tt }

pieces-are : (t : KeptTables) (from to word count : ℕ) → Piece (max from (8 * word)) to (flat_map (word_job t from to) (range_with_len word count))
pieces-are t from to word zero = record { few = omega arith; some = tt }
pieces-are t from to word (suc count) =
    let split = flat_map-cons (word_job t from to) word (range_with_len (word + 1) count) in
    let first = piece-is t (max from (8 * word)) (min to (8 * word + 8)) in
    let later = pieces-are t from to (word + 1) count in record {
      few = (let e : outs (flat_map (word_job t from to) (range_with_len word (suc count))) ≡ outs (word_job t from to word ++ flat_map (word_job t from to) (range_with_len (word + 1) count)) = ap outs split in
          let a = sum_by-append out_count (word_job t from to word) (flat_map (word_job t from to) (range_with_len (word + 1) count)) in
          let b = first.few in
          let d = later.few in
          omega (arith, e, a, b, d));
      some = subst AllWriteSome (sym split) (both-some (word_job t from to word) (flat_map (word_job t from to) (range_with_len (word + 1) count)) first.some later.some);
    }

-- ---- the plan
write-stands : (k : KernelState) (c : Calling) (p q : Process) (t : KeptTables) (buf count total : ℕ) (bad : Option ℕ) → k.jobs ≡ [] → process_at k c.pid ≡ Some p → p.space.tables ≡ t → first_unreadable t buf count ≡ bad
    → process_at (committed c (write_by bad t buf count k)) c.pid ≡ Some q → (write_by bad t buf count k).answer ≡ Number total → WriteStands (committed c (write_by bad t buf count k)) q buf total
write-stands k c p q t buf count total (Some address) none here tables e there answer = absurd (let b : ⊥ = grind (arith, answer) in b)
write-stands k c p q t buf count total None none here tables e there answer =
    let same : p ≡ q = (let r : Some p ≡ Some q = sym here ∙ there in cc) in
    let number : count ≡ total = grind (arith, answer) in
    let piece = pieces-are t buf (buf + count) (buf / 8) ((buf % 8 + count + 7) / 8) in
    let jobs : k.jobs ++ out_jobs t buf count ≡ out_jobs t buf count = ap (λ js. js ++ out_jobs t buf count) none in record {
      readable = subst (λ (z : Process). first_unreadable z.space.tables buf total ≡ None) same (subst (λ z. first_unreadable z buf total ≡ None) (sym tables) (subst (λ z. first_unreadable t buf z ≡ None) number e));
      pending = (let few = piece.few in let e : outs (k.jobs ++ out_jobs t buf count) ≡ outs (out_jobs t buf count) = ap outs jobs in omega (arith, few, e, number));
      some = subst AllWriteSome (sym jobs) piece.some;
    }

plan-stands : (found : Found) (k : KernelState) (c : Calling) (p q : Process) (buf len total : ℕ) → k.jobs ≡ [] → process_at k c.pid ≡ Some p → c.call ≡ Write buf len
    → process_at (committed c (plan_of found c p k)) c.pid ≡ Some q → (plan_of found c p k).answer ≡ Number total → WriteStands (committed c (plan_of found c p k)) q buf total
plan-stands found k c p q buf len total none here call =
    let made : plan_of found c p k ≡ write_by (first_unreadable p.space.tables buf (write_count k.output len)) p.space.tables buf (write_count k.output len) k = ap (λ z. plan_meant found c p k (meant z)) call in
    subst (λ z. process_at (committed c z) c.pid ≡ Some q → z.answer ≡ Number total → WriteStands (committed c z) q buf total) (sym made)
    (λ there answer. write-stands k c p q p.space.tables buf (write_count k.output len) total (first_unreadable p.space.tables buf (write_count k.output len)) none here refl refl there answer)

planned-by : (found : Found) (k : KernelState) (c : Calling) (o : Option Process) → k.jobs ≡ [] → process_at k c.pid ≡ o → k.under_way ≡ Waiting c → Written (plan_by found c o k).kernel
planned-by found k c None none here waits = λ done p buf len total u. absurd (let b : ⊥ = grind (arith, u, waits) in b)
planned-by found k c (Some p) none here waits = λ done q buf len total u there call answer.
    (let is : record { calling = c; answer = (plan_of found c p k).answer; effect = (plan_of found c p k).effect; closing = (plan_of found c p k).closing } ≡ done = cc in
    plan-stands found k c p q buf len total none here (ap (λ (z : Committed). z.calling.call) is ∙ call) (ap (λ (z : Committed). process_at (committed c (plan_of found c p k)) z.calling.pid) is ∙ there) (ap (λ (z : Committed). z.answer) is ∙ answer))

planned-writes : (found : Found) (k : KernelState) (c : Calling) → k.jobs ≡ [] → k.under_way ≡ Waiting c → Written (plan found k).kernel
unfolding plan
planned-writes found k c none waits = subst (λ u. Written (plan_waiting found u k).kernel) (sym waits) (planned-by found k c (process_at k c.pid) none refl waits)

-- ---- where no call is committed
no-call : (k : KernelState) (u : UnderWay) → k.under_way ≡ u → ((done : Committed) → u ≡ Returning done → ⊥) → Written k
no-call k u e none done p buf len total r = absurd (none done (sym e ∙ r))

begun-writes : (b : Begun) (c : Calling) (k : KernelState) → k.jobs ≡ [] → Written (begin_as b c k).kernel
begun-writes begun.Planned c k none = planned-writes no_words (record k { under_way = Waiting c }) c none refl
begun-writes begun.Again c k none = no-call _ Retrying refl (λ done e. (let b : ⊥ = grind (arith, e) in b))
begun-writes begun.JournalFull c k none = no-call _ Retrying refl (λ done e. (let b : ⊥ = grind (arith, e) in b))
begun-writes begun.Gone c k none = no-call _ (Leaving c.hart) refl (λ done e. (let b : ⊥ = grind (arith, e) in b))
begun-writes begun.Boxes c k none = no-call _ (Waiting c) refl (λ done e. (let b : ⊥ = grind (arith, e) in b))
begun-writes (begun.Header first second) c k none = no-call _ (Waiting c) refl (λ done e. (let b : ⊥ = grind (arith, e) in b))

called-writes : (hart : ℕ) (o : Option Calling) (k : KernelState) → k.jobs ≡ [] → Written (begin_call hart o k).kernel
called-writes hart None k none = no-call _ (Leaving hart) refl (λ done e. (let b : ⊥ = grind (arith, e) in b))
called-writes hart (Some c) k none = begun-writes (begun_in (process_at k c.pid) c k) c k none

begin-writes : (hart pc : ℕ) (regs : List ℕ) (asked : Request) (k : KernelState) → k.jobs ≡ [] → Written (begin hart regs pc asked k).kernel
unfolding begin
begin-writes hart pc regs asked k none = called-writes hart (calling_of hart regs pc asked (slice_get k.records hart)) k none

-- ---- a job is done
rest-some : (jobs : List Job) → AllWriteSome jobs → AllWriteSome (drop 1 jobs)
rest-some [] w = tt
rest-some (job ∷ jobs) w = w.1

rest-few : (jobs : List Job) → outs (drop 1 jobs) ≤ outs jobs
rest-few [] = omega arith
rest-few (job ∷ jobs) = let c = sum_by-cons out_count job jobs in omega (arith, c)

done-writes : (word : ℕ) (k : KernelState) → Written k → Written (job_done word k).kernel
unfolding job_done
done-writes word k w done p buf len total u there call answer =
    let s = w done p buf len total u there call answer in
    record { readable = s.readable; pending = (let l = rest-few k.jobs in let m = s.pending in omega (arith, l, m)); some = rest-some k.jobs s.some }

-- ---- each step
quiet-jobs : (words : List ℕ) (k : KernelState) → KernelFits words k → k.under_way ≡ Quiet → k.jobs ≡ []
quiet-jobs words k fits u = subst (UnderWayFits k) u fits.under_way

waiting-jobs : (words : List ℕ) (k : KernelState) (c : Calling) → KernelFits words k → k.under_way ≡ Waiting c → k.jobs ≡ []
waiting-jobs words k c fits u = let w : UnderWayFits k (Waiting c) = subst (UnderWayFits k) u fits.under_way in w.jobs

pub step-writes : (old new : KernelState) (shows : List Label) → FitsSome old → KernelStep old new shows → Written old → Written new
step-writes old new shows fits (Kept e q) w = subst Written (sym e) w
step-writes old new shows fits (Begins hart regs pc asked u e f) w = subst Written (sym e) (begin-writes hart pc regs asked old (quiet-jobs fits.words old fits.fits u))
step-writes old new shows fits (Plans found c u e f) w = subst Written (sym e) (planned-writes found old c (waiting-jobs fits.words old c fits.fits u) u)
step-writes old new shows fits (EndsJob word job n e f) w = subst Written (sym e) (done-writes word old w)
step-writes old new shows fits (Finishes n e f) w =
    let home = finished-home old fits n in subst Written (sym e) (no-call (finish old).kernel Quiet home.quiet (λ done q. (let b : ⊥ = grind (arith, q) in b)))
