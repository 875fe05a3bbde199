-- A job that is done.
use Rattle.std.proofs.Common.{ℕ, zero, suc, ◌+◌, ◌≡◌, ◌<◌, ◌≤◌, Some, None, List, [], ◌∷◌, ◌++◌, length, drop, slice_get, arith, refl, ap, sym, ◌∙◌, subst}
use Rattle.std.specs.List.{sum_by}
use Rattle.std.proofs.lemmas.List.{append-nil}
use Rattle.std.proofs.lemmas.List.Sums.{sum_by-cons}
use Rattle.std.proofs.lemmas.Option.{slice_get_within}
use Rattle.osc_word.specs.declared.job_list.Job.{Job}
use Rattle.osc_word.specs.declared.job_list.Job.TheVariants.{PutWord, ZeroWords, CopyWords, CopyPart, CopyTable, ClearBox, Tell, ToOut}
use Rattle.osc_paging.specs.JobWords.{words_done}
use Rattle.osc_calls.specs.JobDone.{entries, bytes_of, output_after, job_done}
use Rattle.osc_calls.specs.Kernel.{KernelState, UnderWay, Quiet, Retrying, Leaving, Waiting, Returning, next_job}
use Rattle.osc_calls.specs.Labels.{out_count, out_shows}
use Rattle.osc_settled.specs.KernelFits.{KernelFits}
use Rattle.osc_settled.proofs.JobsDone.{jobs_keep}
use Rattle.osc_kernel.specs.Sound.{OpenJobs, begun, opens_with, Fits}

-- ---- the list of jobs
pub dropped_first : {X : Type 0} (xs : List X) (n : ℕ) → slice_get (drop n xs) 0 ≡ slice_get xs n
dropped_first [] zero = refl
dropped_first [] (suc n) = refl
dropped_first (x ∷ xs) zero = refl
dropped_first (x ∷ xs) (suc n) = dropped_first xs n

-- the first of those that are left, and the rest
pub dropped : {X : Type 0} (xs : List X) (n : ℕ) (x : X) → slice_get xs n ≡ Some x → drop n xs ≡ x ∷ drop 1 (drop n xs)
dropped [] n x e = absurd (let z : ⊥ = grind (arith, e) in z)
dropped (y ∷ xs) zero x e = let same : y ≡ x = cc in ap (λ z. z ∷ xs) same
dropped (y ∷ xs) (suc n) x e = dropped xs n x e

-- ---- a job that writes nothing out
silent_output : (word : ℕ) (job : Job) (output : List ℕ) → out_count job ≡ 0 → output_after word (Some job) output ≡ output
silent_output word (PutWord at value) output e = refl
silent_output word (ZeroWords at count) output e = refl
silent_output word (CopyWords from to count) output e = refl
silent_output word (CopyPart from to bytes) output e = refl
silent_output word (CopyTable from to) output e = refl
silent_output word (ClearBox hart) output e = refl
silent_output word (Tell hart) output e = refl
silent_output word (ToOut at first count) output e = ap (λ n. output ++ bytes_of word first n) e ∙ append-nil output

-- ---- the agreement
quiet_keeps : (word : ℕ) (k : KernelState) (job : Job) (jobs : List Job) → Fits k → k.under_way ≡ Quiet → k.jobs ≡ job ∷ jobs → Fits (job_done word k).kernel
unfolding job_done
quiet_keeps word k job jobs f u e =
    let opens : OpenJobs (job ∷ jobs) = subst OpenJobs e (subst (λ x. opens_with x k.jobs) u f.opens) in
    let all = opens.silent in
    let a = sum_by-cons out_count job jobs in
    let none : out_count job ≡ 0 = omega (arith, all, a) in
    let left : OpenJobs jobs = record { silent = omega (arith, all, a); within = opens.within.1 } in
    let out : output_after word (next_job k) k.output ≡ k.output = ap (λ js. output_after word (slice_get js 0) k.output) e ∙ silent_output word job k.output none in
    let start = subst (λ x. KernelFits f.words (begun x k)) u f.fits in
    record {
      words = f.words;
      fits = subst (λ x. KernelFits f.words (begun x (record k { jobs = drop 1 k.jobs; output = output_after word (next_job k) k.output }))) (sym u)
          (subst (λ o. KernelFits f.words (record k { jobs = []; output = o })) (sym out) start);
      opens = subst (λ x. opens_with x (drop 1 k.jobs)) (sym u) (subst (λ js. OpenJobs (drop 1 js)) (sym e) left);
    }

moving_keeps : (word : ℕ) (k : KernelState) (job : Job) (jobs : List Job) (u : UnderWay) → Fits k → k.under_way ≡ u → k.jobs ≡ job ∷ jobs
    → ((words : List ℕ) → KernelFits words (begun u k) → KernelFits words k)
    → ((words : List ℕ) (next : KernelState) → KernelFits words next → KernelFits words (begun u next)) → ((js : List Job) → opens_with u js)
    → Fits (job_done word k).kernel
unfolding job_done
moving_keeps word k job jobs u f is e from to opens = record {
  words = words_done (entries k) job f.words;
  fits = subst (λ x. KernelFits (words_done (entries k) job f.words) (begun x (job_done word k).kernel)) (sym is)
      (to (words_done (entries k) job f.words) (job_done word k).kernel (jobs_keep word f.words k job jobs (from f.words (subst (λ x. KernelFits f.words (begun x k)) is f.fits)) e));
  opens = subst (λ x. opens_with x (job_done word k).kernel.jobs) (sym is) (opens (job_done word k).kernel.jobs);
}

pub done_keeps : (word : ℕ) (k : KernelState) (job : Job) (jobs : List Job) → Fits k → k.jobs ≡ job ∷ jobs → Fits (job_done word k).kernel
done_keeps word k job jobs f e = go k.under_way refl
  where
    go : (u : UnderWay) → k.under_way ≡ u → Fits (job_done word k).kernel
    go Quiet u = quiet_keeps word k job jobs f u e
    go Retrying u = moving_keeps word k job jobs Retrying f u e (λ w h. h) (λ w n h. h) (λ js. tt)
    go (Leaving hart) u = moving_keeps word k job jobs (Leaving hart) f u e (λ w h. h) (λ w n h. h) (λ js. tt)
    go (Waiting c) u = moving_keeps word k job jobs (Waiting c) f u e (λ w h. h) (λ w n h. h) (λ js. tt)
    go (Returning done) u = moving_keeps word k job jobs (Returning done) f u e (λ w h. h) (λ w n h. h) (λ js. tt)

-- there is room for all that the jobs write out
pub out_room : (k : KernelState) → Fits k → length k.output + sum_by out_count k.jobs ≤ 4194304
out_room k f = go k.under_way refl
  where
    go : (u : UnderWay) → k.under_way ≡ u → length k.output + sum_by out_count k.jobs ≤ 4194304
    go Quiet u =
        let a = (subst (λ x. KernelFits f.words (begun x k)) u f.fits).sizes.output in
        let opens : OpenJobs k.jobs = subst (λ x. opens_with x k.jobs) u f.opens in
        let b = opens.silent in
        omega (arith, a, b)
    go Retrying u = (subst (λ x. KernelFits f.words (begun x k)) u f.fits).sizes.output
    go (Leaving hart) u = (subst (λ x. KernelFits f.words (begun x k)) u f.fits).sizes.output
    go (Waiting c) u = (subst (λ x. KernelFits f.words (begun x k)) u f.fits).sizes.output
    go (Returning done) u = (subst (λ x. KernelFits f.words (begun x k)) u f.fits).sizes.output

-- the next job, the bytes that it writes, and those that are left
pub record IsNext (jobs : List Job) (done : ℕ) (job : Job) : Type 0 where
  pub is : drop done jobs ≡ job ∷ drop 1 (drop done jobs)
  pub sum : sum_by out_count (drop done jobs) ≡ out_count job + sum_by out_count (drop 1 (drop done jobs))
  pub below : done < length jobs

pub next_is : (jobs : List Job) (done : ℕ) (job : Job) → slice_get jobs done ≡ Some job → IsNext jobs done job
next_is jobs done job e =
    let is = dropped jobs done job e in
    record {
      is = is;
      sum = (let a = ap (λ js. sum_by out_count js) is in let b = sum_by-cons out_count job (drop 1 (drop done jobs)) in omega (arith, a, b));
      below = slice_get_within jobs done job e;
    }

drop_suc : {X : Type 0} (xs : List X) (n : ℕ) → drop (suc n) xs ≡ drop 1 (drop n xs)
drop_suc [] zero = refl
drop_suc [] (suc n) = refl
drop_suc (x ∷ xs) zero = refl
drop_suc (x ∷ xs) (suc n) = drop_suc xs n

pub drop_one : {X : Type 0} (xs : List X) (n : ℕ) → drop (n + 1) xs ≡ drop 1 (drop n xs)
drop_one xs n = let e : n + 1 ≡ suc n = omega arith in ap (λ k. drop k xs) e ∙ drop_suc xs n

pub none_left : {X : Type 0} (xs : List X) (n : ℕ) → slice_get xs n ≡ None → drop n xs ≡ []
none_left [] zero e = refl
none_left [] (suc n) e = refl
none_left (x ∷ xs) zero e = absurd (let z : ⊥ = grind (arith, e) in z)
none_left (x ∷ xs) (suc n) e = none_left xs n e

pub no_first : {X : Type 0} (xs : List X) → slice_get xs 0 ≡ None → xs ≡ []
no_first [] e = refl
no_first (x ∷ xs) e = absurd (let z : ⊥ = grind (arith, e) in z)

-- the kernel once a job is done
pub kernel_done : (k : KernelState) (word : ℕ) (job : Job) (jobs : List Job) (output : List ℕ) → slice_get k.jobs 0 ≡ Some job
    → jobs ≡ drop 1 k.jobs → output ≡ output_after word (Some job) k.output → record k { jobs = jobs; output = output } ≡ (job_done word k).kernel
unfolding job_done
kernel_done k word job jobs output e j o =
    ap (λ x. record k { jobs = x; output = output }) j
    ∙ ap (λ x. record k { jobs = drop 1 k.jobs; output = x }) (o ∙ ap (λ x. output_after word x k.output) (sym e))

pub shown_done : (word : ℕ) (k : KernelState) (job : Job) (jobs : List Job) → k.jobs ≡ job ∷ jobs → out_shows k.under_way (job ∷ jobs) ≡ (job_done word k).shows
unfolding job_done
shown_done word k job jobs e = ap (λ js. out_shows k.under_way js) (sym e)
