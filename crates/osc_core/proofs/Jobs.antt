-- The jobs with which a kernel opens, done one after another.
use Rattle.std.proofs.Common.{ℕ, ◌≡◌, ◌<◌, Some, None, List, [], ◌∷◌, length, drop, arith, refl, ap, sym, ◌∙◌, subst}
use Rattle.osc_word.specs.declared.job_list.Job.{Job}
use Rattle.osc_word.specs.declared.job_list.Job.TheVariants.{PutWord, ZeroWords, CopyWords, CopyPart, CopyTable, ClearBox, Tell, ToOut}
use Rattle.osc_paging.specs.JobWords.{words_after, words_done}
use Rattle.osc_calls.specs.Kernel.{KernelState, next_job}
use Rattle.osc_calls.specs.JobDone.{job_done, output_after}
use Rattle.osc_core.specs.Words.{AllWrite, Writes, no_entry}

abbrev pub without_jobs : KernelState → KernelState
without_jobs k = record k { jobs = [] }

-- what holds before each job and after the last one
pub record Doing (first k : KernelState) (before words : List ℕ) : Type 0 where
  pub writes : AllWrite k.jobs
  pub same : words_after no_entry k.jobs words ≡ words_after no_entry first.jobs before
  pub kernel : without_jobs k ≡ without_jobs first

pub begins_doing : (k : KernelState) (words : List ℕ) → AllWrite k.jobs → Doing k k words words
begins_doing k words w = record { writes = w; same = refl; kernel = refl }

record HasNext (job : Job) (jobs : List Job) : Type 0 where
  rest : List Job
  is : jobs ≡ job ∷ rest

next_is : (jobs : List Job) (k : KernelState) (job : Job) → k.jobs ≡ jobs → next_job k ≡ Some job → HasNext job jobs
next_is [] k job e n = absurd (let z : None ≡ Some job = sym (ap (λ (js : List Job). next_job (record k { jobs = js })) e) ∙ n in let w : ⊥ = grind (arith, z) in w)
next_is (j ∷ js) k job e n =
    let z : Some j ≡ Some job = sym (ap (λ (x : List Job). next_job (record k { jobs = x })) e) ∙ n in
    let same : j ≡ job = cc in record { rest = js; is = ap (λ x. x ∷ js) same }

pub none_left : (jobs : List Job) (k : KernelState) → k.jobs ≡ jobs → next_job k ≡ None → jobs ≡ []
none_left [] k e n = refl
none_left (j ∷ js) k e n = absurd (let z : Some j ≡ None = sym (ap (λ (x : List Job). next_job (record k { jobs = x })) e) ∙ n in let w : ⊥ = grind (arith, z) in w)

silent : (job : Job) (output : List ℕ) → Writes job → output_after 0 (Some job) output ≡ output
silent (PutWord at value) output w = refl
silent (ZeroWords at count) output w = refl
silent (CopyWords from to count) output w = absurd w
silent (CopyPart from to bytes) output w = absurd w
silent (CopyTable from to) output w = absurd w
silent (ClearBox hart) output w = absurd w
silent (Tell hart) output w = absurd w
silent (ToOut at first count) output w = absurd w

-- one job
done_is : (k : KernelState) (job : Job) (rest : List Job) → k.jobs ≡ job ∷ rest → next_job k ≡ Some job → Writes job → (job_done 0 k).kernel ≡ record k { jobs = rest }
unfolding job_done
done_is k job rest e n w =
    ap (λ (js : List Job). record k { jobs = js; output = output_after 0 (next_job k) k.output }) (ap (λ (js : List Job). drop 1 js) e)
    ∙ ap (λ o. record k { jobs = rest; output = output_after 0 o k.output }) n
    ∙ ap (λ o. record k { jobs = rest; output = o }) (silent job k.output w)

module _ (first k next : KernelState) (before words : List ℕ) (job : Job) (was : Doing first k before words) (n : next_job k ≡ Some job) where
  the_next : HasNext job k.jobs
  the_next = next_is k.jobs k job refl n

  all_write : AllWrite (job ∷ the_next.rest)
  all_write = subst AllWrite the_next.is was.writes

  pub writes_next : Writes job
  writes_next = all_write.0

  module _ (done : next ≡ (job_done 0 k).kernel) where
    is_done : next ≡ record k { jobs = the_next.rest }
    is_done = done ∙ done_is k job the_next.rest the_next.is n writes_next

    pub fewer : length next.jobs < length k.jobs
    fewer = let a = ap (λ (x : KernelState). length x.jobs) is_done in let b = ap (λ (js : List Job). length js) the_next.is in omega (arith, a, b)

    pub goes_on : Doing first next before (words_done no_entry job words)
    goes_on = record {
      writes = subst (λ (x : KernelState). AllWrite x.jobs) (sym is_done) all_write.1;
      same = ap (λ (x : KernelState). words_after no_entry x.jobs (words_done no_entry job words)) is_done
          ∙ sym (ap (λ js. words_after no_entry js words) the_next.is) ∙ was.same;
      kernel = ap without_jobs is_done ∙ was.kernel;
    }

module _ (first k : KernelState) (before words : List ℕ) (was : Doing first k before words) (n : next_job k ≡ None) where
  pub words_end : words ≡ words_after no_entry first.jobs before
  words_end = sym (ap (λ js. words_after no_entry js words) (none_left k.jobs k refl n)) ∙ was.same

  pub kernel_end : k ≡ without_jobs first
  kernel_end = ap (λ (js : List Job). record k { jobs = js }) (none_left k.jobs k refl n) ∙ was.kernel
