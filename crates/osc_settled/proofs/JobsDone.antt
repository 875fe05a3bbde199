-- A job that is done keeps what holds.
use Rattle.std.proofs.Common.{ℕ, zero, suc, ◌+◌, ◌≡◌, ◌≤◌, Some, List, [], ◌∷◌, length, take, drop, slice_get, arith, sym, ◌∙◌, subst}
use Rattle.std.specs.List.{sum_by}
use Rattle.std.proofs.lemmas.List.{length-append}
use Rattle.std.proofs.lemmas.List.Sums.{sum_by-cons}
use Rattle.byteorder.specs.Endian.{little_bytes}
use Rattle.osc_word.specs.declared.job_list.Job.{Job}
use Rattle.osc_word.specs.declared.job_list.Job.TheVariants.{PutWord, ZeroWords, CopyWords, CopyPart, CopyTable, ClearBox, Tell, ToOut}
use Rattle.osc_paging.specs.JobWords.{words_done, words_after}
use Rattle.osc_paging.specs.Agree.{Agrees}
use Rattle.osc_paging.proofs.Elsewhere.{length-words_done}
use Rattle.osc_space.specs.Space.{Closing}
use Rattle.osc_parts.specs.Jobs.{AllWriteWhere}
use Rattle.osc_calls.specs.Kernel.{KernelState, Calling, UnderWay, Quiet, Retrying, Leaving, Waiting, Returning, Effect, Nothing, Clears, Starts, Ends, process_at}
use Rattle.osc_calls.specs.Labels.{out_count}
use Rattle.osc_calls.specs.JobDone.{job_done, entries, output_after, bytes_of}
use Rattle.osc_settled.specs.Memory.{entries_in}
use Rattle.osc_settled.specs.UnderWay.{HasAlone, made_by, EffectFits, UnderWayFits}
use Rattle.osc_settled.specs.KernelFits.{KernelFits}
use Rattle.osc_settled.specs.KeepLaws.{JobsKeep}

-- the kernel with these jobs and this output in place of its own
abbrev with_work : List Job → List ℕ → KernelState → KernelState
with_work jobs output k = record k { jobs = jobs; output = output }

take-few : (count : ℕ) (xs : List ℕ) → length (take count xs) ≤ count
take-few zero xs = omega arith
take-few (suc count) [] = omega arith
take-few (suc count) (x ∷ xs) = let e = take-few count xs in omega (arith, e)

written : (word : ℕ) (job : Job) (output : List ℕ) → length (output_after word (Some job) output) ≤ length output + out_count job
written word (PutWord at value) output = omega arith
written word (ZeroWords at count) output = omega arith
written word (CopyWords from to count) output = omega arith
written word (CopyPart from to bytes) output = omega arith
written word (CopyTable from to) output = omega arith
written word (ClearBox hart) output = omega arith
written word (Tell hart) output = omega arith
written word (ToOut at first count) output =
    let a = length-append output (bytes_of word first count) in
    let b : length (bytes_of word first count) ≤ count = take-few count (drop first (little_bytes 8 word)) in
    omega (arith, a, b)

effect-work : (jobs : List Job) (output : List ℕ) (k : KernelState) (c : Calling) (closing : Closing) (e : Effect)
    → EffectFits k c closing e → EffectFits (with_work jobs output k) c closing e
effect-work jobs output k c closing Nothing f = f
effect-work jobs output k c closing Clears f = tt
effect-work jobs output k c closing (Starts hart start) f =
    (f.0, record { other = f.1.other; runs = f.1.runs; root = f.1.root; levels = f.1.levels; frames = f.1.frames })
effect-work jobs output k c closing (Ends status) f = f

some_jobs : {P : Type 0} (jobs rest : List Job) (job : Job) → jobs ≡ job ∷ rest → jobs ≡ [] → P
some_jobs jobs rest job e n = absurd (let z = sym e ∙ n in let w : ⊥ = grind (arith, z) in w)

under-work : (k : KernelState) (job : Job) (jobs : List Job) (output : List ℕ) (u : UnderWay) → k.jobs ≡ job ∷ jobs
    → UnderWayFits k u → UnderWayFits (with_work jobs output k) u
under-work k job jobs output Quiet e f = some_jobs k.jobs jobs job e f
under-work k job jobs output Retrying e f = some_jobs k.jobs jobs job e f
under-work k job jobs output (Leaving hart) e f = some_jobs k.jobs jobs job e f
under-work k job jobs output (Waiting c) e f = some_jobs k.jobs jobs job e f.jobs
under-work k job jobs output (Returning done) e f = record {
  last = f.last;
  lives = f.lives;
  caller = f.caller;
  jobs = (subst (λ js. AllWriteWhere (HasAlone k.regions (process_at k (made_by done.effect done.calling.pid))) js) e f.jobs).1;
  effect = effect-work jobs output k done.calling done.closing done.effect f.effect;
}

-- the first job is done
work_done : (word : ℕ) (words : List ℕ) (k : KernelState) (job : Job) (jobs : List Job) → KernelFits words k → k.jobs ≡ job ∷ jobs
    → KernelFits (words_done (entries k) job words) (with_work jobs (output_after word (Some job) k.output) k)
work_done word words k job jobs f e = record {
  sizes = record {
    config = f.sizes.config;
    memory = length-words_done (entries k) job words ∙ f.sizes.memory;
    free = f.sizes.free;
    regions = f.sizes.regions;
    records = f.sizes.records;
    processes = f.sizes.processes;
    threads = f.sizes.threads;
    journal = f.sizes.journal;
    output = (let a = written word job k.output in let b = sum_by-cons out_count job jobs in
        let c : length k.output + sum_by out_count (job ∷ jobs) ≤ 4194304 = subst (λ js. length k.output + sum_by out_count js ≤ 4194304) e f.sizes.output in
        omega (arith, a, b, c));
    peak = f.sizes.peak;
  };
  memory = record {
    spaces = λ pid p at lives. (let was = f.memory.spaces pid p at lives in record {
      returns = was.returns;
      frames = was.frames;
      tables = subst (λ js. Agrees p.space.tables k.free (words_after (entries_in k.processes) js words)) e was.tables;
    });
    bare = f.memory.bare;
    uses = f.memory.uses;
    holders = f.memory.holders;
  };
  records = f.records;
  manned = f.manned;
  under_way = under-work k job jobs (output_after word (Some job) k.output) k.under_way e f.under_way;
}

pub jobs_keep : JobsKeep
unfolding job_done
jobs_keep word words k job jobs f e =
    subst (λ (js : List Job). KernelFits (words_done (entries k) job words) (with_work (drop 1 js) (output_after word (slice_get js 0) k.output) k)) (sym e) (work_done word words k job jobs f e)
