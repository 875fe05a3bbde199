-- A write keeps what holds.
use Rattle.std.proofs.Common.{ℕ, zero, suc, ◌+◌, ◌-◌, ◌*◌, ◌/◌, ◌%◌, ◌≡◌, ◌≤◌, nat_lt, min, max, Bool, true, false, cond, Option, Some, None, unwrap_or, List, [], ◌∷◌, ◌++◌, length, arith, refl, ap, sym, subst}
use Rattle.std.specs.List.{range_with_len, flat_map}
use Rattle.std.proofs.lemmas.List.Concat.{flat_map-cons}
use Rattle.std.proofs.lemmas.List.Sums.{sum_by-append}
use Rattle.osc_word.specs.declared.job_list.Job.{Job}
use Rattle.osc_word.specs.declared.job_list.Job.TheVariants.{ToOut}
use Rattle.osc_word.specs.declared.calls.Answer.TheVariants as answers
use Rattle.osc_paging.specs.KeptTables.{KeptTables}
use Rattle.osc_space.specs.Space.{Keeps}
use Rattle.osc_calls.specs.Kernel.{KernelState, Process, Calling, process_at}
use Rattle.osc_calls.specs.Labels.{out_count}
use Rattle.osc_calls.specs.WritePlan.{write_count, load_frame, first_unreadable, out_job, word_job, out_jobs, write_by, write_plan}
use Rattle.osc_settled.specs.Memory.{memory_of}
use Rattle.osc_settled.specs.UnderWay.{HasAlone}
use Rattle.osc_settled.proofs.Memories.{closes_for}
use Rattle.osc_settled.proofs.Commits.{Owed}
use Rattle.osc_settled.proofs.Outcomes.{Asks, caller_lives, closes_nothing}
use Rattle.osc_settled.proofs.Answering.{answered_owed}
use Rattle.osc_settled.proofs.Jobs.{AllWriteNothing, more_writes, more_memory}
use Rattle.osc_settled.proofs.Silent.{outs}

both-write_nothing : (xs ys : List Job) → AllWriteNothing xs → AllWriteNothing ys → AllWriteNothing (xs ++ ys)
both-write_nothing [] ys v w = w
both-write_nothing (x ∷ xs) ys v w = (v.0, both-write_nothing xs ys v.1 w)

-- ---- the pieces
piece-reads : (t : KeptTables) (from to : ℕ) → AllWriteNothing (out_job t from to)
piece-reads t from to = go (nat_lt from to)
  where
    go : (b : Bool) → AllWriteNothing (cond b (ToOut (record { frame = unwrap_or (load_frame t from) 0; index = from % 4096 / 8 }) (from % 8) (to - from) ∷ []) [])
    go true = (tt, tt)
    go false = tt

pieces-read : (t : KeptTables) (from to word count : ℕ) → AllWriteNothing (flat_map (word_job t from to) (range_with_len word count))
pieces-read t from to word zero = tt
pieces-read t from to word (suc count) =
    subst AllWriteNothing (sym (flat_map-cons (word_job t from to) word (range_with_len (word + 1) count)))
    (both-write_nothing (word_job t from to word) (flat_map (word_job t from to) (range_with_len (word + 1) count))
    (piece-reads t (max from (8 * word)) (min to (8 * word + 8))) (pieces-read t from to (word + 1) count))

piece-few : (t : KeptTables) (from to : ℕ) → outs (out_job t from to) ≤ to - from
piece-few t from to = go (nat_lt from to)
  where
    go : (b : Bool) → outs (cond b (ToOut (record { frame = unwrap_or (load_frame t from) 0; index = from % 4096 / 8 }) (from % 8) (to - from) ∷ []) []) ≤ to - from
    go true = omega arith
    go false = omega arith

pieces-few : (t : KeptTables) (from to word count : ℕ) → outs (flat_map (word_job t from to) (range_with_len word count)) ≤ to - max from (8 * word)
pieces-few t from to word zero = omega arith
pieces-few t from to word (suc count) =
    let e : outs (flat_map (word_job t from to) (range_with_len word (suc count))) ≡ outs (word_job t from to word ++ flat_map (word_job t from to) (range_with_len (word + 1) count)) =
    ap outs (flat_map-cons (word_job t from to) word (range_with_len (word + 1) count)) in
    let a = sum_by-append out_count (word_job t from to word) (flat_map (word_job t from to) (range_with_len (word + 1) count)) in
    let b = piece-few t (max from (8 * word)) (min to (8 * word + 8)) in
    let d = pieces-few t from to (word + 1) count in
    omega (arith, e, a, b, d)

jobs-few : (t : KeptTables) (buf count : ℕ) → outs (out_jobs t buf count) ≤ count
jobs-few t buf count = let a = pieces-few t buf (buf + count) (buf / 8) ((buf % 8 + count + 7) / 8) in omega (arith, a)

-- ---- the plan
written_owed : (words : List ℕ) (k : KernelState) (c : Calling) (t : KeptTables) (buf count : ℕ) → Asks words k c → length k.output + count ≤ 4194304
    → Owed words c (write_by None t buf count k)
written_owed words k c t buf count a l = record {
  sizes = record {
    config = a.sizes.config;
    memory = a.sizes.memory;
    free = a.sizes.free;
    regions = a.sizes.regions;
    records = a.sizes.records;
    processes = a.sizes.processes;
    threads = a.sizes.threads;
    journal = a.sizes.journal;
    output = (let x = sum_by-append out_count k.jobs (out_jobs t buf count) in let y = ap outs a.waits.jobs in let z = jobs-few t buf count in omega (arith, x, y, z, l));
    peak = a.sizes.peak;
  };
  room = a.waits.room;
  memory = more_memory words (memory_of k) (closes_for c.pid Keeps) (out_jobs t buf count) a.waits.jobs
      (pieces-read t buf (buf + count) (buf / 8) ((buf % 8 + count + 7) / 8)) (closes_nothing words (memory_of k) c.pid a.memory);
  records = a.records;
  manned = a.manned;
  lives = caller_lives words k c a;
  caller = a.waits.caller;
  jobs = more_writes (HasAlone k.regions (process_at k c.pid)) k.jobs (out_jobs t buf count) a.waits.jobs (pieces-read t buf (buf + count) (buf / 8) ((buf % 8 + count + 7) / 8));
  effect = refl;
}

room_left : (words : List ℕ) (k : KernelState) (c : Calling) (len : ℕ) → Asks words k c → length k.output + write_count k.output len ≤ 4194304
room_left words k c len a = let x = a.sizes.output in omega (arith, x)

pub write_owed : (words : List ℕ) (k : KernelState) (c : Calling) (p : Process) (buf len : ℕ) → Asks words k c → Owed words c (write_plan p buf len k)
write_owed words k c p buf len a = go (first_unreadable p.space.tables buf (write_count k.output len))
  where
    go : (bad : Option ℕ) → Owed words c (write_by bad p.space.tables buf (write_count k.output len) k)
    go None = written_owed words k c p.space.tables buf (write_count k.output len) a (room_left words k c len a)
    go (Some address) = answered_owed words k c (answers.BadBuffer address) a refl
