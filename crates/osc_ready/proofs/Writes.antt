-- How many bytes the jobs of a plan write out.
use Rattle.std.proofs.Common.{ℕ, zero, suc, ◌+◌, ◌-◌, ◌*◌, ◌/◌, ◌%◌, ◌≡◌, ◌≤◌, nat_lt, min, max, take, Bool, true, false, cond, Option, Some, None, unwrap_or, List, [], ◌∷◌, ◌++◌, map, length, arith, refl, ap, sym, ◌∙◌, subst}
use Rattle.std.specs.Prelude.{is_some}
use Rattle.std.specs.List.{range_with_len, flat_map}
use Rattle.std.proofs.lemmas.Bool.Decides.{nat_tests}
use Rattle.std.proofs.lemmas.List.Concat.{flat_map-cons}
use Rattle.std.proofs.lemmas.List.Sums.{sum_by-append}
use Rattle.osc_word.specs.declared.job_list.Job.{Job}
use Rattle.osc_word.specs.declared.job_list.Job.TheVariants.{ToOut, Tell}
use Rattle.osc_word.specs.declared.calls.Call.{Call}
use Rattle.osc_word.specs.declared.calls.Call.TheVariants as calls
use Rattle.osc_word.specs.declared.calls.Answer.{Answer}
use Rattle.osc_word.specs.declared.calls.Answer.TheVariants as answers
use Rattle.osc_paging.specs.KeptTables.{KeptTables, piece_of}
use Rattle.osc_paging.specs.TableChanges.{zero_job}
use Rattle.osc_space.specs.Header.{Found}
use Rattle.osc_space.specs.LeafFlags.{read_write_at}
use Rattle.osc_space.specs.Space.{Space}
use Rattle.osc_space.specs.Fork.{copies, copy_by, copy_job, fork_plan, free_numbers, set_free}
use Rattle.osc_space.specs.Share.{Sharing, next_shared_page, share_plan}
use Rattle.osc_calls.specs.Kernel.{KernelState, Process, Calling, Waiting, process_at, is_last}
use Rattle.osc_calls.specs.Labels.{out_count}
use Rattle.osc_calls.specs.Planned.{Planned, answered, planned_unless}
use Rattle.osc_calls.specs.HeapPlans.{terms_of}
use Rattle.osc_calls.specs.ProcessPlans.{new_hart, fork_done, spawn_done, share_done, done_by, value_left}
use Rattle.osc_calls.specs.Refusals.{draft_of, sharing_of, refusal_of}
use Rattle.osc_calls.specs.Requests.{meant}
use Rattle.osc_calls.specs.WritePlan.{write_count, load_frame, first_unreadable, out_job, word_job, out_jobs, write_by, write_plan}
use Rattle.osc_calls.specs.Plan.{plan_meant, plan_of}
use Rattle.osc_settled.proofs.Silent.{outs, outs-push, outs-map, map_pages-outs, malloc_by-silent, free_of-silent, realloc_by-silent}
use Rattle.osc_ready.specs.Writes.{writes_out, PlansWrite}

-- ---- the pieces of a write
piece-sum : (t : KeptTables) (from to : ℕ) → outs (out_job t from to) ≡ to - from
piece-sum t from to = go (nat_lt from to) refl
  where
    go : (b : Bool) → nat_lt from to ≡ b → outs (cond b (ToOut (record { frame = unwrap_or (load_frame t from) 0; index = from % 4096 / 8 }) (from % 8) (to - from) ∷ []) []) ≡ to - from
    go true e = omega arith
    go false e = let l : to ≤ from = grind (arith, nat_tests, e) in omega (arith, l)

pieces-sum : (t : KeptTables) (from to word count : ℕ) → from ≤ to
    → outs (flat_map (word_job t from to) (range_with_len word count)) ≡ min to (8 * (word + count)) - max from (8 * word)
pieces-sum t from to word zero l = omega arith
pieces-sum t from to word (suc count) l =
    let e : outs (flat_map (word_job t from to) (range_with_len word (suc count))) ≡ outs (word_job t from to word ++ flat_map (word_job t from to) (range_with_len (word + 1) count)) =
    ap outs (flat_map-cons (word_job t from to) word (range_with_len (word + 1) count)) in
    let a = sum_by-append out_count (word_job t from to word) (flat_map (word_job t from to) (range_with_len (word + 1) count)) in
    let b = piece-sum t (max from (8 * word)) (min to (8 * word + 8)) in
    let d = pieces-sum t from to (word + 1) count l in
    telescopes from to word count _ _ _ l (e ∙ a) b d
  where
    telescopes : (from to word count x y z : ℕ) → from ≤ to → x ≡ y + z → y ≡ min to (8 * word + 8) - max from (8 * word)
        → z ≡ min to (8 * (word + 1 + count)) - max from (8 * (word + 1)) → x ≡ min to (8 * (word + suc count)) - max from (8 * word)
    telescopes from to word count x y z l e b d = omega (arith, l, e, b, d)

jobs-sum : (t : KeptTables) (buf count : ℕ) → outs (out_jobs t buf count) ≡ count
jobs-sum t buf count =
    let a = pieces-sum t buf (buf + count) (buf / 8) ((buf % 8 + count + 7) / 8) (omega arith) in
    omega (arith, a)

-- ---- the plans
-- what the jobs write out is what the answer says
abbrev Fits : Call → Planned → Type 0
Fits call m = (outs m.kernel.jobs ≡ writes_out call m.answer) × (writes_out call m.answer ≤ 4194304)

written : (p : Process) (k : KernelState) (buf len : ℕ) (bad : Option ℕ) → outs k.jobs ≡ 0 → Fits (calls.Write buf len) (write_by bad p.space.tables buf (write_count k.output len) k)
written p k buf len (Some address) e = (e, omega arith)
written p k buf len None e =
    let a = sum_by-append out_count k.jobs (out_jobs p.space.tables buf (write_count k.output len)) in
    let b = jobs-sum p.space.tables buf (write_count k.output len) in
    (omega (arith, a, b, e), omega arith)

refused : (call : Call) (r : Option Answer) (k : KernelState) (m : Planned) → ((answer : Answer) → writes_out call answer ≡ 0) → outs k.jobs ≡ 0 → outs m.kernel.jobs ≡ 0 → Fits call (planned_unless r k m)
refused call (Some answer) k m none e f = let a = none answer in (omega (arith, a, e), omega (arith, a))
refused call None k m none e f = let a = none m.answer in (omega (arith, a, f), omega (arith, a))

copies_outs : (t : KeptTables) (pairs : List (ℕ × ℕ)) → outs (map (copy_job t) pairs) ≡ 0
copies_outs t pairs = outs-map (copy_job t) pairs (λ c. none (is_some (piece_of t.tables c.0)) c)
  where
    none : (b : Bool) (c : ℕ × ℕ) → out_count (copy_by b c) ≡ 0
    none true c = refl
    none false c = refl

fork_outs : (s : Space) (free : List Bool) → outs (fork_plan s free).jobs ≡ 0
unfolding fork_plan
fork_outs s free = copies_outs s.tables (copies s free)

share_outs : (n : ℕ) (s : Sharing) → outs (share_plan n s).jobs ≡ outs s.jobs
unfolding share_plan
share_outs n s =
    let fs = take n (free_numbers s.free) in
    map_pages-outs (next_shared_page s.tables) (map read_write_at fs) (record { tables = s.tables; free = set_free false fs s.free; jobs = s.jobs ++ map zero_job fs })
    ∙ outs-push s.jobs (map zero_job fs) (outs-map zero_job fs (λ f. refl))

left_jobs : (thread : Option ℕ) (value : ℕ) (k : KernelState) → (value_left thread value k).jobs ≡ k.jobs
left_jobs None value k = refl
left_jobs (Some number) value k = refl

done_jobs : (last : Bool) (c : Calling) (k : KernelState) → (done_by last c k).kernel.jobs ≡ k.jobs
done_jobs true c k = refl
done_jobs false c k = refl

-- what is answered nothing of a write
other : (call : Call) (m : Planned) → ((answer : Answer) → writes_out call answer ≡ 0) → outs m.kernel.jobs ≡ 0 → Fits call m
other call m none e = let a = none m.answer in (omega (arith, a, e), omega (arith, a))

row : (found : Found) (c : Calling) (p : Process) (k : KernelState) (call : Call) → k.jobs ≡ [] → Fits call (plan_meant found c p k call)
row found c p k (calls.Exit status) e = other (calls.Exit status) (plan_meant found c p k (calls.Exit status)) (λ a. refl) (ap outs e)
row found c p k (calls.Write buf len) e = written p k buf len (first_unreadable p.space.tables buf (write_count k.output len)) (ap outs e)
row found c p k (calls.Malloc size) e =
    other (calls.Malloc size) (plan_meant found c p k (calls.Malloc size)) (λ a. refl) ((malloc_by-silent k.config.heap size (draft_of k p)).writes ∙ ap outs e)
row found c p k (calls.Free pointer) e =
    other (calls.Free pointer) (plan_meant found c p k (calls.Free pointer)) (λ a. refl)
    ((free_of-silent k.config.heap (terms_of k) pointer found (draft_of k p)).writes ∙ ap outs e)
row found c p k (calls.Realloc pointer size) e =
    other (calls.Realloc pointer size) (plan_meant found c p k (calls.Realloc pointer size)) (λ a. refl)
    ((realloc_by-silent k.config.heap (terms_of k) pointer size found (draft_of k p)).writes ∙ ap outs e)
row found c p k calls.Fork e =
    refused calls.Fork (refusal_of calls.Fork p k) k (fork_done c p k) (λ a. refl) (ap outs e)
    (outs-push k.jobs (fork_plan p.space k.free).jobs (fork_outs p.space k.free) ∙ ap outs e)
row found c p k (calls.Spawn pc sp arg) e =
    refused (calls.Spawn pc sp arg) (refusal_of (calls.Spawn pc sp arg) p k) k (spawn_done c p pc sp arg k) (λ a. refl) (ap outs e)
    (ap (λ js. outs (js ++ Tell (new_hart k) ∷ [])) e)
row found c p k (calls.Join number) e = other (calls.Join number) (plan_meant found c p k (calls.Join number)) (λ a. refl) (ap outs e)
row found c p k (calls.Done value) e =
    other (calls.Done value) (plan_meant found c p k (calls.Done value)) (λ a. refl)
    (ap outs (done_jobs (is_last k.records c.pid) c (value_left c.thread value k) ∙ left_jobs c.thread value k ∙ e))
row found c p k (calls.Share count) e =
    refused (calls.Share count) (refusal_of (calls.Share count) p k) k (share_done c p count k) (λ a. refl) (ap outs e)
    (share_outs count (sharing_of k p) ∙ ap outs e)
row found c p k (calls.Wait number) e = other (calls.Wait number) (plan_meant found c p k (calls.Wait number)) (λ a. refl) (ap outs e)
row found c p k (calls.Unknown number) e = other (calls.Unknown number) (plan_meant found c p k (calls.Unknown number)) (λ a. refl) (ap outs e)
row found c p k (calls.End fault) e = other (calls.End fault) (plan_meant found c p k (calls.End fault)) (λ a. refl) (ap outs e)

pub plans_write : PlansWrite
plans_write found c p k e = let r = row found c p k (meant c.call) e in record { jobs = r.0; most = r.1 }
