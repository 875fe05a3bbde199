-- How many jobs a plan pushes, and how many frames it takes.
use Rattle.std.proofs.Common.{ℕ, zero, suc, ◌+◌, ◌-◌, ◌*◌, ◌/◌, ◌%◌, ◌≡◌, ◌≤◌, ◌==◌, nat_lt, nat_le, min, max, Bool, true, false, cond, Option, Some, None, is_none, unwrap_or, List, [], ◌∷◌, ◌++◌, length, arith, refl, ap, sym, ◌∙◌, subst}
use Rattle.std.specs.Prelude.{if◌then◌else◌}
use Rattle.std.specs.List.{range_with_len, flat_map}
use Rattle.std.proofs.lemmas.List.{length-append}
use Rattle.std.proofs.lemmas.List.Concat.{flat_map-cons}
use Rattle.osc_word.specs.declared.settings.HeapKind.{HeapKind}
use Rattle.osc_word.specs.declared.settings.HeapKind.TheVariants.{Oscar, Plain}
use Rattle.osc_word.specs.declared.job_list.Job.{Job}
use Rattle.osc_word.specs.declared.job_list.Job.TheVariants.{Tell, ToOut}
use Rattle.osc_word.specs.declared.calls.Answer.{Answer}
use Rattle.osc_word.specs.declared.calls.Answer.TheVariants as answers
use Rattle.osc_word.specs.declared.calls.Call.{Call}
use Rattle.osc_word.specs.declared.calls.Call.TheVariants as calls
use Rattle.osc_class.specs.Rooms.{room_of, shadow_pages}
use Rattle.osc_slot.specs.declared.Block.{Block}
use Rattle.osc_slot.specs.Slots.{is_room}
use Rattle.osc_slot.specs.Heap.{free_count, block_of_user}
use Rattle.osc_paging.specs.KeptTables.{KeptTables, need}
use Rattle.osc_space.specs.Space.{Draft, Outcome, Terms, Reason, first_reason}
use Rattle.osc_space.specs.Objects.{Seen, next_page, object_at}
use Rattle.osc_space.specs.Header.{Found, object_reasons}
use Rattle.osc_space.specs.Malloc.{memory_reasons, block_need}
use Rattle.osc_space.specs.Realloc.{stays, frames_for}
use Rattle.osc_space.specs.Share.{Regions, next_shared_page, share_plan}
use Rattle.osc_space.specs.Fork.{private_frames, fork_plan, fork_reasons}
use Rattle.osc_parts.specs.Settled.{Settled}
use Rattle.osc_parts.specs.PlanFits.{PlanFits}
use Rattle.osc_parts.specs.FreeLaws.{HasTerms}
use Rattle.osc_parts.proofs.MallocParts.{mallocs_take_need}
use Rattle.osc_parts.proofs.ReallocKinds.{reallocs_take_need}
use Rattle.osc_parts.proofs.ShareParts.{shares_fit}
use Rattle.osc_parts.proofs.ForkParts.{forks_fit}
use Rattle.osc_calls.specs.Kernel.{KernelState, Process, Calling, Waiting, process_at, is_last, idle_hart}
use Rattle.osc_calls.specs.Requests.{meant}
use Rattle.osc_calls.specs.Refusals.{draft_of, sharing_of, refusal_of, malloc_wants, realloc_wants, object_wants, block_wants}
use Rattle.osc_calls.specs.Planned.{Planned, planned_unless}
use Rattle.osc_calls.specs.HeapPlans.{terms_of, malloc_by, free_of, realloc_by}
use Rattle.osc_calls.specs.WritePlan.{write_count, load_frame, first_unreadable, out_job, word_job, out_jobs, write_by}
use Rattle.osc_calls.specs.ProcessPlans.{new_hart, value_left, done_by, fork_done, spawn_done, share_done}
use Rattle.osc_calls.specs.Plan.{plan_meant, plan_of, committed, plan_by, plan_waiting, plan}
use Rattle.osc_settled.specs.Records.{is_living}
use Rattle.osc_settled.specs.FollowLaws.{most_jobs, JobsHaveRoom, plain_need, MallocsTake, ReallocsTake, PlainMallocsTake, PlainReallocsTake, ForksTake, SharesTake}
use Rattle.osc_settled.proofs.Outcomes.{Asks, asks, caller_lives}
use Rattle.osc_settled.proofs.Answering.{settled, has_terms, malloc_fits, null_fits, realloc_fits}
use Rattle.osc_settled.proofs.Forking.{none_of}
use Rattle.osc_settled.proofs.TakingForks.{fork_takes}
use Rattle.osc_settled.proofs.TakingPlain.{plain_malloc_takes}
use Rattle.osc_settled.proofs.TakingRealloc.{plain_realloc_takes}

-- ---- a plan that commits
plan_is : (found : Found) (k : KernelState) (c : Calling) (p : Process) → k.under_way ≡ Waiting c → process_at k c.pid ≡ Some p
    → (plan found k).kernel ≡ committed c (plan_of found c p k)
unfolding plan
plan_is found k c p u e = ap (λ x. (plan_waiting found x k).kernel) u ∙ ap (λ o. (plan_by found c o k).kernel) e

-- ---- jobs
none_few : (jobs : List Job) (most : ℕ) → jobs ≡ [] → length jobs ≤ most
none_few jobs most e = let a = ap (λ (js : List Job). length js) e in omega (arith, a)

piece-one : (t : KeptTables) (from to : ℕ) → length (out_job t from to) ≤ 1
piece-one t from to = go (nat_lt from to)
  where
    go : (b : Bool) → length {A = Job} (cond b (ToOut (record { frame = unwrap_or (load_frame t from) 0; index = from % 4096 / 8 }) (from % 8) (to - from) ∷ []) []) ≤ 1
    go true = omega arith
    go false = omega arith

pieces-one : (t : KeptTables) (from to word count : ℕ) → length (flat_map (word_job t from to) (range_with_len word count)) ≤ count
pieces-one t from to word zero = omega arith
pieces-one t from to word (suc count) =
    let e : length (flat_map (word_job t from to) (range_with_len word (suc count))) ≡ length (word_job t from to word ++ flat_map (word_job t from to) (range_with_len (word + 1) count)) =
    ap (λ (js : List Job). length js) (flat_map-cons (word_job t from to) word (range_with_len (word + 1) count)) in
    let a = length-append (word_job t from to word) (flat_map (word_job t from to) (range_with_len (word + 1) count)) in
    let b = piece-one t (max from (8 * word)) (min to (8 * word + 8)) in
    let d = pieces-one t from to (word + 1) count in
    omega (arith, e, a, b, d)

written-few : (t : KeptTables) (buf count : ℕ) → count ≤ 4194304 → length (out_jobs t buf count) ≤ 524289
written-few t buf count l = let a = pieces-one t buf (buf + count) (buf / 8) ((buf % 8 + count + 7) / 8) in omega (arith, a, l)

write-few : (bad : Option ℕ) (t : KeptTables) (buf count : ℕ) (k : KernelState) → k.jobs ≡ [] → count ≤ 4194304 → length (write_by bad t buf count k).kernel.jobs ≤ 524289
write-few (Some address) t buf count k e l = none_few k.jobs 524289 e
write-few None t buf count k e l =
    let a = length-append k.jobs (out_jobs t buf count) in let b = ap (λ (js : List Job). length js) e in let d = written-few t buf count l in omega (arith, a, b, d)

pushed-few : (before after more : List Job) (most : ℕ) → before ≡ [] → after ≡ before ++ more → length more ≤ most → length after ≤ most
pushed-few before after more most e is l =
    let a = ap (λ (js : List Job). length js) is in let b = length-append before more in let c = ap (λ (js : List Job). length js) e in omega (arith, a, b, c, l)

heap-few : (words : List ℕ) (k : KernelState) (c : Calling) (p : Process) (o : Outcome) → Asks words k c
    → PlanFits k.config.heap k.config.batch (λ x y. 0) words k.regions (draft_of k p) o → length o.draft.jobs ≤ 8 * k.config.frames + 64
heap-few words k c p o a f =
    let l = pushed-few k.jobs o.draft.jobs f.pushes.more (8 * length k.free + 64) a.waits.jobs f.pushes.is f.pushes.few in let s = a.sizes.free in omega (arith, l, s)

done-jobs : (last : Bool) (c : Calling) (thread : Option ℕ) (value : ℕ) (k : KernelState) → (done_by last c (value_left thread value k)).kernel.jobs ≡ k.jobs
done-jobs true c None value k = refl
done-jobs true c (Some number) value k = refl
done-jobs false c None value k = refl
done-jobs false c (Some number) value k = refl

unless-few : (r : Option Answer) (k : KernelState) (made : Planned) (most : ℕ) → k.jobs ≡ [] → (r ≡ None → length made.kernel.jobs ≤ most) → length (planned_unless r k made).kernel.jobs ≤ most
unless-few (Some answer) k made most e h = none_few k.jobs most e
unless-few None k made most e h = h refl

few : (words : List ℕ) (found : Found) (c : Calling) (p : Process) (k : KernelState) (call : Call) → Asks words k c → process_at k c.pid ≡ Some p
    → length (plan_meant found c p k call).kernel.jobs ≤ most_jobs k.config call
few words found c p k (calls.Exit status) a e = none_few k.jobs (8 * k.config.frames + 64) a.waits.jobs
few words found c p k (calls.Write buf len) a e =
    write-few (first_unreadable p.space.tables buf (write_count k.output len)) p.space.tables buf (write_count k.output len) k a.waits.jobs (omega arith)
few words found c p k (calls.Malloc n) a e =
    heap-few words k c p (malloc_by k.config.heap n (draft_of k p)) a
    (malloc_fits k.config.heap k.config.batch (λ x y. 0) words k.regions n (draft_of k p) (settled words k c p (λ x y. 0) a e))
few words found c p k (calls.Free pointer) a e =
    heap-few words k c p (free_of k.config.heap (terms_of k) pointer found (draft_of k p)) a
    (null_fits k.config.heap k.config.batch (λ x y. 0) words k.regions (terms_of k) pointer found (draft_of k p) (pointer == 0) (has_terms words k c a) (settled words k c p (λ x y. 0) a e))
few words found c p k (calls.Realloc pointer n) a e =
    heap-few words k c p (realloc_by k.config.heap (terms_of k) pointer n found (draft_of k p)) a
    (realloc_fits k.config.heap k.config.batch (λ x y. 0) words k.regions (terms_of k) pointer n found (draft_of k p) (has_terms words k c a) (settled words k c p (λ x y. 0) a e))
few words found c p k calls.Fork a e =
    unless-few (refusal_of calls.Fork p k) k (fork_done c p k) (8 * k.config.frames + 64) a.waits.jobs
    (λ r. (let n = none_of (is_none (idle_hart k.records)) (nat_le k.config.processes (length k.processes)) answers.NoHart answers.NoProcess (fork_reasons p.space k.free) r in
    let f = forks_fit k.config.heap k.config.batch (λ x y. 0) words k.regions (draft_of k p) (settled words k c p (λ x y. 0) a e) n.2 in
    let l = pushed-few k.jobs (k.jobs ++ (fork_plan p.space k.free).jobs) f.pushes.more (8 * length k.free + 64) a.waits.jobs f.pushes.is f.pushes.few in
    let s = a.sizes.free in omega (arith, l, s)))
few words found c p k (calls.Spawn pc sp arg) a e =
    unless-few (refusal_of (calls.Spawn pc sp arg) p k) k (spawn_done c p pc sp arg k) (8 * k.config.frames + 64) a.waits.jobs
    (λ r. pushed-few k.jobs (k.jobs ++ Tell (new_hart k) ∷ []) (Tell (new_hart k) ∷ []) (8 * k.config.frames + 64) a.waits.jobs refl (omega arith))
few words found c p k (calls.Join number) a e = none_few k.jobs (8 * k.config.frames + 64) a.waits.jobs
few words found c p k (calls.Done value) a e =
    none_few (done_by (is_last k.records c.pid) c (value_left c.thread value k)).kernel.jobs (8 * k.config.frames + 64) (done-jobs (is_last k.records c.pid) c c.thread value k ∙ a.waits.jobs)
few words found c p k (calls.Share n) a e =
    unless-few (refusal_of (calls.Share n) p k) k (share_done c p n k) (8 * k.config.frames + 64) a.waits.jobs
    (λ r. (let f = shares_fit k.config.heap k.config.batch (λ x y. 0) words k.regions n (draft_of k p) (settled words k c p (λ x y. 0) a e) r in
    let l = pushed-few k.jobs (share_plan n (sharing_of k p)).jobs f.pushes.more (8 * length k.free + 64) a.waits.jobs f.pushes.is f.pushes.few in
    let s = a.sizes.free in omega (arith, l, s)))
few words found c p k (calls.Wait number) a e = none_few k.jobs (8 * k.config.frames + 64) a.waits.jobs
few words found c p k (calls.Unknown number) a e = none_few k.jobs (8 * k.config.frames + 64) a.waits.jobs
few words found c p k (calls.End fault) a e = none_few k.jobs (8 * k.config.frames + 64) a.waits.jobs

pub jobs_have_room : JobsHaveRoom
jobs_have_room words found k c f u = go (process_at k c.pid) refl
  where
    a : Asks words k c
    a = asks words k c f u

    go : (o : Option Process) → process_at k c.pid ≡ o → length (plan found k).kernel.jobs ≤ most_jobs k.config (meant c.call)
    go None e = absurd (let z = sym (caller_lives words k c a) ∙ ap is_living e in let w : ⊥ = grind (arith, z) in w)
    go (Some p) e = subst (λ (x : KernelState). length x.jobs ≤ most_jobs k.config (meant c.call)) (sym (plan_is found k c p u e)) (few words found c p k (meant c.call) a e)

-- ---- frames
-- under the heap with shadows
oscar_takes : (kind : HeapKind) (batch : ℕ) (words : List ℕ) (regions : Regions) (n : ℕ) (d : Draft) → kind ≡ Oscar → Settled kind batch (λ x y. 0) words regions d
    → first_reason (malloc_wants kind n d) ≡ None
    → free_count (malloc_by kind n d).draft.free + (block_need d (room_of n) + need d.space.tables (next_page d.space.objects) (shadow_pages (room_of n))) ≡ free_count d.free
oscar_takes kind batch words regions n d h s e =
    subst (λ x. free_count (malloc_by x n d).draft.free + (block_need d (room_of n) + need d.space.tables (next_page d.space.objects) (shadow_pages (room_of n))) ≡ free_count d.free) (sym h)
    (mallocs_take_need batch (λ x y. 0) words regions n d (subst (λ x. Settled x batch (λ a b. 0) words regions d) h s) (subst (λ x. first_reason (malloc_wants x n d) ≡ None) h e))

pub mallocs_take : MallocsTake
mallocs_take words found k c p n f u e h m r =
    let a = asks words k c f u in
    let is = plan_is found k c p u e ∙ ap (λ call. committed c (plan_meant found c p k call)) m in
    subst (λ (x : KernelState). free_count x.free + (block_need (draft_of k p) (room_of n) + need p.space.tables (next_page p.space.objects) (shadow_pages (room_of n))) ≡ free_count k.free) (sym is)
    (oscar_takes k.config.heap k.config.batch words k.regions n (draft_of k p) h (settled words k c p (λ x y. 0) a e) (subst (λ call. refusal_of call p k ≡ None) m r))

-- neither list has a reason that holds
no_reason : (xs ys : List Reason) → first_reason xs ≡ None → first_reason ys ≡ None → first_reason (xs ++ ys) ≡ None
no_reason [] ys e f = f
no_reason (x ∷ xs) ys e f = go x.holds refl (λ rest. no_reason xs ys rest f)
  where
    go : (b : Bool) → x.holds ≡ b → (first_reason xs ≡ None → first_reason (xs ++ ys) ≡ None) → first_reason (x ∷ (xs ++ ys)) ≡ None
    go true d later = absurd (let z : ⊥ = grind (arith, e, d) in z)
    go false d later =
        let rest : first_reason xs ≡ None = grind (arith, e, d) in
        let all = later rest in
        grind (arith, all, d)

oscar_moves : (kind : HeapKind) (batch : ℕ) (words : List ℕ) (regions : Regions) (terms : Terms) (pointer n : ℕ) (found : Found) (s : Seen) (d : Draft) → kind ≡ Oscar → Settled kind batch (λ x y. 0) words regions d → HasTerms batch terms
    → object_at d.space.objects pointer ≡ Some s → first_reason (object_reasons (Some s) found) ≡ None → first_reason (realloc_wants kind pointer n d) ≡ None
    → free_count (realloc_by kind terms pointer n found d).draft.free + (frames_for (stays s.fact n) n d + need d.space.tables (next_page d.space.objects) (shadow_pages (room_of n))) ≡ free_count d.free
oscar_moves kind batch words regions terms pointer n found s d h k t is o e =
    let wants = subst (λ x. first_reason (object_wants x n d) ≡ None) is (subst (λ x. first_reason (realloc_wants x pointer n d) ≡ None) h e) in
    subst (λ x. free_count (realloc_by x terms pointer n found d).draft.free + (frames_for (stays s.fact n) n d + need d.space.tables (next_page d.space.objects) (shadow_pages (room_of n))) ≡ free_count d.free) (sym h)
    (reallocs_take_need batch (λ x y. 0) words regions terms pointer n found d s (subst (λ x. Settled x batch (λ a b. 0) words regions d) h k) t is
    (no_reason (object_reasons (Some s) found) (memory_reasons (frames_for (stays s.fact n) n d) (shadow_pages (room_of n)) d) o wants))

pub reallocs_take : ReallocsTake
reallocs_take words found k c p pointer n s f u e h m at o r =
    let a = asks words k c f u in
    let is = plan_is found k c p u e ∙ ap (λ call. committed c (plan_meant found c p k call)) m in
    subst (λ (x : KernelState). free_count x.free + (frames_for (stays s.fact n) n (draft_of k p) + need p.space.tables (next_page p.space.objects) (shadow_pages (room_of n))) ≡ free_count k.free) (sym is)
    (oscar_moves k.config.heap k.config.batch words k.regions (terms_of k) pointer n found s (draft_of k p) h (settled words k c p (λ x y. 0) a e) (has_terms words k c a) at o (subst (λ call. refusal_of call p k ≡ None) m r))

-- under the plain heap
plain_takes : (kind : HeapKind) (batch : ℕ) (words : List ℕ) (regions : Regions) (n : ℕ) (d : Draft) → kind ≡ Plain → Settled kind batch (λ x y. 0) words regions d
    → first_reason (malloc_wants kind n d) ≡ None
    → free_count (malloc_by kind n d).draft.free + plain_need n d ≡ free_count d.free
plain_takes kind batch words regions n d h s e =
    subst (λ x. free_count (malloc_by x n d).draft.free + plain_need n d ≡ free_count d.free) (sym h)
    (plain_malloc_takes batch (λ x y. 0) words regions n d (subst (λ x. Settled x batch (λ a b. 0) words regions d) h s) (subst (λ x. first_reason (malloc_wants x n d) ≡ None) h e))

pub plain_mallocs_take : PlainMallocsTake
plain_mallocs_take words found k c p n f u e h m r =
    let a = asks words k c f u in
    let is = plan_is found k c p u e ∙ ap (λ call. committed c (plan_meant found c p k call)) m in
    subst (λ (x : KernelState). free_count x.free + plain_need n (draft_of k p) ≡ free_count k.free) (sym is)
    (plain_takes k.config.heap k.config.batch words k.regions n (draft_of k p) h (settled words k c p (λ x y. 0) a e) (subst (λ call. refusal_of call p k ≡ None) m r))

plain_moves : (kind : HeapKind) (batch : ℕ) (words : List ℕ) (regions : Regions) (terms : Terms) (pointer n : ℕ) (found : Found) (old : Block) (d : Draft) → kind ≡ Plain → Settled kind batch (λ x y. 0) words regions d
    → block_of_user d.space.heap.held pointer ≡ Some old → first_reason (realloc_wants kind pointer n d) ≡ None
    → free_count (realloc_by kind terms pointer n found d).draft.free + (if is_room (room_of n) old.room then 0 else plain_need n d) ≡ free_count d.free
plain_moves kind batch words regions terms pointer n found old d h s is e =
    subst (λ x. free_count (realloc_by x terms pointer n found d).draft.free + (if is_room (room_of n) old.room then 0 else plain_need n d) ≡ free_count d.free) (sym h)
    (plain_realloc_takes batch (λ x y. 0) words regions terms.harts pointer n found.second old d (subst (λ x. Settled x batch (λ a b. 0) words regions d) h s) is
    (subst (λ o. first_reason (block_wants o n d) ≡ None) is (subst (λ x. first_reason (realloc_wants x pointer n d) ≡ None) h e)))

pub plain_reallocs_take : PlainReallocsTake
plain_reallocs_take words found k c p pointer n old f u e h m b r =
    let a = asks words k c f u in
    let is = plan_is found k c p u e ∙ ap (λ call. committed c (plan_meant found c p k call)) m in
    subst (λ (x : KernelState). free_count x.free + (if is_room (room_of n) old.room then 0 else plain_need n (draft_of k p)) ≡ free_count k.free) (sym is)
    (plain_moves k.config.heap k.config.batch words k.regions (terms_of k) pointer n found old (draft_of k p) h (settled words k c p (λ x y. 0) a e) b (subst (λ call. refusal_of call p k ≡ None) m r))

pub forks_take : ForksTake
forks_take words found k c p f u e m r =
    let none = subst (λ call. refusal_of call p k ≡ None) m r in
    let is = plan_is found k c p u e ∙ ap (λ call. committed c (plan_meant found c p k call)) m ∙ ap (λ x. committed c (planned_unless x k (fork_done c p k))) none in
    let n = none_of (is_none (idle_hart k.records)) (nat_le k.config.processes (length k.processes)) answers.NoHart answers.NoProcess (fork_reasons p.space k.free) none in
    subst (λ (x : KernelState). free_count x.free + length (private_frames p.space (length k.free)) ≡ free_count k.free) (sym is)
    (fork_takes p.space k.free n.2)

pub shares_take : SharesTake
shares_take words found k c p n f u e m r =
    let a = asks words k c f u in
    let none = subst (λ call. refusal_of call p k ≡ None) m r in
    let is = plan_is found k c p u e ∙ ap (λ call. committed c (plan_meant found c p k call)) m ∙ ap (λ x. committed c (planned_unless x k (share_done c p n k))) none in
    subst (λ (x : KernelState). free_count x.free + (n + need p.space.tables (next_shared_page p.space.tables) n) ≡ free_count k.free) (sym is)
    (shares_fit k.config.heap k.config.batch (λ x y. 0) words k.regions n (draft_of k p) (settled words k c p (λ x y. 0) a e) none).count
