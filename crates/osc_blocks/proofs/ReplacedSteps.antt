-- What a call replaced goes when it returns: each realloc that is done flushes, and no other call replaces.
use Rattle.std.proofs.Common.{ℕ, ◌≡◌, ◌==◌, cond, Bool, true, false, find, option_map, Option, Some, None, unwrap_or, List, [], ◌∷◌, slice_get, arith, refl, sym, ap, subst, ◌∙◌}
use Rattle.std.specs.Prelude.{if◌then◌else◌}
use Rattle.osc_word.specs.declared.calls.Answer.{Answer}
use Rattle.osc_word.specs.declared.calls.Answer.TheVariants as answers
use Rattle.osc_word.specs.declared.calls.Call.{Call}
use Rattle.osc_word.specs.declared.calls.Call.TheVariants as calls
use Rattle.osc_word.specs.declared.calls.Request.{Request}
use Rattle.osc_word.specs.declared.settings.Config.{Config}
use Rattle.osc_word.specs.declared.settings.HeapKind.{HeapKind}
use Rattle.osc_word.specs.declared.settings.HeapKind.TheVariants.{Oscar, Plain}
use Rattle.osc_class.specs.Rooms.{room_of}
use Rattle.osc_image.specs.Image.{Image}
use Rattle.osc_slot.specs.declared.Block.{Block}
use Rattle.osc_slot.specs.Slots.{is_room}
use Rattle.osc_slot.specs.Heap.{next_block, block_of_user}
use Rattle.osc_paging.specs.KeptTables.{KeptTables}
use Rattle.osc_space.specs.Objects.{Seen, object_at}
use Rattle.osc_space.specs.Space.{Draft, Outcome, Terms, Reason, Closing, Keeps, first_reason, unchanged, unless}
use Rattle.osc_space.specs.Header.{Found, object_reasons}
use Rattle.osc_space.specs.Malloc.{malloc_reasons, malloc_in, malloc_plan}
use Rattle.osc_space.specs.Free.{let_wait, freed, free_seen, free_plan}
use Rattle.osc_space.specs.Realloc.{stays, realloc_reasons, realloc_made, realloc_seen, realloc_plan}
use Rattle.osc_space.specs.PlainHeap.{plain_reasons, plain_malloc_in, plain_malloc_plan, plain_free_of, plain_free_plan, kept_bytes, plain_resize, plain_realloc_reasons, plain_realloc_of, plain_realloc_plan}
use Rattle.osc_space.specs.Fork.{fork_reasons}
use Rattle.osc_space.specs.Share.{share_reasons}
use Rattle.osc_space.specs.RefusalLaws.{is_refusal}
use Rattle.osc_space.proofs.RefusalLawProofs.{object_refuses, realloc_refuses}
use Rattle.osc_calls.specs.declared.Begun.{Begun}
use Rattle.osc_calls.specs.declared.Begun.TheVariants as begun
use Rattle.osc_calls.specs.declared.JoinLook.{JoinLook}
use Rattle.osc_calls.specs.declared.JoinLook.TheVariants as joined
use Rattle.osc_calls.specs.declared.WaitLook.{WaitLook}
use Rattle.osc_calls.specs.declared.WaitLook.TheVariants as waited
use Rattle.osc_calls.specs.CallLaws.{is_moved}
use Rattle.osc_calls.specs.Threads.{join_look}
use Rattle.osc_calls.specs.Kernel.{KernelState, Process, Calling, Committed, UnderWay, Quiet, Retrying, Leaving, Waiting, Returning, process_at, is_last}
use Rattle.osc_calls.specs.Requests.{calling_of, meant, wait_look, join_answer, wait_answer}
use Rattle.osc_calls.specs.Refusals.{draft_of, reasons_of, refusal_of}
use Rattle.osc_calls.specs.HeapPlans.{terms_of, malloc_by, free_by, free_of, realloc_by}
use Rattle.osc_calls.specs.Planned.{Planned, planned_unless}
use Rattle.osc_calls.specs.WritePlan.{write_by, first_unreadable, write_count}
use Rattle.osc_calls.specs.ProcessPlans.{done_by, value_left, fork_done, spawn_done, share_done}
use Rattle.osc_calls.specs.Plan.{plan_meant, plan_of, committed, plan_by, plan_waiting, plan}
use Rattle.osc_calls.specs.Begin.{no_words, begun_in, begin_as, begin_call, begin}
use Rattle.osc_calls.specs.JobDone.{job_done}
use Rattle.osc_calls.specs.Finish.{returned, finish_by, finish}
use Rattle.osc_calls.specs.Open.{open_kernel}
use Rattle.osc_safe.specs.KernelSteps.{Kept, Begins, Plans, EndsJob, Finishes}
use Rattle.osc_safe.proofs.SpacePlans.{Refuses, first_refuses}
use Rattle.osc_caches.specs.Going.{replaces}
use Rattle.osc_blocks.specs.Replacing.{ReplacesAtFlush, StepsKeepReplaced, RunsKeepReplaced}
use Rattle.osc_blocks.proofs.Runs.{runs-keep}

-- ---- answers
-- only one that tells of a move replaces
still-replaces : (a : Answer) (object : ℕ) → is_moved a ≡ false → replaces a object ≡ false
still-replaces (answers.Moved old new pointer) object e = absurd (let b : ⊥ = grind (arith, e) in b)
still-replaces a object e = refl

refusal-still : (a : Answer) → is_refusal a ≡ true → is_moved a ≡ false
refusal-still (answers.Moved old new pointer) e = absurd (let b : ⊥ = grind (arith, e) in b)
refusal-still a e = refl

-- what gives nothing back has moved nothing
abbrev Flushes : Closing → Answer → Type 0
Flushes closing a = closing ≡ Keeps → is_moved a ≡ false

-- ---- plans of one process's memory
abbrev OutcomeFlushes : Outcome → Type 0
OutcomeFlushes o = Flushes o.closing o.answer

unless-flushes : (r : Option Answer) (d : Draft) (made : Outcome) → Refuses r → OutcomeFlushes made → OutcomeFlushes (unless r d made)
unless-flushes None d made q f = f
unless-flushes (Some a) d made q f = λ e. refusal-still a q

malloc-flushes : (kind : HeapKind) (size : ℕ) (d : Draft) → OutcomeFlushes (malloc_by kind size d)
unfolding malloc_plan plain_malloc_plan
malloc-flushes Oscar size d =
    unless-flushes (first_reason (malloc_reasons size d)) d (malloc_in size (next_block d.space.heap (room_of size)) d) (first_refuses (malloc_reasons size d) (refl, (refl, tt))) (λ e. refl)
malloc-flushes Plain size d =
    unless-flushes (first_reason (plain_reasons (room_of size) d)) d (plain_malloc_in size (next_block d.space.heap (room_of size)) d) (first_refuses (plain_reasons (room_of size) d) (refl, tt)) (λ e. refl)

free-by-flushes : (kind : HeapKind) (terms : Terms) (pointer : ℕ) (found : Found) (d : Draft) → OutcomeFlushes (free_by kind terms pointer found d)
unfolding free_plan plain_free_plan
free-by-flushes Oscar terms pointer found d = go (object_at d.space.objects pointer)
  where
    go : (s : Option Seen) → OutcomeFlushes (free_seen s terms found d)
    go None = λ e. refl
    go (Some s) = unless-flushes (first_reason (object_reasons (Some s) found)) d (freed s.number terms (let_wait terms s d)) (first_refuses (object_reasons (Some s) found) (object_refuses s found)) (λ e. refl)
free-by-flushes Plain terms pointer found d = go (block_of_user d.space.heap.held pointer)
  where
    go : (b : Option Block) → OutcomeFlushes (plain_free_of b terms.harts d)
    go None = λ e. refl
    go (Some block) = λ e. refl

free-flushes : (kind : HeapKind) (terms : Terms) (pointer : ℕ) (found : Found) (d : Draft) → OutcomeFlushes (free_of kind terms pointer found d)
free-flushes kind terms pointer found d = go (pointer == 0)
  where
    go : (b : Bool) → OutcomeFlushes (cond b (unchanged answers.Nothing d) (free_by kind terms pointer found d))
    go true = λ e. refl
    go false = free-by-flushes kind terms pointer found d

resize-flushes : (stay : Bool) (harts : ℕ) (block : Block) (n bytes : ℕ) (d : Draft) → OutcomeFlushes (plain_resize stay harts block n bytes d)
resize-flushes true harts block n bytes d = λ e. refl
resize-flushes false harts block n bytes d = λ e. refl

plain-refuses : (b : Bool) (n : ℕ) (d : Draft) → Refuses (first_reason (if b then [] else plain_reasons (room_of n) d))
plain-refuses true n d = tt
plain-refuses false n d = first_refuses (plain_reasons (room_of n) d) (refl, tt)

realloc-flushes : (kind : HeapKind) (terms : Terms) (pointer n : ℕ) (found : Found) (d : Draft) → OutcomeFlushes (realloc_by kind terms pointer n found d)
unfolding realloc_plan plain_realloc_plan
realloc-flushes Oscar terms pointer n found d = go (object_at d.space.objects pointer)
  where
    go : (s : Option Seen) → OutcomeFlushes (realloc_seen s terms n found d)
    go None = λ e. refl
    go (Some s) = unless-flushes (first_reason (realloc_reasons (Some s) n found d)) d (realloc_made (stays s.fact n) terms s n d)
        (first_refuses (realloc_reasons (Some s) n found d) (realloc_refuses s n found d)) (λ e. absurd (let b : ⊥ = grind (arith, e) in b))
realloc-flushes Plain terms pointer n found d = go (block_of_user d.space.heap.held pointer)
  where
    go : (b : Option Block) → OutcomeFlushes (plain_realloc_of b terms.harts n found.second d)
    go None = λ e. refl
    go (Some block) = unless-flushes (first_reason (plain_realloc_reasons (Some block) n d)) d (plain_resize (is_room (room_of n) block.room) terms.harts block n (kept_bytes block found.second n) d)
        (plain-refuses (is_room (room_of n) block.room) n d) (resize-flushes (is_room (room_of n) block.room) terms.harts block n (kept_bytes block found.second n) d)

-- ---- the other plans
abbrev MadeFlushes : Planned → Type 0
MadeFlushes made = Flushes made.closing made.answer

abbrev AllStill : List Reason → Type 0
AllStill [] = Unit {0}
AllStill (r ∷ reasons) = (is_moved r.answer ≡ false) × AllStill reasons

abbrev StillOf : Option Answer → Type 0
StillOf None = Unit {0}
StillOf (Some a) = is_moved a ≡ false

first-still : (reasons : List Reason) → AllStill reasons → StillOf (first_reason reasons)
first-still [] h = tt
first-still (x ∷ xs) h = go x.holds (first-still xs h.1)
  where
    go : (b : Bool) → StillOf (first_reason xs) → StillOf (option_map (λ (r : Reason). r.answer) (cond b (Some x) (find (λ (r : Reason). r.holds) xs)))
    go true later = h.0
    go false later = later

planned-flushes : (r : Option Answer) (k : KernelState) (made : Planned) → StillOf r → is_moved made.answer ≡ false → MadeFlushes (planned_unless r k made)
planned-flushes None k made q f = λ e. f
planned-flushes (Some a) k made q f = λ e. q

fork-flushes : (k : KernelState) (c : Calling) (p : Process) → MadeFlushes (planned_unless (refusal_of calls.Fork p k) k (fork_done c p k))
unfolding fork_reasons
fork-flushes k c p = planned-flushes (refusal_of calls.Fork p k) k (fork_done c p k) (first-still (reasons_of calls.Fork p k) (refl, (refl, (refl, tt)))) refl

share-flushes : (count : ℕ) (k : KernelState) (c : Calling) (p : Process) → MadeFlushes (planned_unless (refusal_of (calls.Share count) p k) k (share_done c p count k))
unfolding share_reasons
share-flushes count k c p = planned-flushes (refusal_of (calls.Share count) p k) k (share_done c p count k) (first-still (reasons_of (calls.Share count) p k) (refl, (refl, tt))) refl

spawn-flushes : (pc sp arg : ℕ) (k : KernelState) (c : Calling) (p : Process) → MadeFlushes (planned_unless (refusal_of (calls.Spawn pc sp arg) p k) k (spawn_done c p pc sp arg k))
spawn-flushes pc sp arg k c p =
    planned-flushes (refusal_of (calls.Spawn pc sp arg) p k) k (spawn_done c p pc sp arg k) (first-still (reasons_of (calls.Spawn pc sp arg) p k) (refl, (refl, tt))) refl

write-flushes : (bad : Option ℕ) (t : KeptTables) (buf count : ℕ) (k : KernelState) → MadeFlushes (write_by bad t buf count k)
write-flushes None t buf count k = λ e. refl
write-flushes (Some address) t buf count k = λ e. refl

done-flushes : (last : Bool) (c : Calling) (k : KernelState) → MadeFlushes (done_by last c k)
done-flushes true c k = λ e. refl
done-flushes false c k = λ e. refl

joined-still : (look : JoinLook) → is_moved (unwrap_or (join_answer look) answers.Unknown) ≡ false
joined-still (joined.Value value) = refl
joined-still joined.NotYet = refl
joined-still joined.Unknown = refl

waited-still : (look : WaitLook) → is_moved (unwrap_or (wait_answer look) answers.Unknown) ≡ false
waited-still (waited.Status status) = refl
waited-still waited.NotYet = refl
waited-still waited.Unknown = refl

plan-flushes : (k : KernelState) (c : Calling) (p : Process) (found : Found) (call : Call) → MadeFlushes (plan_meant found c p k call)
plan-flushes k c p found (calls.Malloc size) = malloc-flushes k.config.heap size (draft_of k p)
plan-flushes k c p found (calls.Free pointer) = free-flushes k.config.heap (terms_of k) pointer found (draft_of k p)
plan-flushes k c p found (calls.Realloc pointer size) = realloc-flushes k.config.heap (terms_of k) pointer size found (draft_of k p)
plan-flushes k c p found calls.Fork = fork-flushes k c p
plan-flushes k c p found (calls.Share count) = share-flushes count k c p
plan-flushes k c p found (calls.Spawn pc sp arg) = spawn-flushes pc sp arg k c p
plan-flushes k c p found (calls.Write buf len) = write-flushes (first_unreadable p.space.tables buf (write_count k.output len)) p.space.tables buf (write_count k.output len) k
plan-flushes k c p found (calls.Done value) = done-flushes (is_last k.records c.pid) c (value_left c.thread value k)
plan-flushes k c p found (calls.Join number) = λ e. joined-still (join_look k.threads c.pid number)
plan-flushes k c p found (calls.Wait number) = λ e. waited-still (wait_look k c.pid number)
plan-flushes k c p found (calls.Exit status) = λ e. refl
plan-flushes k c p found (calls.Unknown number) = λ e. refl
plan-flushes k c p found (calls.End fault) = λ e. refl

-- ---- the call under way
made-flushes : (c : Calling) (made : Planned) → MadeFlushes made → ReplacesAtFlush (committed c made)
made-flushes c made f done object u keeps =
    let said : made.answer ≡ done.answer = grind (arith, u) in
    let closes : made.closing ≡ done.closing = grind (arith, u) in
    ap (λ a. replaces a object) (sym said) ∙ still-replaces made.answer object (f (closes ∙ keeps))

-- no call is committed
none-flushes : (k : KernelState) (u : UnderWay) → k.under_way ≡ u → ((done : Committed) → u ≡ Returning done → ⊥) → ReplacesAtFlush k
none-flushes k u e none done object r keeps = absurd (none done (sym e ∙ r))

planned-by : (k : KernelState) (c : Calling) (found : Found) (o : Option Process) → ReplacesAtFlush k → ReplacesAtFlush (plan_by found c o k).kernel
planned-by k c found None all = all
planned-by k c found (Some p) all = made-flushes c (plan_of found c p k) (plan-flushes k c p found (meant c.call))

planned : (found : Found) (k : KernelState) → ReplacesAtFlush k → ReplacesAtFlush (plan found k).kernel
unfolding plan
planned found k all = go k.under_way
  where
    go : (u : UnderWay) → ReplacesAtFlush (plan_waiting found u k).kernel
    go (Waiting c) = planned-by k c found (process_at k c.pid) all
    go Quiet = all
    go Retrying = all
    go (Leaving hart) = all
    go (Returning done) = all

begun-flushes : (b : Begun) (c : Calling) (k : KernelState) → ReplacesAtFlush (begin_as b c k).kernel
begun-flushes begun.Planned c k = planned no_words (record k { under_way = Waiting c }) (none-flushes (record k { under_way = Waiting c }) (Waiting c) refl (λ done q. (let b : ⊥ = grind (arith, q) in b)))
begun-flushes begun.Again c k = none-flushes (record k { under_way = Retrying }) Retrying refl (λ done q. (let b : ⊥ = grind (arith, q) in b))
begun-flushes begun.JournalFull c k = none-flushes (record k { under_way = Retrying }) Retrying refl (λ done q. (let b : ⊥ = grind (arith, q) in b))
begun-flushes begun.Gone c k = none-flushes (record k { under_way = Leaving c.hart }) (Leaving c.hart) refl (λ done q. (let b : ⊥ = grind (arith, q) in b))
begun-flushes begun.Boxes c k = none-flushes (record k { under_way = Waiting c }) (Waiting c) refl (λ done q. (let b : ⊥ = grind (arith, q) in b))
begun-flushes (begun.Header first second) c k = none-flushes (record k { under_way = Waiting c }) (Waiting c) refl (λ done q. (let b : ⊥ = grind (arith, q) in b))

called-flushes : (hart : ℕ) (o : Option Calling) (k : KernelState) → ReplacesAtFlush (begin_call hart o k).kernel
called-flushes hart None k = none-flushes (record k { under_way = Leaving hart }) (Leaving hart) refl (λ done q. (let b : ⊥ = grind (arith, q) in b))
called-flushes hart (Some c) k = begun-flushes (begun_in (process_at k c.pid) c k) c k

begin-flushes : (hart pc : ℕ) (regs : List ℕ) (asked : Request) (k : KernelState) → ReplacesAtFlush (begin hart regs pc asked k).kernel
unfolding begin
begin-flushes hart pc regs asked k = called-flushes hart (calling_of hart regs pc asked (slice_get k.records hart)) k

job-flushes : (word : ℕ) (k : KernelState) → ReplacesAtFlush k → ReplacesAtFlush (job_done word k).kernel
unfolding job_done
job-flushes word k all = all

quiet-flushes : (k : KernelState) → k.under_way ≡ Quiet → ReplacesAtFlush k
quiet-flushes k u = none-flushes k Quiet u (λ done q. (let b : ⊥ = grind (arith, q) in b))

finish-flushes : (k : KernelState) → ReplacesAtFlush (finish k).kernel
unfolding finish
finish-flushes k = quiet-flushes (finish_by k.under_way k).kernel (by k.under_way)
  where
    of : (done : Committed) (o : Option Process) → (returned done o k).kernel.under_way ≡ Quiet
    of done None = refl
    of done (Some p) = refl

    by : (u : UnderWay) → (finish_by u k).kernel.under_way ≡ Quiet
    by (Returning done) = of done (process_at k done.calling.pid)
    by Quiet = refl
    by Retrying = refl
    by (Leaving hart) = refl
    by (Waiting c) = refl

-- ---- each step
pub steps_keep_replaced : StepsKeepReplaced
steps_keep_replaced old new shows (Kept e q) all = subst ReplacesAtFlush (sym e) all
steps_keep_replaced old new shows (Begins hart regs pc asked u e f) all = subst ReplacesAtFlush (sym e) (begin-flushes hart pc regs asked old)
steps_keep_replaced old new shows (Plans found c u e f) all = subst ReplacesAtFlush (sym e) (planned found old all)
steps_keep_replaced old new shows (EndsJob word job n e f) all = subst ReplacesAtFlush (sym e) (job-flushes word old all)
steps_keep_replaced old new shows (Finishes n e f) all = subst ReplacesAtFlush (sym e) (finish-flushes old)

-- ---- runs
opens-quiet : (image : Image) (config : Config) → (open_kernel image config).under_way ≡ Quiet
unfolding open_kernel
opens-quiet image config = refl

pub runs_keep_replaced : RunsKeepReplaced
runs_keep_replaced file image config picks k fit is_image room has =
    runs-keep ReplacesAtFlush (λ words old new shows fits step all. steps_keep_replaced old new shows step all)
    file image config picks k fit is_image room (quiet-flushes (open_kernel image config) (opens-quiet image config)) has
