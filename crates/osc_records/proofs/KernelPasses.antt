-- How the records stay so where a hart takes the kernel and where it gives it back.
use Rattle.std.proofs.Common.{ℕ, ◌≡◌, ◌≢◌, ◌<◌, Bool, true, false, not, cond, Option, Some, None, is_none, is_some, List, [], ◌∷◌, length, slice_get, slice_set, arith, refl, sym, ap, subst, ◌∙◌}
use Rattle.std.proofs.lemmas.Bool.Decides.{nat_tests}
use Rattle.osc_word.specs.declared.orders.Order.{Order}
use Rattle.osc_word.specs.declared.orders.Order.TheVariants.{Empty, Start, Stop, Over}
use Rattle.osc_word.specs.declared.calls.Call.{Call}
use Rattle.osc_word.specs.declared.calls.Call.TheVariants as calls
use Rattle.osc_word.specs.declared.calls.Request.{Request}
use Rattle.osc_word.specs.declared.calls.Request.TheVariants as request
use Rattle.osc_word.specs.declared.settings.HeapKind.{HeapKind}
use Rattle.osc_word.specs.declared.settings.HeapKind.TheVariants.{Oscar, Plain}
use Rattle.osc_word.specs.declared.calls.Resume.{Resume}
use Rattle.osc_word.specs.declared.calls.Resume.TheVariants.{Again, Idle as ResumeIdle}
use Rattle.osc_guest.specs.declared.places.Place.TheVariants as at
use Rattle.osc_guest.specs.Told.{Resumed}
use Rattle.osc_guest.specs.Hands.{calls_of_thread, runs_resumed, runs_after}
use Rattle.osc_slot.specs.declared.Block.{Block}
use Rattle.osc_slot.specs.Heap.{block_of_user}
use Rattle.osc_slot.specs.declared.HeapPage.{HeapPage}
use Rattle.osc_paging.specs.KeptTables.{KeptTables, root_of}
use Rattle.osc_space.specs.declared.HeaderLook.{HeaderLook}
use Rattle.osc_space.specs.declared.HeaderLook.TheVariants as looks
use Rattle.osc_space.specs.Header.{header_at}
use Rattle.osc_space.specs.Space.{Space, Draft, Closing, Keeps, GivesBack}
use Rattle.osc_space.specs.Finish.{give_blocks, finished}
use Rattle.osc_parts.proofs.MallocParts.{some_root}
use Rattle.osc_calls.specs.declared.Begun.{Begun}
use Rattle.osc_calls.specs.declared.Begun.TheVariants as begun
use Rattle.osc_calls.specs.declared.HartRecord.{HartRecord}
use Rattle.osc_calls.specs.declared.HartRecord.TheVariants.{Idle, Runs, Stopped}
use Rattle.osc_calls.specs.Kernel.{KernelState, Process, Calling, Committed, Effect, Nothing, Clears, Starts, Ends, UnderWay, Quiet, Retrying, Leaving, Waiting, Returning, process_at, root_in, root, is_last, has_journal_room}
use Rattle.osc_calls.specs.Requests.{calling_of, meant, is_ready}
use Rattle.osc_calls.specs.HeapPlans.{header_step, block_step, free_step, realloc_step}
use Rattle.osc_calls.specs.Refusals.{draft_of, refusal_of}
use Rattle.osc_calls.specs.Begin.{boxes_where, first_step, begun_in, no_words, begin_as, begin_call, begin}
use Rattle.osc_calls.specs.Plan.{plan}
use Rattle.osc_calls.specs.Finish.{quiet, record_left, hart_left, settled, returned, finish_by, finish}
use Rattle.osc_settled.specs.Memory.{at_rest as rests}
use Rattle.osc_settled.specs.KernelFits.{KernelFits}
use Rattle.osc_settled.specs.Records.{ends_by, ending}
use Rattle.osc_settled.specs.UnderWay.{closing_of, UnderWayFits}
use Rattle.osc_settled.proofs.Beginning.{AtRest, at_rest, asks_as}
use Rattle.osc_settled.proofs.Lists.{get-put_same, get-put_other}
use Rattle.osc_records.specs.Agreeing.{Setting, Agrees, takes_boxes, TakesNone}
use Rattle.osc_records.proofs.Tops.{HasTop, finished-top}
use Rattle.osc_records.proofs.Taking.{agrees-same}
use Rattle.osc_records.proofs.PlanRows.{put-top}
use Rattle.osc_records.proofs.Passing.{NoReturn, Passes, there, kept, then-kept, still-passes}
use Rattle.osc_records.proofs.PlanPasses.{plan-passes}

-- ---- the topmost table of a process that lives
blocks-tables : (blocks : List Block) (d : Draft) → (give_blocks blocks d).space.tables ≡ d.space.tables
blocks-tables [] d = refl
blocks-tables (block ∷ blocks) d = blocks-tables blocks _

record SameTop (before after : Draft) : Type 0 where
  root : root_of after.space.tables ≡ root_of before.space.tables
  high : after.space.tables.top ≡ before.space.tables.top

finished-same : (closing : Closing) (d : Draft) → SameTop d (finished closing d)
unfolding finished
finished-same Keeps d = record { root = refl; high = refl }
finished-same (GivesBack blocks) d = record { root = ap root_of (blocks-tables blocks d); high = ap (λ (t : KeptTables). t.top) (blocks-tables blocks d) }

pub has-top : (words : List ℕ) (k : KernelState) (pid : ℕ) (p : Process) → KernelFits words k → process_at k pid ≡ Some p → p.status ≡ None → (f : ℕ) × HasTop f p.space.tables
has-top words k pid p fits e lives =
    let s = fits.memory.spaces pid p e lives in
    let r = s.returns in
    let parts = r.parts in
    let same = finished-same (closing_of k.under_way pid) (rests p.space k.free) in
    let is = some_root (root_of p.space.tables) (ap (λ (o : Option ℕ). is_some o) (sym same.root) ∙ parts.agrees.root) in
    (is.0, record { root = is.1; high = (let l = parts.levels in let h = same.high in omega (arith, l, h)) })

-- ---- begin
-- what a call needs first
abbrev IsStep : Begun → Type 0
IsStep begun.Boxes = Unit {0}
IsStep (begun.Header first second) = Unit {0}
IsStep begun.Planned = Unit {0}
IsStep _ = ⊥

boxes-step : (b : Bool) → IsStep (boxes_where b)
boxes-step true = tt
boxes-step false = tt

header-is : (look : HeaderLook) → IsStep (header_step look)
header-is (looks.Words first second) = tt
header-is _ = tt

free-is : (kind : HeapKind) (s : Space) (pointer : ℕ) → IsStep (free_step kind s pointer)
free-is Oscar s pointer = header-is (header_at s pointer)
free-is Plain s pointer = tt

block-is : (pages : List HeapPage) (o : Option Block) → IsStep (block_step pages o)
block-is pages None = tt
block-is pages (Some block) = tt

realloc-is : (kind : HeapKind) (s : Space) (pointer : ℕ) → IsStep (realloc_step kind s pointer)
realloc-is Oscar s pointer = header-is (header_at s pointer)
realloc-is Plain s pointer = block-is s.heap.pages (block_of_user s.heap.held pointer)

steps-are : (c : Calling) (p : Process) (k : KernelState) (call : Call) → IsStep (first_step c p k call)
steps-are c p k (calls.Exit status) = tt
steps-are c p k (calls.Write buf len) = tt
steps-are c p k (calls.End fault) = tt
steps-are c p k (calls.Done value) = boxes-step (is_last k.records c.pid)
steps-are c p k calls.Fork = boxes-step (is_none (refusal_of calls.Fork p k))
steps-are c p k (calls.Share count) = boxes-step (is_none (refusal_of (calls.Share count) p k))
steps-are c p k (calls.Free pointer) = free-is k.config.heap p.space pointer
steps-are c p k (calls.Realloc pointer size) = realloc-is k.config.heap p.space pointer
steps-are c p k _ = tt

-- the kernel that a hart has taken
abbrev taken : UnderWay → KernelState → KernelState
taken u k = record k { under_way = u }

same-step : (c d : Calling) (p : Process) (k : KernelState) (call : Call) → first_step c p (taken (Waiting d) k) call ≡ first_step c p k call
same-step c d p k (calls.Exit status) = refl
same-step c d p k (calls.Write buf len) = refl
same-step c d p k (calls.End fault) = refl
same-step c d p k (calls.Done value) = refl
same-step c d p k calls.Fork = refl
same-step c d p k (calls.Share count) = refl
same-step c d p k (calls.Free pointer) = refl
same-step c d p k (calls.Realloc pointer size) = refl
same-step c d p k _ = refl

rests_waiting : (words : List ℕ) (k : KernelState) (c : Calling) → AtRest words k → has_journal_room k ≡ true → slice_get k.records c.hart ≡ Some (Runs c.pid c.thread)
    → KernelFits words (taken (Waiting c) k)
rests_waiting words k c r room e = record {
  sizes = (let s = r.sizes in record {
    config = s.config;
    memory = s.memory;
    free = s.free;
    regions = s.regions;
    records = s.records;
    processes = s.processes;
    threads = s.threads;
    journal = s.journal;
    output = s.output;
    peak = s.peak;
  });
  memory = r.memory;
  records = r.records;
  manned = r.manned;
  under_way = record { jobs = r.jobs; room = (let q : length k.journal < k.config.journal = grind (arith, nat_tests, room) in q); caller = e };
}

abbrev now_of : KernelState → Bool
now_of k = runs_resumed (finish k).resume

resumes-again : (k : KernelState) (u : UnderWay) → k.under_way ≡ u → (finish_by u k).resume ≡ Again → (finish k).resume ≡ Again
unfolding finish
resumes-again k u e f = ap (λ z. (finish_by z k).resume) e ∙ f

resumes-idle : (k : KernelState) (hart : ℕ) → k.under_way ≡ Leaving hart → (finish k).resume ≡ ResumeIdle
unfolding finish
resumes-idle k hart e = ap (λ z. (finish_by z k).resume) e

-- the call waits, or is to be asked again
taken-passes : (n : ℕ) (words : List ℕ) (k : KernelState) (u : UnderWay) → KernelFits words k → NoReturn u → (finish (taken u k)).resume ≡ Again → Passes n true (now_of (taken u k)) false k (taken u k)
taken-passes n words k u fits none e =
    subst (λ (r : Resume). Passes n true (runs_resumed r) false k (taken u k)) (sym e)
    (still-passes n true true words k (taken u k) u fits refl refl (λ pid q here lives goes. refl) refl none (λ r x o at_n a. a))

-- the kernels differ in what the kernel is about alone
same-kernel : (n : ℕ) (was now shut : Bool) (k next : KernelState) (u : UnderWay) → Passes n was now shut (taken u k) next → Passes n was now shut k next
same-kernel n was now shut k next u p = record {
  config = p.config;
  due = p.due;
  mine = λ r x o called here all old. p.mine r x o called here all (λ r2 e. agrees-same k (taken u k) r2 was x o (λ pid number q. refl) (old r2 e));
  others = λ m r running x o called apart here all old.
      p.others m r running x o called apart here all (λ r2 e. agrees-same k (taken u k) r2 running x o (λ pid number q. refl) (old r2 e));
  told = λ m running x o start due put old. p.told m running x o start due put (λ r2 e. agrees-same k (taken u k) r2 running x o (λ pid number q. refl) (old r2 e));
}

abbrev pub takes_header : Begun → Bool
takes_header (begun.Header first second) = true
takes_header _ = false

abbrev pub takes_more : Begun → Bool
takes_more begun.Boxes = true
takes_more (begun.Header first second) = true
takes_more _ = false

-- what is shown of the hart's call as it begins
pub record Begins (n : ℕ) (was : Bool) (k : KernelState) (b : Begun) (next : KernelState) (runs : Bool) : Type 0 where
  pub passes : Passes n was runs false k next
  pub header : takes_header b ≡ true → TakesNone next
  pub asks : takes_more b ≡ true → was ≡ true

begins-by : (n : ℕ) (words : List ℕ) (k : KernelState) (c : Calling) (p : Process) (b : Begun) → KernelFits words k → k.under_way ≡ Quiet → c.hart ≡ n → process_at k c.pid ≡ Some p
    → p.status ≡ None → KernelFits words (taken (Waiting c) k) → first_step c p k (meant c.call) ≡ b → IsStep b
    → Begins n true k (begin_as b c k).begun (begin_as b c k).kernel (now_of (begin_as b c k).kernel)
begins-by n words k c p begun.Boxes fits e own here lives room first is =
    record { passes = taken-passes n words k (Waiting c) fits tt (resumes-again _ (Waiting c) refl refl); header = λ q. absurd (let z : ⊥ = grind (arith, q) in z); asks = λ q. refl }
begins-by n words k c p (begun.Header one two) fits e own here lives room first is = record {
  passes = taken-passes n words k (Waiting c) fits tt (resumes-again _ (Waiting c) refl refl);
  header = λ q d s waits at_d. (let same : c ≡ d = cc in
      let same_p : p ≡ s = (let f : process_at k c.pid ≡ Some s = ap (λ (y : Calling). process_at k y.pid) same ∙ at_d in let g : Some p ≡ Some s = sym here ∙ f in cc) in
      ap takes_boxes (subst (λ y. first_step y s (taken (Waiting c) k) (meant y.call) ≡ begun.Header one two) same
      (subst (λ z. first_step c z (taken (Waiting c) k) (meant c.call) ≡ begun.Header one two) same_p (same-step c c p k (meant c.call) ∙ first))));
  asks = λ q. refl;
}
begins-by n words k c p begun.Planned fits e own here lives room first is =
    let top = has-top words k c.pid p fits here lives in
    let plans = plan-passes n top.0 words no_words (taken (Waiting c) k) c p room refl own here top.1 in
    let shut : takes_boxes (first_step c p (taken (Waiting c) k) (meant c.call)) ≡ false = ap takes_boxes (same-step c c p k (meant c.call) ∙ first) in record {
      passes = same-kernel n true (now_of (plan no_words (taken (Waiting c) k)).kernel) false k (plan no_words (taken (Waiting c) k)).kernel (Waiting c)
          (subst (λ z. Passes n true (now_of (plan no_words (taken (Waiting c) k)).kernel) z (taken (Waiting c) k) (plan no_words (taken (Waiting c) k)).kernel) shut plans);
      header = λ q. absurd (let z : ⊥ = grind (arith, q) in z);
      asks = λ q. refl;
    }
begins-by n words k c p begun.Again fits e own here lives room first is = absurd is
begins-by n words k c p begun.JournalFull fits e own here lives room first is = absurd is
begins-by n words k c p begun.Gone fits e own here lives room first is = absurd is

begins-in : (n : ℕ) (words : List ℕ) (k : KernelState) (c : Calling) (o : Option Process) → KernelFits words k → k.under_way ≡ Quiet → c.hart ≡ n
    → slice_get k.records c.hart ≡ Some (Runs c.pid c.thread) → process_at k c.pid ≡ o
    → Begins n true k (begin_as (begun_in o c k) c k).begun (begin_as (begun_in o c k) c k).kernel (now_of (begin_as (begun_in o c k) c k).kernel)
begins-in n words k c None fits e own runs here =
    absurd (let p = there (process_at k c.pid) (fits.records.lives c.hart c.pid c.thread runs) in let q = p.1 in let z : ⊥ = grind (arith, q, here) in z)
begins-in n words k c (Some p) fits e own runs here = go (is_ready k c.pid c.call) (has_journal_room k) refl
  where
    lives : p.status ≡ None
    lives =
        let q = there (process_at k c.pid) (fits.records.lives c.hart c.pid c.thread runs) in
        let same : q.0 ≡ p = (let f : Some q.0 ≡ Some p = sym q.1 ∙ here in cc) in ap (λ (y : Process). y.status) (sym same) ∙ q.2

    go : (ready room : Bool) → has_journal_room k ≡ room → (let b = cond (not ready) begun.Again (cond (not room) begun.JournalFull (first_step c p k (meant c.call))) in
        Begins n true k (begin_as b c k).begun (begin_as b c k).kernel (now_of (begin_as b c k).kernel))
    go false room f = record { passes = taken-passes n words k Retrying fits tt (resumes-again _ Retrying refl refl); header = λ q. absurd (let z : ⊥ = grind (arith, q) in z); asks = λ q. refl }
    go true false f = record { passes = taken-passes n words k Retrying fits tt (resumes-again _ Retrying refl refl); header = λ q. absurd (let z : ⊥ = grind (arith, q) in z); asks = λ q. refl }
    go true true f = begins-by n words k c p (first_step c p k (meant c.call)) fits e own here lives (rests_waiting words k c (at_rest words k fits e) f runs) refl (steps-are c p k (meant c.call))

-- a hart that leaves
leaving-passes : (n : ℕ) (regs : List ℕ) (pc : ℕ) (words : List ℕ) (k : KernelState) (asked : Request) → KernelFits words k → calling_of n regs pc asked (slice_get k.records n) ≡ None
    → Passes n (calls_of_thread asked) false false k (taken (Leaving n) k)
leaving-passes n regs pc words k asked fits e =
    still-passes n (calls_of_thread asked) false words k (taken (Leaving n) k) (Leaving n) fits refl refl (λ pid q here lives goes. refl) refl tt
    (λ r x o at_n a. gone asked r x o (ap (calling_of n regs pc asked) (sym at_n) ∙ e) a)
  where
    gone : (asked : Request) (r : HartRecord) (x : Setting) (o : Order) → calling_of n regs pc asked (Some r) ≡ None → Agrees k r (calls_of_thread asked) x o → Agrees k r false x o
    gone request.Idle r x o e a = a
    gone (request.Call call) Idle x o e a = absurd (let q = a.0 in let z : ⊥ = grind (arith, q) in z)
    gone (request.Call call) (Runs pid number) x o e a = absurd (let z : ⊥ = cc in z)
    gone (request.Call call) (Stopped pid) x Empty e a = absurd (let z : ⊥ = grind (arith, a) in z)
    gone (request.Call call) (Stopped pid) x (Start start) e a = absurd (let z : ⊥ = grind (arith, a) in z)
    gone (request.Call call) (Stopped pid) x Stop e a = refl
    gone (request.Call call) (Stopped pid) x Over e a = refl

after-idle : (asked : Request) → runs_after (at.Call asked) (Resumed ResumeIdle) ≡ false
after-idle (request.Call call) = refl
after-idle request.Idle = refl

call-asked : (n pc : ℕ) (regs : List ℕ) (asked : Request) (kept : Option HartRecord) (c : Calling) → calling_of n regs pc asked kept ≡ Some c → (call : Call) × (asked ≡ request.Call call)
call-asked n pc regs (request.Call call) kept c e = (call, refl)
call-asked n pc regs request.Idle kept c e = absurd (let z : ⊥ = cc in z)

begin-by : (n : ℕ) (regs : List ℕ) (pc : ℕ) (words : List ℕ) (k : KernelState) (asked : Request) (o : Option Calling) → KernelFits words k → k.under_way ≡ Quiet
    → calling_of n regs pc asked (slice_get k.records n) ≡ o
    → Begins n (calls_of_thread asked) k (begin_call n o k).begun (begin_call n o k).kernel (runs_after (at.Call asked) (Resumed (finish (begin_call n o k).kernel).resume))
begin-by n regs pc words k asked None fits e f = record {
  passes = subst (λ b. Passes n (calls_of_thread asked) b false k (taken (Leaving n) k))
      (sym (ap (λ r. runs_after (at.Call asked) (Resumed r)) (resumes-idle (taken (Leaving n) k) n refl) ∙ after-idle asked)) (leaving-passes n regs pc words k asked fits f);
  header = λ q. absurd (let z : ⊥ = grind (arith, q) in z);
  asks = λ q. absurd (let z : ⊥ = grind (arith, q) in z);
}
begin-by n regs pc words k asked (Some c) fits e f =
    let who = asks_as n pc regs asked (slice_get k.records n) c f in
    let does = call-asked n pc regs asked (slice_get k.records n) c f in
    subst (λ a. Begins n (calls_of_thread a) k (begin_call n (Some c) k).begun (begin_call n (Some c) k).kernel (runs_after (at.Call a) (Resumed (finish (begin_call n (Some c) k).kernel).resume))) (sym does.1)
    (begins-in n words k c (process_at k c.pid) fits e (sym who.1) (subst (λ h. slice_get k.records h ≡ Some (Runs c.pid c.thread)) who.1 who.0) refl)

pub begin-passes : (n : ℕ) (regs : List ℕ) (pc : ℕ) (words : List ℕ) (k : KernelState) (asked : Request) → KernelFits words k → k.under_way ≡ Quiet
    → Begins n (calls_of_thread asked) k (begin n regs pc asked k).begun (begin n regs pc asked k).kernel (runs_after (at.Call asked) (Resumed (finish (begin n regs pc asked k).kernel).resume))
unfolding begin
begin-passes n regs pc words k asked fits e = begin-by n regs pc words k asked (calling_of n regs pc asked (slice_get k.records n)) fits e refl

-- ---- finish
ended-top : (words : List ℕ) (k : KernelState) (done : Committed) (p new : Process) (pid : ℕ) → done.calling.pid ≢ pid
    → root_in (slice_get (slice_set k.processes done.calling.pid new) pid) ≡ root_in (slice_get k.processes pid)
ended-top words k done p new pid apart = ap root_in (get-put_other k.processes done.calling.pid pid new apart)

settled-tops : (words : List ℕ) (k : KernelState) (done : Committed) (p : Process) (effect : Effect) → KernelFits words k → k.under_way ≡ Returning done → done.effect ≡ effect → process_at k done.calling.pid ≡ Some p
    → p.status ≡ None → (pid : ℕ) (q : Process) → process_at k pid ≡ Some q → q.status ≡ None → ending k.under_way ≢ Some pid → root (quiet (settled done p effect k)) pid ≡ root k pid
settled-tops words k done p (Ends status) fits u e here lives pid q at_pid alive goes =
    let ends : ending k.under_way ≡ Some done.calling.pid = ap ending u ∙ ap (ends_by done.calling.pid) e in
    ended-top words k done p _ pid (λ same. goes (ends ∙ ap Some same))
settled-tops words k done p Nothing fits u e here lives pid q at_pid alive goes =
    let top = has-top words k done.calling.pid p fits here lives in
    put-top top.0 done.calling.pid pid k.processes p (record p { space = (finished done.closing (draft_of k p)).space }) here top.1 (finished-top top.0 done.closing (draft_of k p) top.1)
settled-tops words k done p Clears fits u e here lives pid q at_pid alive goes =
    let top = has-top words k done.calling.pid p fits here lives in
    put-top top.0 done.calling.pid pid k.processes p (record p { space = (finished done.closing (draft_of k p)).space }) here top.1 (finished-top top.0 done.closing (draft_of k p) top.1)
settled-tops words k done p (Starts hart start) fits u e here lives pid q at_pid alive goes =
    let top = has-top words k done.calling.pid p fits here lives in
    put-top top.0 done.calling.pid pid k.processes p (record p { space = (finished done.closing (draft_of k p)).space }) here top.1 (finished-top top.0 done.closing (draft_of k p) top.1)

settled-records : (done : Committed) (p : Process) (effect : Effect) (k : KernelState) → ((quiet (settled done p effect k)).records ≡ k.records) × ((quiet (settled done p effect k)).config ≡ k.config)
settled-records done p Nothing k = (refl, refl)
settled-records done p Clears k = (refl, refl)
settled-records done p (Starts hart start) k = (refl, refl)
settled-records done p (Ends status) k = (refl, refl)

-- a hart that leaves is idle from then on
left-agrees : (k : KernelState) (r : HartRecord) (x : Setting) (o : Order) → Agrees k r false x o → Agrees k (record_left r) false x o
left-agrees k Idle x o a = a
left-agrees k (Runs pid number) x o a = a
left-agrees k (Stopped pid) x o a = (refl, a)

left-passes : (n : ℕ) (was : Bool) (words : List ℕ) (k : KernelState) (hart : ℕ) (o : Option HartRecord) → KernelFits words k → hart ≡ n → was ≡ false → slice_get k.records hart ≡ o
    → Passes n was was false k (quiet (hart_left hart o k))
left-passes n was words k hart None fits own off e =
    still-passes n was was words k (quiet k) Quiet fits refl refl (λ pid q here lives goes. refl) refl tt (λ r x o at_n a. a)
left-passes n was words k hart (Some r) fits own off e = record {
  config = refl;
  due = tt;
  mine = λ new x o called here all old. (let at_hart : slice_get next.records hart ≡ Some (record_left r) = get-put_same k.records hart r (record_left r) e in
      let is : record_left r ≡ new = (let q : Some (record_left r) ≡ Some new = sym at_hart ∙ subst (λ z. slice_get next.records z ≡ Some new) (sym own) here in cc) in
      let was_so : Agrees k r false x o = subst (λ b. Agrees k r b x o) off (old r (subst (λ z. slice_get k.records z ≡ Some r) own e)) in
      subst (Agrees next new was x) (sym (then-kept called next n o (kept n next Quiet refl tt)))
      (subst (λ b. Agrees next new b x o) (sym off) (subst (λ z. Agrees next z false x o) is
      (agrees-same k next (record_left r) false x o (λ pid number q. refl) (left-agrees k r x o was_so)))));
  others = λ m new running x o called apart here all old. (let not_it : hart ≢ m = (λ q. apart (sym q ∙ own)) in
      let at_m : slice_get k.records m ≡ Some new = sym (get-put_other k.records hart m (record_left r) not_it) ∙ here in
      subst (Agrees next new running x) (sym (then-kept called next m o (kept m next Quiet refl tt)))
      (agrees-same k next new running x o (λ pid number q. refl) (old new at_m)));
  told = λ m running x o start due put old. absurd (let q = kept m next Quiet refl tt in let z : ⊥ = grind (arith, q, put) in z);
}
  where
    next : KernelState
    next = quiet (hart_left hart (Some r) k)

finish-by : (n : ℕ) (was : Bool) (words : List ℕ) (k : KernelState) (u : UnderWay) → KernelFits words k → k.under_way ≡ u → ((hart : ℕ) → u ≡ Leaving hart → (hart ≡ n) × (was ≡ false))
    → Passes n was was false k (finish_by u k).kernel
finish-by n was words k Quiet fits e leaves = still-passes n was was words k (quiet k) Quiet fits refl refl (λ pid q here lives goes. refl) refl tt (λ r x o at_n a. a)
finish-by n was words k Retrying fits e leaves = still-passes n was was words k (quiet k) Quiet fits refl refl (λ pid q here lives goes. refl) refl tt (λ r x o at_n a. a)
finish-by n was words k (Waiting c) fits e leaves = still-passes n was was words k (quiet k) Quiet fits refl refl (λ pid q here lives goes. refl) refl tt (λ r x o at_n a. a)
finish-by n was words k (Leaving hart) fits e leaves = let l = leaves hart refl in left-passes n was words k hart (slice_get k.records hart) fits l.0 l.1 refl
finish-by n was words k (Returning done) fits e leaves =
    let r : UnderWayFits k (Returning done) = subst (UnderWayFits k) e fits.under_way in
    let p = there (process_at k done.calling.pid) r.lives in
    let same = settled-records done p.0 done.effect k in
    subst (λ o. Passes n was was false k (returned done o k).kernel) (sym p.1)
    (still-passes n was was words k (quiet (settled done p.0 done.effect k)) Quiet fits same.1 same.0 (settled-tops words k done p.0 done.effect fits e refl p.1 p.2) refl tt (λ r x o at_n a. a))

pub finish-passes : (n : ℕ) (was : Bool) (words : List ℕ) (k : KernelState) → KernelFits words k → ((hart : ℕ) → k.under_way ≡ Leaving hart → (hart ≡ n) × (was ≡ false))
    → Passes n was was false k (finish k).kernel
unfolding finish
finish-passes n was words k fits leaves = finish-by n was words k k.under_way fits refl leaves
