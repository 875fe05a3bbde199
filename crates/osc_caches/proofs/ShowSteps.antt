-- Each step keeps what is shown.
use Rattle.std.proofs.Common.{ℕ, ◌≡◌, ◌<◌, ⊎_elim, Bool, true, false, not, cond, Option, Some, None, List, set, slice_get, slice_set, length, arith, refl, sym, ap, subst, ◌∙◌}
use Rattle.std.proofs.lemmas.Bool.Decides.{nat_tests}
use Rattle.osc_word.specs.declared.calls.Request.{Request}
use Rattle.osc_word.specs.declared.job_list.WordAt.{WordAt}
use Rattle.osc_word.specs.declared.settings.HeapKind.TheVariants.{Oscar}
use Rattle.osc_sv39.specs.Walk.{word_at, put_word}
use Rattle.osc_paging.specs.Boxes.{BoxState}
use Rattle.osc_paging.specs.JobWords.{words_after}
use Rattle.osc_space.specs.Header.{Found}
use Rattle.osc_calls.specs.declared.Begun.{Begun}
use Rattle.osc_calls.specs.declared.Begun.TheVariants as begun
use Rattle.osc_calls.specs.declared.HartRecord.TheVariants as records
use Rattle.osc_calls.specs.Kernel.{KernelState, Process, Calling, Committed, Quiet, Retrying, Leaving, Waiting, Returning as CallReturning, process_at, has_journal_room}
use Rattle.osc_calls.specs.Requests.{calling_of, meant, is_ready}
use Rattle.osc_calls.specs.Begin.{no_words, first_step, begun_in, begin_as, begin_call, begin}
use Rattle.osc_calls.specs.Plan.{plan, plan_by, plan_waiting}
use Rattle.osc_calls.specs.JobDone.{job_done, entries}
use Rattle.osc_calls.specs.Moves.{Move}
use Rattle.osc_settled.specs.UnderWay.{ReturningFits, UnderWayFits}
use Rattle.osc_settled.specs.KernelFits.{KernelFits}
use Rattle.osc_settled.proofs.Commits.{lives_none}
use Rattle.osc_settled.proofs.Beginning.{at_rest, asks_as}
use Rattle.osc_machine.specs.declared.HartAsk.{HartAsk}
use Rattle.osc_machine.specs.declared.HartAsk.TheVariants as does
use Rattle.osc_machine.specs.Parts.{CallPlace, Outside, TakingBoxes, FirstWord, SecondWord, Working, GivingBoxes, HartState, State}
use Rattle.osc_machine.specs.Turns.{HartTold, Box, Kernel, Word, Gate as ToldGate, OldVersion, Done, Turn, MovesLeft, StillAt, AllDone, moves_left, move_ask, place_begun, place_on, hart_told, handed_box, handed_kernel, box_given, found_words}
use Rattle.osc_machine.specs.Step.{Stepped, with_box, with_gate, step}
use Rattle.osc_machine.specs.Laws.{is_in_call, HasKernel}
use Rattle.osc_machine.specs.Did.{Turned, Unmoved, InGuest, TakesKernel, TakesBox, TakesLastBox, FindsFirst, FindsSecond, Works, EndsJob, GivesBox, GivesKernel, word_told, Asks, Did, Stayed, TookBox, GaveBox, ChangedBox, Loaded, Stored, TookGate, FoundOldVersion, OpenedGate, TookKernel, GaveKernel}
use Rattle.osc_machine.proofs.RowLaws.{turns_by_row, steps_by_row}
use Rattle.osc_safe.specs.Holding.{Holds}
use Rattle.osc_safe.specs.Standing.{FitsSome, IsCommitted, AtHome, InHand, HandStands, Stands}
use Rattle.osc_safe.proofs.KernelRows.{home-is, hand-is-one}
use Rattle.osc_safe.proofs.StandingSteps.{each-written}
use Rattle.osc_caches.specs.Words.{words_in_end, Does, AllAgree, WordsAgree}
use Rattle.osc_caches.specs.HeapShows.{is_heap_call, CallShows}
use Rattle.osc_caches.specs.DataFrames.{IsNobodysTable}
use Rattle.osc_caches.specs.Working.{ShowsAt}
use Rattle.osc_caches.specs.ShowSteps.{HandShows, AllShow, IsOscar, StoreShows, StepsKeepShowing, StoresShow}
use Rattle.osc_caches.proofs.Refits.{refit}
use Rattle.osc_caches.proofs.HeapShows.{heap_plans_show}
use Rattle.osc_caches.proofs.Working.{work_keeps_showing}
use Rattle.osc_caches.proofs.WordSteps.{HandAgree, agree-at, stands-at, by-ask, storer, each-other, alone, told_work, made_by_left, some-kernel}

-- ---- the kernel that a hart has after its turn
shows-in : (words : List ℕ) (x : HartState) (k : KernelState) → x.kernel ≡ Some k
    → ((done : Committed) → k.under_way ≡ CallReturning done → is_heap_call (meant done.calling.call) ≡ true → ShowsAt x.place k done.calling.pid words) → HandShows x words
shows-in words x k e s other done f u h =
    let same : k ≡ other = (let q : Some k ≡ Some other = sym e ∙ f in grind (arith, q)) in
    subst (λ z. ShowsAt x.place z done.calling.pid words) same (s done (subst (λ (z : KernelState). z.under_way ≡ CallReturning done) (sym same) u) h)

turn-shows : (words : List ℕ) (turn made : Turn) → turn ≡ made → HandShows made.hart words → HandShows turn.hart words
turn-shows words turn made i s = subst (λ (z : Turn). HandShows z.hart words) (sym i) s

hand-shows : (words : List ℕ) (turn made : Turn) (k : KernelState) → turn ≡ made → made.hart.kernel ≡ Some k
    → ((done : Committed) → k.under_way ≡ CallReturning done → is_heap_call (meant done.calling.call) ≡ true → ShowsAt made.hart.place k done.calling.pid words) → HandShows turn.hart words
hand-shows words turn made k i e s = turn-shows words turn made i (shows-in words made.hart k e s)

shows-at : (words : List ℕ) (h : HartState) (k : KernelState) (p : CallPlace) (done : Committed) → HandShows h words → h.kernel ≡ Some k → h.place ≡ p → k.under_way ≡ CallReturning done → is_heap_call (meant done.calling.call) ≡ true
    → ShowsAt p k done.calling.pid words
shows-at words h k p done s e at u c = subst (λ q. ShowsAt q k done.calling.pid words) at (s k done e u c)

-- ---- a call that waits is not committed
waits-not : (k : KernelState) (c : Calling) (done : Committed) → k.under_way ≡ Waiting c → k.under_way ≡ CallReturning done → ⊥
waits-not k c done w u = let e : Waiting c ≡ CallReturning done = sym w ∙ u in grind (arith, e)

-- ---- a plan
calls-same : (found : Found) (k : KernelState) (c : Calling) (o : Option Process) (done : Committed) → k.under_way ≡ Waiting c → (plan_by found c o k).kernel.under_way ≡ CallReturning done → c ≡ done.calling
calls-same found k c None done w u = absurd (waits-not k c done w u)
calls-same found k c (Some p) done w u = grind (arith, u)

plan-calls : (found : Found) (k : KernelState) (c : Calling) (done : Committed) → k.under_way ≡ Waiting c → (plan found k).kernel.under_way ≡ CallReturning done → c ≡ done.calling
unfolding plan
plan-calls found k c done w u =
    calls-same found k c (process_at k c.pid) done w (subst (λ x. (plan_waiting found x k).kernel.under_way ≡ CallReturning done) w u)

planned : (words : List ℕ) (found : Found) (k : KernelState) (c : Calling) (done : Committed) → KernelFits words k → k.config.heap ≡ Oscar → k.under_way ≡ Waiting c → (plan found k).kernel.under_way ≡ CallReturning done
    → is_heap_call (meant done.calling.call) ≡ true → CallShows (plan found k).kernel done.calling.pid words
planned words found k c done fits oscar w u h =
    let same = plan-calls found k c done w u in
    subst (λ (z : Calling). CallShows (plan found k).kernel z.pid words) same
    (heap_plans_show words found k c fits oscar w (subst (λ (z : Calling). is_heap_call (meant z.call) ≡ true) (sym same) h))

plan-shows : (words : List ℕ) (found : Found) (k : KernelState) (boxes : List (Option BoxState)) (c : Calling) → FitsSome k → AllAgree k (words_after (entries k) k.jobs words) → k.config.heap ≡ Oscar → k.under_way ≡ Waiting c
    → (done : Committed) → (plan found k).kernel.under_way ≡ CallReturning done → is_heap_call (meant done.calling.call) ≡ true → ShowsAt (place_on (plan found k).kernel boxes) (plan found k).kernel done.calling.pid words
plan-shows words found k boxes c fits a oscar w done u h =
    work_keeps_showing.on (plan found k).kernel done.calling.pid words boxes (planned words found k c done (refit fits.words words k fits.fits a) oscar w u h)

-- ---- begin
waiting-fits : (words : List ℕ) (k : KernelState) (c : Calling) → KernelFits words k → k.under_way ≡ Quiet → length k.journal < k.config.journal → slice_get k.records c.hart ≡ Some (records.Runs c.pid c.thread)
    → KernelFits words (record k { under_way = Waiting c })
waiting-fits words k c f q room caller =
    let r = at_rest words k f q in record {
      sizes = record {
        config = f.sizes.config;
        memory = f.sizes.memory;
        free = f.sizes.free;
        regions = f.sizes.regions;
        records = f.sizes.records;
        processes = f.sizes.processes;
        threads = f.sizes.threads;
        journal = f.sizes.journal;
        output = f.sizes.output;
        peak = f.sizes.peak;
      };
      memory = r.memory;
      records = r.records;
      manned = r.manned;
      under_way = record { jobs = r.jobs; room = room; caller = caller };
    }

-- what goes ahead has room in the journal
room-if : (k : KernelState) (c : Calling) (p : Process) → begun_in (Some p) c k ≡ begun.Planned → length k.journal < k.config.journal
room-if k c p e = go (is_ready k c.pid c.call) (has_journal_room k) refl e
  where
    go : (ready room : Bool) → has_journal_room k ≡ room → cond (not ready) begun.Again (cond (not room) begun.JournalFull (first_step c p k (meant c.call))) ≡ begun.Planned → length k.journal < k.config.journal
    go false room r e = absurd (let b : ⊥ = grind (arith, e) in b)
    go true false r e = absurd (let b : ⊥ = grind (arith, e) in b)
    go true true r e = grind (arith, nat_tests, r)

begun-shows : (words : List ℕ) (k : KernelState) (c : Calling) (o : Option Process) → KernelFits words k → k.under_way ≡ Quiet → k.config.heap ≡ Oscar → slice_get k.records c.hart ≡ Some (records.Runs c.pid c.thread) → (b : Begun) → begun_in o c k ≡ b
    → (done : Committed) → (begin_as b c k).kernel.under_way ≡ CallReturning done → is_heap_call (meant done.calling.call) ≡ true → CallShows (begin_as b c k).kernel done.calling.pid words
begun-shows words k c o f q oscar caller begun.Again e done u h = absurd (let z : Retrying ≡ CallReturning done = u in let b : ⊥ = grind (arith, z) in b)
begun-shows words k c o f q oscar caller begun.JournalFull e done u h = absurd (let z : Retrying ≡ CallReturning done = u in let b : ⊥ = grind (arith, z) in b)
begun-shows words k c o f q oscar caller begun.Gone e done u h = absurd (let z : Leaving c.hart ≡ CallReturning done = u in let b : ⊥ = grind (arith, z) in b)
begun-shows words k c o f q oscar caller begun.Boxes e done u h = absurd (let z : Waiting c ≡ CallReturning done = u in let b : ⊥ = grind (arith, z) in b)
begun-shows words k c o f q oscar caller (begun.Header first second) e done u h = absurd (let z : Waiting c ≡ CallReturning done = u in let b : ⊥ = grind (arith, z) in b)
begun-shows words k c None f q oscar caller begun.Planned e done u h = absurd (let b : ⊥ = grind (arith, e) in b)
begun-shows words k c (Some p) f q oscar caller begun.Planned e done u h =
    planned words no_words (record k { under_way = Waiting c }) c done (waiting-fits words k c f q (room-if k c p e) caller) oscar refl u h

call-shows : (words : List ℕ) (k : KernelState) (hart pc : ℕ) (regs : List ℕ) (asked : Request) → KernelFits words k → k.under_way ≡ Quiet → k.config.heap ≡ Oscar → (o : Option Calling) → calling_of hart regs pc asked (slice_get k.records hart) ≡ o
    → (done : Committed) → (begin_call hart o k).kernel.under_way ≡ CallReturning done → is_heap_call (meant done.calling.call) ≡ true → CallShows (begin_call hart o k).kernel done.calling.pid words
call-shows words k hart pc regs asked f q oscar None e done u h = absurd (let z : Leaving hart ≡ CallReturning done = u in let b : ⊥ = grind (arith, z) in b)
call-shows words k hart pc regs asked f q oscar (Some c) e done u h =
    let who = asks_as hart pc regs asked (slice_get k.records hart) c e in
    begun-shows words k c (process_at k c.pid) f q oscar (subst (λ z. slice_get k.records z ≡ Some (records.Runs c.pid c.thread)) who.1 who.0) (begun_in (process_at k c.pid) c k) refl done u h

begin-shows : (words : List ℕ) (k : KernelState) (hart pc : ℕ) (regs : List ℕ) (asked : Request) → KernelFits words k → k.under_way ≡ Quiet → k.config.heap ≡ Oscar
    → (done : Committed) → (begin hart regs pc asked k).kernel.under_way ≡ CallReturning done → is_heap_call (meant done.calling.call) ≡ true → CallShows (begin hart regs pc asked k).kernel done.calling.pid words
unfolding begin
begin-shows words k hart pc regs asked f q oscar done u h = call-shows words k hart pc regs asked f q oscar (calling_of hart regs pc asked (slice_get k.records hart)) refl done u h

begun-place : (b : Begun) (k : KernelState) (pid : ℕ) (words : List ℕ) (boxes : List (Option BoxState)) → CallShows k pid words → ShowsAt (place_begun b k boxes) k pid words
begun-place begun.Again k pid words boxes s = s
begun-place begun.JournalFull k pid words boxes s = s
begun-place begun.Gone k pid words boxes s = s
begun-place begun.Boxes k pid words boxes s = s
begun-place (begun.Header first second) k pid words boxes s = s
begun-place begun.Planned k pid words boxes s = work_keeps_showing.on k pid words boxes s

-- ---- the heap of the kernel, wherever it is
hand-oscar : (s : State) (n : ℕ) (h : HartState) → Holds s → IsOscar s → slice_get s.harts n ≡ Some h → (k : KernelState) → h.kernel ≡ Some k → k.config.heap ≡ Oscar
hand-oscar s n h holds oscar here k e = ap (λ (z : KernelState). z.config.heap) (hand-is-one s n h k holds.kernel holds.has here e) ∙ oscar holds.kernel holds.has

home-oscar : (s : State) (k : KernelState) → Holds s → IsOscar s → s.kernel ≡ Some k → k.config.heap ≡ Oscar
home-oscar s k holds oscar e = ap (λ (z : KernelState). z.config.heap) (home-is s k holds.kernel holds.has e) ∙ oscar holds.kernel holds.has

-- a job that is done leaves the call
same-call : (word : ℕ) (k : KernelState) (done : Committed) → (job_done word k).kernel.under_way ≡ CallReturning done → k.under_way ≡ CallReturning done
unfolding job_done
same-call word k done e = e

-- ---- each row
-- a kernel that a hart is told of was at home
abbrev FromHome : List ℕ → HartTold → Type 0
FromHome words (Kernel k) = AtHome k × AllAgree k (words_in_end Outside k words) × (k.config.heap ≡ Oscar)
FromHome words t = Unit {0}

abbrev HandOscar : HartState → Type 0
HandOscar h = (k : KernelState) → h.kernel ≡ Some k → k.config.heap ≡ Oscar

hand-by : (n : ℕ) (h : HartState) (t : HartTold) (turn : Turn) (words : List ℕ) → HandStands n h → HandAgree h words → HandOscar h → HandShows h words → FromHome words t
    → ((moves : List Move) (read : Option ℕ) → h.place ≡ Working moves read → Does (move_ask moves read) (word_told t) words words)
    → Turned h t turn → HandShows turn.hart words
hand-by n h t turn words stands agree oscar shows home acts (Unmoved i) = rw i shows
hand-by n h t turn words stands agree oscar shows home acts (InGuest said pl he i) = rw i (λ k done e. absurd ((stands-at n h k Outside stands e pl).stands))
hand-by n h t turn words stands agree oscar shows home acts (TakesKernel k asked pl tk wa i) =
    let from : FromHome words (Kernel k) = subst (FromHome words) tk home in
    let b = begin h.number h.user.regs h.user.pc asked k in
    let f = from.0.fits in
    hand-shows words turn _ b.kernel i refl
    (λ done u c. begun-place b.begun b.kernel done.calling.pid words h.boxes (begin-shows words k h.number h.user.pc h.user.regs asked (refit f.words words k f.fits from.1) from.0.quiet from.2 done u c))
hand-by n h t turn words stands agree oscar shows home acts (TakesBox box state k pl ke tk last i) =
    let a = stands-at n h k (TakingBoxes box) stands ke pl in
    hand-shows words turn _ k i refl (λ done u c. absurd (waits-not k a.stands.0 done a.stands.1 u))
hand-by n h t turn words stands agree oscar shows home acts (TakesLastBox box state k pl ke tk last i) =
    let a = stands-at n h k (TakingBoxes box) stands ke pl in
    hand-shows words turn _ (plan (found_words 0 0) k).kernel i refl
    (plan-shows words (found_words 0 0) k _ a.stands.0 a.fits (agree-at words h k (TakingBoxes box) agree ke pl) (oscar k ke) a.stands.1)
hand-by n h t turn words stands agree oscar shows home acts (FindsFirst first second word k pl ke tk i) =
    let a = stands-at n h k (FirstWord first second) stands ke pl in
    hand-shows words turn _ k i ke (λ done u c. absurd (waits-not k a.stands.0 done a.stands.1 u))
hand-by n h t turn words stands agree oscar shows home acts (FindsSecond found word second k pl ke tk i) =
    let a = stands-at n h k (SecondWord found second) stands ke pl in
    hand-shows words turn _ (plan (found_words found word) k).kernel i refl
    (plan-shows words (found_words found word) k h.boxes a.stands.0 a.fits (agree-at words h k (SecondWord found second) agree ke pl) (oscar k ke) a.stands.1)
hand-by n h t turn words stands agree oscar shows home acts (Works moves left read now word k pl ke wo pr i) =
    let a = stands-at n h k (Working moves read) stands ke pl in
    let d : Does (move_ask moves read) word words words = subst (λ w. Does (move_ask moves read) w words words) (sym wo) (acts moves read pl) in
    hand-shows words turn _ k i refl
    (λ done u c. work_keeps_showing.moved k done.calling.pid word moves left read now words words a.stands.1 (shows-at words h k (Working moves read) done shows ke pl u c) d pr)
hand-by n h t turn words stands agree oscar shows home acts (EndsJob moves read word k pl ke wo pr i) =
    let d : Does (move_ask moves read) word words words = subst (λ w. Does (move_ask moves read) w words words) (sym wo) (acts moves read pl) in
    hand-shows words turn _ (job_done word k).kernel i refl
    (λ done u c. work_keeps_showing.on (job_done word k).kernel done.calling.pid words h.boxes
    (work_keeps_showing.ended k done.calling.pid word moves read words words (shows-at words h k (Working moves read) done shows ke pl (same-call word k done u) c) d pr))
hand-by n h t turn words stands agree oscar shows home acts (GivesBox box k pl ke tk i) =
    hand-shows words turn _ k i refl
    (λ done u c. work_keeps_showing.on k done.calling.pid words (slice_set h.boxes box None) (shows-at words h k (GivingBoxes box) done shows ke pl u c))
hand-by n h t turn words stands agree oscar shows home acts (GivesKernel return pl tk i) = rw i (λ k done e. absurd (let b : ⊥ = grind (arith, e) in b))

-- ---- the whole state
turned-shows : (s u : State) (n : ℕ) (h : HartState) (t : HartTold) (a : HartAsk) (words : List ℕ) → Holds s → Stands s → IsOscar s → HandAgree h words → AllShow s words → Asks s n h a → u.harts ≡ s.harts
    → FromHome words t → ((moves : List Move) (read : Option ℕ) → h.place ≡ Working moves read → Does (move_ask moves read) (word_told t) words words)
    → AllShow (record u { harts = slice_set u.harts n (hart_told h t).hart }) words
turned-shows s u n h t a words holds stands oscar agree shows asks hs from acts m y e =
    each-written (λ i z. HandShows z words) s.harts n (hart_told h t).hart (λ i z f. shows i z f)
    (hand-by n h t (hart_told h t) words (stands.hand n h asks.here) agree (hand-oscar s n h holds oscar asks.here) (shows n h asks.here) from acts (turns_by_row h t))
    m y (subst (λ xs. slice_get (set xs n (hart_told h t).hart) m ≡ Some y) hs e)

-- ---- a store
worked : (s : State) (n : ℕ) (h : HartState) (to : WordAt) (value : ℕ) (moves : List Move) (read : Option ℕ) → Holds s → Stands s → AllShow s s.words → Asks s n h (does.Store to value) → h.place ≡ Working moves read
    → AllShow (record s { words = put_word s.words to.frame to.index value; harts = slice_set s.harts n (hart_told h Done).hart }) (put_word s.words to.frame to.index value)
worked s n h to value moves read holds stands shows asks at m y e =
    each-other (λ i z. HandShows z now) s.harts n (hart_told h Done).hart
    (λ i z apart there other done q. absurd (apart (sym (alone s n i h z kernel.0 other stands asks.here kernel.1 there q (hand-is-one s i z other kernel.0 has there q) committed))))
    (subst (λ (z : Turn). HandShows z.hart now) (sym (told_work h moves read kernel.0 at kernel.1)) (mine (moves_left moves read 0) refl)) m y e
  where
    now : List ℕ
    now = put_word s.words to.frame to.index value

    kernel : (k : KernelState) × (h.kernel ≡ Some k)
    kernel = some-kernel h.kernel (let a = holds.has.in_hand n h asks.here in a ∙ ap is_in_call at)

    has : HasKernel s kernel.0
    has = subst (HasKernel s) (sym (hand-is-one s n h kernel.0 holds.kernel holds.has asks.here kernel.1)) holds.has

    stands_here : InHand n (Working moves read) kernel.0
    stands_here = stands-at n h kernel.0 (Working moves read) (stands.hand n h asks.here) kernel.1 at

    committed : IsCommitted kernel.0
    committed = stands_here.stands.0

    d : Does (move_ask moves read) 0 s.words now
    d = by-ask s n h (does.Store to value) 0 s.words now asks refl moves read at

    mine : (p : MovesLeft) → moves_left moves read 0 ≡ p → HandShows (made_by_left moves kernel.0 h p).hart now
    mine (StillAt left then) pr = shows-in now (made_by_left moves kernel.0 h (StillAt left then)).hart kernel.0 refl
        (λ done u c. work_keeps_showing.moved kernel.0 done.calling.pid 0 moves left read then s.words now stands_here.stands.1 (shows-at s.words h kernel.0 (Working moves read) done (shows n h asks.here) kernel.1 at u c) d pr)
    mine AllDone pr = shows-in now (made_by_left moves kernel.0 h AllDone).hart (job_done 0 kernel.0).kernel refl
        (λ done u c. work_keeps_showing.on (job_done 0 kernel.0).kernel done.calling.pid now h.boxes
        (work_keeps_showing.ended kernel.0 done.calling.pid 0 moves read s.words now (shows-at s.words h kernel.0 (Working moves read) done (shows n h asks.here) kernel.1 at (same-call 0 kernel.0 done u) c) d pr))

stored-by : (s : State) (n : ℕ) (h : HartState) (to : WordAt) (value : ℕ) → Holds s → Stands s → IsOscar s → StoreShows s n → AllShow s s.words → Asks s n h (does.Store to value)
    → AllShow (record s { words = put_word s.words to.frame to.index value; harts = slice_set s.harts n (hart_told h Done).hart }) (put_word s.words to.frame to.index value)
stored-by s n h to value holds stands oscar leaves shows asks = ⊎_elim
    (λ (out : h.place ≡ Outside). turned-shows s (record s { words = put_word s.words to.frame to.index value }) n h Done _ (put_word s.words to.frame to.index value) holds stands oscar
    (λ k e. absurd ((stands-at n h k Outside (stands.hand n h asks.here) e out).stands)) (leaves h to value asks.here out asks.asks) asks refl tt
    (λ moves read at. absurd (let e : Outside ≡ Working moves read = sym out ∙ at in let b : ⊥ = grind (arith, e) in b)))
    (λ (w : (moves : List Move) × (read : Option ℕ) × (h.place ≡ Working moves read)). worked s n h to value w.0 w.1 holds stands shows asks w.2)
    (storer s n h to value asks)

-- ---- each step
shows-by : (s : State) (n : ℕ) (x : Stepped) → Holds s → Stands s → IsOscar s → WordsAgree s s.words → StoreShows s n → AllShow s s.words → Did s n x → AllShow x.state x.state.words
shows-by s n x holds stands oscar agree leaves shows (Stayed i) = rw i shows
shows-by s n x holds stands oscar agree leaves shows (TookBox h box state a b i) =
    rw i (turned-shows s (with_box s box None) n h (Box state) _ s.words holds stands oscar (λ k e. agree.hand n h k a.here e) shows a refl tt (by-ask s n h _ 0 s.words s.words a refl))
shows-by s n x holds stands oscar agree leaves shows (GaveBox h box a i) =
    rw i (turned-shows s (with_box s box (Some (handed_box h))) n h Done _ s.words holds stands oscar (λ k e. agree.hand n h k a.here e) shows a refl tt (by-ask s n h _ 0 s.words s.words a refl))
shows-by s n x holds stands oscar agree leaves shows (ChangedBox h box state a b i) =
    rw i (turned-shows s (with_box s box (Some (box_given box h.kernel (Some state)))) n h Done _ s.words holds stands oscar (λ k e. agree.hand n h k a.here e) shows a refl tt (by-ask s n h _ 0 s.words s.words a refl))
shows-by s n x holds stands oscar agree leaves shows (Loaded h from a i) =
    rw i (turned-shows s s n h (Word (word_at s.words from.frame from.index)) _ s.words holds stands oscar (λ k e. agree.hand n h k a.here e) shows a refl tt (by-ask s n h _ (word_at s.words from.frame from.index) s.words s.words a (refl, refl)))
shows-by s n x holds stands oscar agree leaves shows (Stored h to value a i) = rw i (stored-by s n h to value holds stands oscar leaves shows a)
shows-by s n x holds stands oscar agree leaves shows (TookGate h frame only gate a b c d i) =
    rw i (turned-shows s (with_gate s frame gate.version true) n h (ToldGate gate.version) _ s.words holds stands oscar (λ k e. agree.hand n h k a.here e) shows a refl tt (by-ask s n h _ 0 s.words s.words a refl))
shows-by s n x holds stands oscar agree leaves shows (FoundOldVersion h frame only gate a b c d i) =
    rw i (turned-shows s s n h OldVersion _ s.words holds stands oscar (λ k e. agree.hand n h k a.here e) shows a refl tt (by-ask s n h _ 0 s.words s.words a refl))
shows-by s n x holds stands oscar agree leaves shows (OpenedGate h frame version a i) =
    rw i (turned-shows s (with_gate s frame version false) n h Done _ s.words holds stands oscar (λ k e. agree.hand n h k a.here e) shows a refl tt (by-ask s n h _ 0 s.words s.words a refl))
shows-by s n x holds stands oscar agree leaves shows (TookKernel h k a b i) =
    rw i (turned-shows s (record s { kernel = None }) n h (Kernel k) _ s.words holds stands oscar (λ z e. agree.hand n h z a.here e) shows a refl
    (stands.home k b, agree.home k b, home-oscar s k holds oscar b) (by-ask s n h _ 0 s.words s.words a refl))
shows-by s n x holds stands oscar agree leaves shows (GaveKernel h a i) =
    rw i (turned-shows s (record s { kernel = handed_kernel h }) n h Done _ s.words holds stands oscar (λ k e. agree.hand n h k a.here e) shows a refl tt (by-ask s n h _ 0 s.words s.words a refl))

pub steps_keep_showing : StepsKeepShowing
steps_keep_showing s n holds stands oscar agree leaves shows = shows-by s n (step s n) holds stands oscar agree leaves shows (steps_by_row s n)

-- ---- a store in a frame that is nobody's table
lives-here : (k : KernelState) (done : Committed) (p : Process) → FitsSome k → k.under_way ≡ CallReturning done → process_at k done.calling.pid ≡ Some p → p.status ≡ None
lives-here k done p fits u at = (let r : ReturningFits k done = subst (UnderWayFits k) u fits.fits.under_way in lives_none p (process_at k done.calling.pid) at r.lives)

pub stores_show : StoresShow
stores_show s k frame index value stands has nobodys l shows m h here other done e u c =
    let same : other ≡ k = hand-is-one s m h other k has here e in
    let i = stands.hand m h here other e in
    work_keeps_showing.stored other done.calling.pid frame index value h.place s.words i.stands (shows m h here other done e u c)
    (λ p at. subst (λ z. IsNobodysTable z frame) (sym same) nobodys done.calling.pid p at (lives-here other done p i.fits u at)) l
