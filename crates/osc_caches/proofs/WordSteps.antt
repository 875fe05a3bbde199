-- Each step keeps the agreement of the machine's own words with the kept tables.
use Rattle.std.proofs.Common.{ℕ, ◌≡◌, ◌≢◌, ◌⊎◌, inl, inr, ⊎_elim, ◌==◌, Bool, true, false, Option, Some, None, List, [], ◌∷◌, set, slice_get, slice_set, drop, is_some, option_map, arith, refl, sym, ap, subst, ◌∙◌}
use Rattle.std.proofs.lemmas.Bool.Decides.{nat_tests}
use Rattle.osc_word.specs.declared.job_list.WordAt.{WordAt}
use Rattle.osc_sv39.specs.Walk.{word_at, put_word}
use Rattle.osc_paging.specs.Boxes.{BoxState}
use Rattle.osc_paging.specs.JobWords.{words_after}
use Rattle.osc_paging.proofs.WordLists.{slice_get-set}
use Rattle.osc_calls.specs.declared.Begun.{Begun}
use Rattle.osc_calls.specs.declared.Begun.TheVariants as begun
use Rattle.osc_calls.specs.Kernel.{KernelState, Calling, Quiet, Waiting, Returning as CallReturning}
use Rattle.osc_calls.specs.Begin.{begin}
use Rattle.osc_calls.specs.Plan.{plan}
use Rattle.osc_calls.specs.JobDone.{job_done, entries}
use Rattle.osc_calls.specs.Moves.{Move, low_bytes}
use Rattle.osc_calls.specs.Moves as move
use Rattle.osc_calls.specs.MoveLaws.{words_after_moves}
use Rattle.osc_calls.specs.Finish.{finish}
use Rattle.osc_space.specs.Header.{Found}
use Rattle.osc_settled.proofs.Plans.{plans_keep}
use Rattle.osc_settled.proofs.Beginning.{begins_keep}
use Rattle.osc_settled.proofs.Returning.{finish_keeps}
use Rattle.osc_machine.specs.declared.HartAsk.{HartAsk}
use Rattle.osc_machine.specs.declared.HartAsk.TheVariants as does
use Rattle.osc_machine.specs.Parts.{CallPlace, Outside, TakingBoxes, FirstWord, SecondWord, Working, GivingBoxes, Returning, Return, HartState, State}
use Rattle.osc_machine.specs.Turns.{HartTold, Box, Kernel, Word, Gate as ToldGate, OldVersion, Done, Turn, MovesLeft, StillAt, AllDone, moves_left, rest_of, move_ask, place_ask, place_begun, place_told, place_on, place_after, kernel_after, clears_by, in_call, action_done, hart_ask, hart_told, handed_box, handed_kernel, found_words}
use Rattle.osc_machine.specs.Step.{Stepped, with_box, with_gate, step}
use Rattle.osc_machine.specs.Laws.{is_in_call, HasKernel}
use Rattle.osc_machine.specs.Did.{Turned, Unmoved, InGuest, TakesKernel, TakesBox, TakesLastBox, FindsFirst, FindsSecond, Works, EndsJob, GivesBox, GivesKernel, word_told, Asks, Did, Stayed, TookBox, GaveBox, ChangedBox, Loaded, Stored, TookGate, FoundOldVersion, OpenedGate, TookKernel, GaveKernel}
use Rattle.osc_machine.proofs.RowLaws.{turns_by_row, steps_by_row}
use Rattle.osc_machine.proofs.KernelLaws.{returns_of}
use Rattle.osc_safe.specs.Holding.{Holds}
use Rattle.osc_safe.specs.Standing.{FitsSome, IsFor, IsCommitted, AtHome, InHand, HandStands, Stands}
use Rattle.osc_safe.proofs.KernelRows.{home-is, hand-is-one}
use Rattle.osc_safe.proofs.StandingSteps.{each-written}
use Rattle.osc_caches.specs.Words.{words_then, words_in_end, Does, AllAgree, WordsAgree, StoreLeaves, StepsKeepWords}
use Rattle.osc_caches.proofs.Refits.{all-agree, refit, unread, on-end}

-- ---- the moves of a job
-- the words once what is left was done
abbrev pub InEnd : MovesLeft → List ℕ → List ℕ
InEnd (StillAt moves read) words = words_then moves read words
InEnd AllDone words = words

rest-end : (moves : List Move) (words : List ℕ) → InEnd (rest_of moves) words ≡ words_after_moves moves words
rest-end [] words = refl
rest-end (m ∷ moves) words = unread (m ∷ moves) words

pub moved : (moves : List Move) (read : Option ℕ) (word : ℕ) (words now : List ℕ) → Does (move_ask moves read) word words now
    → InEnd (moves_left moves read word) now ≡ words_then moves read words
moved [] read word words now d = d
moved (move.Put to value ∷ moves) read word words now d = rest-end moves now ∙ ap (words_after_moves moves) d
moved (move.Copy from to ∷ moves) None word words now d =
    ap (λ z. words_after_moves moves (put_word z to.frame to.index word)) d.1 ∙ ap (λ z. words_after_moves moves (put_word words to.frame to.index z)) d.0
moved (move.Copy from to ∷ moves) (Some read) word words now d = rest-end moves now ∙ ap (words_after_moves moves) d
moved (move.CopyLow from to bytes ∷ moves) None word words now d =
    ap (λ z. words_after_moves moves (put_word z to.frame to.index (low_bytes bytes word))) d.1
    ∙ ap (λ z. words_after_moves moves (put_word words to.frame to.index (low_bytes bytes z))) d.0
moved (move.CopyLow from to bytes ∷ moves) (Some read) word words now d = rest-end moves now ∙ ap (words_after_moves moves) d
moved (move.ChangeBox box ∷ moves) read word words now d = rest-end moves now ∙ ap (words_after_moves moves) d
moved (move.Out from ∷ moves) read word words now d = rest-end moves now ∙ ap (words_after_moves moves) d.1

-- ---- a hart that turns
abbrev pub HandAgree : HartState → List ℕ → Type 0
HandAgree h words = (k : KernelState) → h.kernel ≡ Some k → AllAgree k (words_in_end h.place k words)

hand-is : (words : List ℕ) (turn made : Turn) (k : KernelState) → turn ≡ made → made.hart.kernel ≡ Some k → AllAgree k (words_in_end made.hart.place k words) → HandAgree turn.hart words
hand-is words turn made k i e a = subst (λ (x : Turn). HandAgree x.hart words) (sym i) (λ other f. (let same : k ≡ other = grind (arith, e, f) in subst (λ z. AllAgree z (words_in_end made.hart.place z words)) same a))

pub agree-at : (words : List ℕ) (h : HartState) (k : KernelState) (p : CallPlace) → HandAgree h words → h.kernel ≡ Some k → h.place ≡ p → AllAgree k (words_in_end p k words)
agree-at words h k p a e f = subst (λ q. AllAgree k (words_in_end q k words)) f (a k e)

pub stands-at : (n : ℕ) (h : HartState) (k : KernelState) (p : CallPlace) → HandStands n h → h.kernel ≡ Some k → h.place ≡ p → InHand n p k
stands-at n h k p stands e f = subst (λ q. InHand n q k) f (stands k e)

-- a kernel that it is told of was at home
abbrev FromHome : List ℕ → HartTold → Type 0
FromHome words (Kernel k) = AtHome k × AllAgree k (words_in_end Outside k words)
FromHome words t = Unit {0}

begun-end : (b : Begun) (k : KernelState) (words : List ℕ) (boxes : List (Option BoxState)) → words_in_end (place_begun b k boxes) k words ≡ words_after (entries k) k.jobs words
begun-end begun.Again k words boxes = refl
begun-end begun.JournalFull k words boxes = refl
begun-end begun.Gone k words boxes = refl
begun-end begun.Boxes k words boxes = refl
begun-end (begun.Header first second) k words boxes = refl
begun-end begun.Planned k words boxes = on-end k words boxes

planned-end : (words : List ℕ) (found : Found) (k : KernelState) (boxes : List (Option BoxState)) (c : Calling) → FitsSome k → AllAgree k (words_after (entries k) k.jobs words) → k.under_way ≡ Waiting c
    → AllAgree (plan found k).kernel (words_in_end (place_on (plan found k).kernel boxes) (plan found k).kernel words)
planned-end words found k boxes c fits a waits =
    subst (AllAgree (plan found k).kernel) (sym (on-end (plan found k).kernel words boxes))
    (all-agree words (plan found k).kernel (plans_keep words found k c (refit fits.words words k fits.fits a) waits))

done-end : (words : List ℕ) (word : ℕ) (k : KernelState) (boxes : List (Option BoxState)) → AllAgree k (words_after (entries k) (drop 1 k.jobs) words)
    → AllAgree (job_done word k).kernel (words_in_end (place_on (job_done word k).kernel boxes) (job_done word k).kernel words)
unfolding job_done
done-end words word k boxes a = subst (AllAgree (job_done word k).kernel) (sym (on-end (job_done word k).kernel words boxes)) (record { size = a.size; each = a.each })

hand-by : (n : ℕ) (h : HartState) (t : HartTold) (turn : Turn) (words : List ℕ) → HandStands n h → HandAgree h words → FromHome words t
    → ((moves : List Move) (read : Option ℕ) → h.place ≡ Working moves read → Does (move_ask moves read) (word_told t) words words)
    → Turned h t turn → HandAgree turn.hart words
hand-by n h t turn words stands agree home acts (Unmoved i) = rw i agree
hand-by n h t turn words stands agree home acts (InGuest said pl he i) = rw i (λ k e. absurd ((stands-at n h k Outside stands e pl).stands))
hand-by n h t turn words stands agree home acts (TakesKernel k asked pl tk wa i) =
    let from : FromHome words (Kernel k) = subst (FromHome words) tk home in
    let b = begin h.number h.user.regs h.user.pc asked k in
    let f = from.0.fits in
    let fits = begins_keep words h.number h.user.pc h.user.regs asked k (refit f.words words k f.fits from.1) from.0.quiet in
    hand-is words turn _ b.kernel i refl (subst (AllAgree b.kernel) (sym (begun-end b.begun b.kernel words h.boxes)) (all-agree words b.kernel fits))
hand-by n h t turn words stands agree home acts (TakesBox box state k pl ke tk last i) = hand-is words turn _ k i refl (agree-at words h k (TakingBoxes box) agree ke pl)
hand-by n h t turn words stands agree home acts (TakesLastBox box state k pl ke tk last i) =
    let a = stands-at n h k (TakingBoxes box) stands ke pl in
    hand-is words turn _ (plan (found_words 0 0) k).kernel i refl
    (planned-end words (found_words 0 0) k _ a.stands.0 a.fits (agree-at words h k (TakingBoxes box) agree ke pl) a.stands.1)
hand-by n h t turn words stands agree home acts (FindsFirst first second word k pl ke tk i) = hand-is words turn _ k i ke (agree-at words h k (FirstWord first second) agree ke pl)
hand-by n h t turn words stands agree home acts (FindsSecond found word second k pl ke tk i) =
    let a = stands-at n h k (SecondWord found second) stands ke pl in
    hand-is words turn _ (plan (found_words found word) k).kernel i refl
    (planned-end words (found_words found word) k h.boxes a.stands.0 a.fits (agree-at words h k (SecondWord found second) agree ke pl) a.stands.1)
hand-by n h t turn words stands agree home acts (Works moves left read now word k pl ke wo pr i) =
    let d : Does (move_ask moves read) word words words = subst (λ w. Does (move_ask moves read) w words words) (sym wo) (acts moves read pl) in
    let e : words_then left now words ≡ words_then moves read words = subst (λ p. InEnd p words ≡ words_then moves read words) pr (moved moves read word words words d) in
    hand-is words turn _ k i refl (subst (λ z. AllAgree k (words_after (entries k) (drop 1 k.jobs) z)) (sym e) (agree-at words h k (Working moves read) agree ke pl))
hand-by n h t turn words stands agree home acts (EndsJob moves read word k pl ke wo pr i) =
    let d : Does (move_ask moves read) word words words = subst (λ w. Does (move_ask moves read) w words words) (sym wo) (acts moves read pl) in
    let e : words ≡ words_then moves read words = subst (λ p. InEnd p words ≡ words_then moves read words) pr (moved moves read word words words d) in
    hand-is words turn _ (job_done word k).kernel i refl
    (done-end words word k h.boxes (subst (λ z. AllAgree k (words_after (entries k) (drop 1 k.jobs) z)) (sym e) (agree-at words h k (Working moves read) agree ke pl)))
hand-by n h t turn words stands agree home acts (GivesBox box k pl ke tk i) =
    hand-is words turn _ k i refl (subst (AllAgree k) (sym (on-end k words (slice_set h.boxes box None))) (agree-at words h k (GivingBoxes box) agree ke pl))
hand-by n h t turn words stands agree home acts (GivesKernel return pl tk i) = rw i (λ k e. absurd (let b : ⊥ = grind (arith, e) in b))

-- ---- the whole state
turned-agrees : (s u : State) (n : ℕ) (h : HartState) (t : HartTold) (a : HartAsk) (words : List ℕ) → Stands s → WordsAgree s words → Asks s n h a → u.harts ≡ s.harts
    → FromHome words t → ((k : KernelState) → u.kernel ≡ Some k → AllAgree k (words_in_end Outside k words))
    → ((moves : List Move) (read : Option ℕ) → h.place ≡ Working moves read → Does (move_ask moves read) (word_told t) words words)
    → WordsAgree (record u { harts = slice_set u.harts n (hart_told h t).hart }) words
turned-agrees s u n h t a words stands agree asks hs from home acts = record {
  home = home;
  hand = λ m y k. subst (λ xs. slice_get (set xs n (hart_told h t).hart) m ≡ Some y → y.kernel ≡ Some k → AllAgree k (words_in_end y.place k words)) (sym hs)
      (λ e. each-written (λ i z. HandAgree z words) s.harts n (hart_told h t).hart (λ i z f q. agree.hand i z q f)
      (hand-by n h t (hart_told h t) words (stands.hand n h asks.here) (λ z q. agree.hand n h z asks.here q) from acts (turns_by_row h t)) m y e k);
}

-- what is true of the hart that is written and of each other one
pub each-other : (P : ℕ → HartState → Type 0) (harts : List HartState) (n : ℕ) (x : HartState) → ((m : ℕ) (h : HartState) → m ≢ n → slice_get harts m ≡ Some h → P m h) → P n x
    → (m : ℕ) (y : HartState) → slice_get (set harts n x) m ≡ Some y → P m y
each-other P harts n x all mine m y e = go (m == n) refl
  where
    there : (m == n) ≡ true → (o : Option HartState) → slice_get harts m ≡ o → P m y
    there d None q = absurd (let b : ⊥ = grind (arith, nat_tests, e, d, q, slice_get-set harts n m x) in b)
    there d (Some h) q =
        let same : x ≡ y = grind (arith, nat_tests, e, d, q, slice_get-set harts n m x) in
        let at : n ≡ m = grind (arith, nat_tests, d) in
        subst (λ i. P i y) at (subst (λ z. P n z) same mine)

    go : (b : Bool) → (m == n) ≡ b → P m y
    go true d = there d (slice_get harts m) refl
    go false d = all m y (let apart : m ≢ n = grind (arith, nat_tests, d) in apart) (grind (arith, nat_tests, e, d, slice_get-set harts n m x))

asked-move : (h : HartState) (a : HartAsk) (moves : List Move) (read : Option ℕ) → hart_ask h ≡ a → h.place ≡ Working moves read → move_ask moves read ≡ a
unfolding hart_ask
asked-move h a moves read asks at = ap (λ p. place_ask p h) (sym at) ∙ asks

pub by-ask : (s : State) (n : ℕ) (h : HartState) (a : HartAsk) (word : ℕ) (words now : List ℕ) → Asks s n h a → Does a word words now
    → (moves : List Move) (read : Option ℕ) → h.place ≡ Working moves read → Does (move_ask moves read) word words now
by-ask s n h a word words now asks d moves read at = subst (λ z. Does z word words now) (sym (asked-move h a moves read asks.asks at)) d

-- ---- the kernel that is given
finish-agrees : (k : KernelState) (words : List ℕ) → FitsSome k → k.jobs ≡ [] → AllAgree k (words_after (entries k) k.jobs words) → AllAgree (finish k).kernel (words_in_end Outside (finish k).kernel words)
finish-agrees k words fits none a = all-agree words (finish k).kernel (finish_keeps words k (refit fits.words words k fits.fits a) none)

handed-by : (o : Option KernelState) (n : ℕ) (words : List ℕ) (return : Return) → ((k : KernelState) → o ≡ Some k → InHand n (Returning return) k)
    → ((k : KernelState) → o ≡ Some k → AllAgree k (words_after (entries k) k.jobs words))
    → (k : KernelState) → option_map (λ (z : KernelState). (finish z).kernel) o ≡ Some k → AllAgree k (words_in_end Outside k words)
handed-by None n words return all agree k e = absurd (let b : ⊥ = grind (arith, e) in b)
handed-by (Some z) n words return all agree k e =
    let i = all z refl in
    let same : (finish z).kernel ≡ k = grind (arith, e) in
    subst (λ q. AllAgree q (words_in_end Outside q words)) same (finish-agrees z words i.fits i.stands.1 (agree z refl))

handed-home : (s : State) (n : ℕ) (h : HartState) (words : List ℕ) → Stands s → WordsAgree s words → Asks s n h does.GiveKernel → (k : KernelState) → handed_kernel h ≡ Some k → AllAgree k (words_in_end Outside k words)
unfolding handed_kernel
handed-home s n h words stands agree asks =
    let r = returns_of h asks.asks in
    handed-by h.kernel n words r.0 (λ z e. stands-at n h z (Returning r.0) (stands.hand n h asks.here) e r.1)
    (λ z e. agree-at words h z (Returning r.0) (λ z q. agree.hand n h z asks.here q) e r.1)

nobody-home : (words : List ℕ) (k : KernelState) → None ≡ Some k → AllAgree k (words_in_end Outside k words)
nobody-home words k e = absurd (let b : ⊥ = grind (arith, e) in b)

-- ---- a store
store-place : (p : CallPlace) (h : HartState) (to : WordAt) (value : ℕ) → place_ask p h ≡ does.Store to value → (p ≡ Outside) ⊎ ((moves : List Move) × (read : Option ℕ) × (p ≡ Working moves read))
store-place Outside h to value e = inl refl
store-place (TakingBoxes box) h to value e = absurd (let b : ⊥ = grind (arith, e) in b)
store-place (FirstWord first second) h to value e = absurd (let b : ⊥ = grind (arith, e) in b)
store-place (SecondWord found second) h to value e = absurd (let b : ⊥ = grind (arith, e) in b)
store-place (Working moves read) h to value e = inr (moves, read, refl)
store-place (GivingBoxes box) h to value e = absurd (let b : ⊥ = grind (arith, e) in b)
store-place (Returning return) h to value e = absurd (let b : ⊥ = grind (arith, e) in b)

pub storer : (s : State) (n : ℕ) (h : HartState) (to : WordAt) (value : ℕ) → Asks s n h (does.Store to value) → (h.place ≡ Outside) ⊎ ((moves : List Move) × (read : Option ℕ) × (h.place ≡ Working moves read))
unfolding hart_ask
storer s n h to value asks = store-place h.place h to value asks.asks

-- nobody else has the kernel of a committed call
pub alone : (s : State) (n m : ℕ) (h g : HartState) (k other : KernelState) → Stands s → slice_get s.harts n ≡ Some h → h.kernel ≡ Some k → slice_get s.harts m ≡ Some g → g.kernel ≡ Some other → other ≡ k → IsCommitted k → n ≡ m
alone s n m h g k other stands here ke there oe same committed =
    let a = stands.hand n h here k ke in
    let b = stands.hand m g there other oe in
    let c : IsFor m k.under_way = subst (λ (z : KernelState). IsFor m z.under_way) same b.caller in
    let x : committed.0.calling.hart ≡ n = subst (IsFor n) committed.1 a.caller in
    let y : committed.0.calling.hart ≡ m = subst (IsFor m) committed.1 c in
    sym x ∙ y

-- a job's store
pub told_work : (h : HartState) (moves : List Move) (read : Option ℕ) (k : KernelState) → h.place ≡ Working moves read → h.kernel ≡ Some k → hart_told h Done ≡ action_done moves read 0 k h
unfolding hart_told
told_work h moves read k e f = ap (λ q. place_told q h.kernel h Done) e ∙ ap (λ o. place_told (Working moves read) o h Done) f

abbrev pub made_by_left : List Move → KernelState → HartState → MovesLeft → Turn
made_by_left moves k h p = let s = kernel_after p 0 k in in_call false s (place_after p s.kernel h.boxes) (record h { clears = clears_by moves k h.clears })

left-agrees : (p : MovesLeft) (moves : List Move) (k : KernelState) (h : HartState) (now then : List ℕ) → InEnd p now ≡ then → AllAgree k (words_after (entries k) (drop 1 k.jobs) then) → HandAgree (made_by_left moves k h p).hart now
left-agrees (StillAt left read) moves k h now then e a = hand-is now (made_by_left moves k h (StillAt left read)) _ k refl refl (subst (λ z. AllAgree k (words_after (entries k) (drop 1 k.jobs) z)) (sym e) a)
left-agrees AllDone moves k h now then e a =
    hand-is now (made_by_left moves k h AllDone) _ (job_done 0 k).kernel refl refl (done-end now 0 k h.boxes (subst (λ z. AllAgree k (words_after (entries k) (drop 1 k.jobs) z)) (sym e) a))

pub some-kernel : (o : Option KernelState) → is_some o ≡ true → (k : KernelState) × (o ≡ Some k)
some-kernel None e = absurd (let b : ⊥ = grind (arith, e) in b)
some-kernel (Some k) e = (k, refl)

not-quiet : (k : KernelState) → k.under_way ≡ Quiet → IsCommitted k → ⊥
not-quiet k e c = let f : Quiet ≡ CallReturning c.0 = sym e ∙ c.1 in grind (arith, f)

worked : (s : State) (n : ℕ) (h : HartState) (to : WordAt) (value : ℕ) (moves : List Move) (read : Option ℕ) → Holds s → Stands s → WordsAgree s s.words → Asks s n h (does.Store to value) → h.place ≡ Working moves read
    → WordsAgree (record s { words = put_word s.words to.frame to.index value; harts = slice_set s.harts n (hart_told h Done).hart }) (put_word s.words to.frame to.index value)
worked s n h to value moves read holds stands agree asks at = record {
  home = λ k e. absurd (not-quiet k (stands.home k e).quiet (subst IsCommitted (sym (home-is s k kernel.0 has e)) committed));
  hand = λ m y k e. each-other (λ i z. HandAgree z now) s.harts n (hart_told h Done).hart
      (λ i z apart there other q. absurd (apart (sym (alone s n i h z kernel.0 other stands asks.here kernel.1 there q (hand-is-one s i z other kernel.0 has there q) committed))))
      mine m y e k;
}
  where
    now : List ℕ
    now = put_word s.words to.frame to.index value

    kernel : (k : KernelState) × (h.kernel ≡ Some k)
    kernel = some-kernel h.kernel (let a = holds.has.in_hand n h asks.here in a ∙ ap is_in_call at)

    has : HasKernel s kernel.0
    has = subst (HasKernel s) (sym (hand-is-one s n h kernel.0 holds.kernel holds.has asks.here kernel.1)) holds.has

    committed : IsCommitted kernel.0
    committed = (stands-at n h kernel.0 (Working moves read) (stands.hand n h asks.here) kernel.1 at).stands.0

    mine : HandAgree (hart_told h Done).hart now
    mine = subst (λ (z : Turn). HandAgree z.hart now) (sym (told_work h moves read kernel.0 at kernel.1))
        (left-agrees (moves_left moves read 0) moves kernel.0 h now (words_then moves read s.words)
        (moved moves read 0 s.words now (by-ask s n h (does.Store to value) 0 s.words now asks refl moves read at))
        (agree-at s.words h kernel.0 (Working moves read) (λ z q. agree.hand n h z asks.here q) kernel.1 at))

stored-by : (s : State) (n : ℕ) (h : HartState) (to : WordAt) (value : ℕ) → Holds s → Stands s → StoreLeaves s n → WordsAgree s s.words → Asks s n h (does.Store to value)
    → WordsAgree (record s { words = put_word s.words to.frame to.index value; harts = slice_set s.harts n (hart_told h Done).hart }) (put_word s.words to.frame to.index value)
stored-by s n h to value holds stands leaves agree asks = ⊎_elim
    (λ (out : h.place ≡ Outside). (let a = leaves h to value asks.here out asks.asks in
    turned-agrees s (record s { words = put_word s.words to.frame to.index value }) n h Done _ (put_word s.words to.frame to.index value) stands a asks refl tt a.home
    (λ moves read at. absurd (let e : Outside ≡ Working moves read = sym out ∙ at in let b : ⊥ = grind (arith, e) in b))))
    (λ (w : (moves : List Move) × (read : Option ℕ) × (h.place ≡ Working moves read)). worked s n h to value w.0 w.1 holds stands agree asks w.2)
    (storer s n h to value asks)

-- ---- each row
agrees-by : (s : State) (n : ℕ) (x : Stepped) → Holds s → Stands s → StoreLeaves s n → WordsAgree s s.words → Did s n x → WordsAgree x.state x.state.words
agrees-by s n x holds stands leaves agree (Stayed i) = rw i agree
agrees-by s n x holds stands leaves agree (TookBox h box state a b i) =
    rw i (turned-agrees s (with_box s box None) n h (Box state) _ s.words stands agree a refl tt agree.home (by-ask s n h _ 0 s.words s.words a refl))
agrees-by s n x holds stands leaves agree (GaveBox h box a i) =
    rw i (turned-agrees s (with_box s box (Some (handed_box h))) n h Done _ s.words stands agree a refl tt agree.home (by-ask s n h _ 0 s.words s.words a refl))
agrees-by s n x holds stands leaves agree (ChangedBox h box state a b i) =
    rw i (turned-agrees s (with_box s box _) n h Done _ s.words stands agree a refl tt agree.home (by-ask s n h _ 0 s.words s.words a refl))
agrees-by s n x holds stands leaves agree (Loaded h from a i) =
    rw i (turned-agrees s s n h (Word (word_at s.words from.frame from.index)) _ s.words stands agree a refl tt agree.home (by-ask s n h _ (word_at s.words from.frame from.index) s.words s.words a (refl, refl)))
agrees-by s n x holds stands leaves agree (Stored h to value a i) = rw i (stored-by s n h to value holds stands leaves agree a)
agrees-by s n x holds stands leaves agree (TookGate h frame only gate a b c d i) =
    rw i (turned-agrees s (with_gate s frame gate.version true) n h (ToldGate gate.version) _ s.words stands agree a refl tt agree.home (by-ask s n h _ 0 s.words s.words a refl))
agrees-by s n x holds stands leaves agree (FoundOldVersion h frame only gate a b c d i) =
    rw i (turned-agrees s s n h OldVersion _ s.words stands agree a refl tt agree.home (by-ask s n h _ 0 s.words s.words a refl))
agrees-by s n x holds stands leaves agree (OpenedGate h frame version a i) =
    rw i (turned-agrees s (with_gate s frame version false) n h Done _ s.words stands agree a refl tt agree.home (by-ask s n h _ 0 s.words s.words a refl))
agrees-by s n x holds stands leaves agree (TookKernel h k a b i) =
    rw i (turned-agrees s (record s { kernel = None }) n h (Kernel k) _ s.words stands agree a refl (stands.home k b, agree.home k b) (nobody-home s.words) (by-ask s n h _ 0 s.words s.words a refl))
agrees-by s n x holds stands leaves agree (GaveKernel h a i) =
    rw i (turned-agrees s (record s { kernel = handed_kernel h }) n h Done _ s.words stands agree a refl tt (handed-home s n h s.words stands agree a) (by-ask s n h _ 0 s.words s.words a refl))

pub steps_keep_words : StepsKeepWords
steps_keep_words s n holds stands leaves agree = agrees-by s n (step s n) holds stands leaves agree (steps_by_row s n)
