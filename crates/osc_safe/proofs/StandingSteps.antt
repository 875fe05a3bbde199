-- Each step keeps how far each call is, and that the kernel fits.
use Rattle.std.proofs.Common.{ℕ, ◌≡◌, ◌==◌, Bool, true, false, Option, Some, None, List, [], ◌∷◌, ◌++◌, set, slice_get, slice_set, option_map, arith, refl, sym, ap, subst, ◌∙◌, append_assoc}
use Rattle.std.proofs.lemmas.Bool.Decides.{nat_tests}
use Rattle.osc_paging.proofs.WordLists.{slice_get-set}
use Rattle.osc_calls.specs.Kernel.{KernelState}
use Rattle.osc_calls.specs.Begin.{begin}
use Rattle.osc_calls.specs.Plan.{plan}
use Rattle.osc_calls.specs.JobDone.{job_done}
use Rattle.osc_calls.specs.Moves.{Move, moves_of}
use Rattle.osc_calls.specs.Moves as move
use Rattle.osc_calls.specs.Finish.{finish}
use Rattle.osc_machine.specs.declared.HartAsk.{HartAsk}
use Rattle.osc_machine.specs.declared.HartAsk.TheVariants as does
use Rattle.osc_machine.specs.Parts.{CallPlace, TakingBoxes, FirstWord, SecondWord, Working, GivingBoxes, Returning, HartState, State}
use Rattle.osc_machine.specs.Turns.{HartTold, Box, Kernel, Word, Gate as ToldGate, OldVersion, Done, Turn, MovesLeft, StillAt, AllDone, moves_left, rest_of, place_begun, hart_told, handed_kernel, found_words}
use Rattle.osc_machine.specs.Step.{Stepped, step}
use Rattle.osc_machine.specs.Did.{Turned, Unmoved, InGuest, TakesKernel, TakesBox, TakesLastBox, FindsFirst, FindsSecond, Works, EndsJob, GivesBox, GivesKernel, Asks, Did, Stayed, TookBox, GaveBox, ChangedBox, Loaded, Stored, TookGate, FoundOldVersion, OpenedGate, TookKernel, GaveKernel}
use Rattle.osc_machine.proofs.RowLaws.{turns_by_row, steps_by_row}
use Rattle.osc_machine.proofs.KernelLaws.{returns_of}
use Rattle.osc_safe.specs.Holding.{Holds}
use Rattle.osc_safe.specs.Standing.{WorksOn, StandsAt, AtHome, InHand, HandStands, Stands, StepsStand}
use Rattle.osc_safe.proofs.CallSteps.{begun-stands, planned-stands, done-stands, on-stands, finished-home}

-- ---- a hart that turns
-- the kernel in its hand
hand-is : (n : ℕ) (turn made : Turn) (k : KernelState) → turn ≡ made → made.hart.kernel ≡ Some k → InHand n made.hart.place k → HandStands n turn.hart
hand-is n turn made k i e hand = subst (λ (x : Turn). HandStands n x.hart) (sym i) (λ other f. (let same : k ≡ other = grind (arith, e, f) in subst (λ z. InHand n made.hart.place z) same hand))

hand-at : (n : ℕ) (h : HartState) (k : KernelState) (p : CallPlace) → HandStands n h → h.kernel ≡ Some k → h.place ≡ p → InHand n p k
hand-at n h k p stands e f = subst (λ q. InHand n q k) f (stands k e)

-- a kernel that it is told of was at home
abbrev FromHome : HartTold → Type 0
FromHome (Kernel k) = AtHome k
FromHome t = Unit {0}

-- ---- the moves of a job
abbrev Follows : List Move → MovesLeft → Type 0
Follows moves (StillAt left now) = (before : List Move) × (moves ≡ before ++ left)
Follows moves AllDone = Unit {0}

rest-follows : (m : Move) (moves : List Move) → Follows (m ∷ moves) (rest_of moves)
rest-follows m [] = tt
rest-follows m (x ∷ moves) = (m ∷ [], refl)

moves-follow : (moves : List Move) (read : Option ℕ) (word : ℕ) → Follows moves (moves_left moves read word)
moves-follow [] read word = tt
moves-follow (move.Put to value ∷ moves) read word = rest-follows (move.Put to value) moves
moves-follow (move.Copy from to ∷ moves) None word = ([], refl)
moves-follow (move.Copy from to ∷ moves) (Some read) word = rest-follows (move.Copy from to) moves
moves-follow (move.CopyLow from to bytes ∷ moves) None word = ([], refl)
moves-follow (move.CopyLow from to bytes ∷ moves) (Some read) word = rest-follows (move.CopyLow from to bytes) moves
moves-follow (move.ChangeBox box ∷ moves) read word = rest-follows (move.ChangeBox box) moves
moves-follow (move.Out from ∷ moves) read word = rest-follows (move.Out from) moves

works-on : (k : KernelState) (moves left : List Move) (read now : Option ℕ) (word : ℕ) → WorksOn k moves → moves_left moves read word ≡ StillAt left now → WorksOn k left
works-on k moves left read now word w e =
    let f : Follows moves (StillAt left now) = subst (Follows moves) e (moves-follow moves read word) in record {
      job = w.job;
      next = w.next;
      before = w.before ++ f.0;
      rest = w.rest ∙ ap (λ ms. w.before ++ ms) f.1 ∙ sym (append_assoc w.before f.0 left);
    }

-- ---- each row
hand-by : (n : ℕ) (h : HartState) (t : HartTold) (turn : Turn) → h.number ≡ n → HandStands n h → FromHome t → Turned h t turn → HandStands n turn.hart
hand-by n h t turn own stands home (Unmoved i) = rw i stands
hand-by n h t turn own stands home (InGuest said pl he i) = rw i stands
hand-by n h t turn own stands home (TakesKernel k asked pl tk wa i) =
    let b = begin h.number h.user.regs h.user.pc asked k in
    hand-is n turn _ b.kernel i refl
    (subst (λ m. InHand m (place_begun b.begun b.kernel h.boxes) b.kernel) own (begun-stands h.number h.user.regs h.user.pc asked k h.boxes (subst FromHome tk home)))
hand-by n h t turn own stands home (TakesBox box state k pl ke tk last i) =
    let a = hand-at n h k (TakingBoxes box) stands ke pl in
    hand-is n turn _ k i refl (record { fits = a.fits; caller = a.caller; stands = a.stands })
hand-by n h t turn own stands home (TakesLastBox box state k pl ke tk last i) =
    let a = hand-at n h k (TakingBoxes box) stands ke pl in
    hand-is n turn _ (plan (found_words 0 0) k).kernel i refl (planned-stands n (found_words 0 0) k _ a.fits a.caller a.stands)
hand-by n h t turn own stands home (FindsFirst first second word k pl ke tk i) =
    let a = hand-at n h k (FirstWord first second) stands ke pl in
    hand-is n turn _ k i ke (record { fits = a.fits; caller = a.caller; stands = a.stands })
hand-by n h t turn own stands home (FindsSecond found word second k pl ke tk i) =
    let a = hand-at n h k (SecondWord found second) stands ke pl in
    hand-is n turn _ (plan (found_words found word) k).kernel i refl (planned-stands n (found_words found word) k h.boxes a.fits a.caller a.stands)
hand-by n h t turn own stands home (Works moves left read now word k pl ke wo pr i) =
    let a = hand-at n h k (Working moves read) stands ke pl in
    hand-is n turn _ k i refl (record { fits = a.fits; caller = a.caller; stands = (a.stands.0, works-on k moves left read now word a.stands.1 pr) })
hand-by n h t turn own stands home (EndsJob moves read word k pl ke wo pr i) =
    let a = hand-at n h k (Working moves read) stands ke pl in
    let w = a.stands.1 in
    hand-is n turn _ (job_done word k).kernel i refl (done-stands n word k w.job h.boxes a.fits a.caller a.stands.0 w.next)
hand-by n h t turn own stands home (GivesBox box k pl ke tk i) =
    let a = hand-at n h k (GivingBoxes box) stands ke pl in
    hand-is n turn _ k i refl (record { fits = a.fits; caller = a.caller; stands = on-stands k (slice_set h.boxes box None) a.stands.0 })
hand-by n h t turn own stands home (GivesKernel return pl tk i) = rw i (λ k e. absurd (let b : ⊥ = grind (arith, e) in b))

-- ---- the whole state
-- what is true of the hart that is written and of all others is true of all
pub each-written : (P : ℕ → HartState → Type 0) (harts : List HartState) (n : ℕ) (x : HartState) → ((m : ℕ) (h : HartState) → slice_get harts m ≡ Some h → P m h) → P n x
    → (m : ℕ) (y : HartState) → slice_get (set harts n x) m ≡ Some y → P m y
each-written P harts n x all mine m y e = go (m == n) refl
  where
    go : (b : Bool) → (m == n) ≡ b → P m y
    go true d = there (slice_get harts m) refl
      where
        there : (o : Option HartState) → slice_get harts m ≡ o → P m y
        there None q = absurd (let b : ⊥ = grind (arith, nat_tests, e, d, q, slice_get-set harts n m x) in b)
        there (Some h) q =
            let same : x ≡ y = grind (arith, nat_tests, e, d, q, slice_get-set harts n m x) in
            let at : n ≡ m = grind (arith, nat_tests, d) in
            subst (λ i. P i y) at (subst (λ z. P n z) same mine)
    go false d = all m y (grind (arith, nat_tests, e, d, slice_get-set harts n m x))

turned-stands : (s u : State) (n : ℕ) (h : HartState) (t : HartTold) (a : HartAsk) → Holds s → Stands s → Asks s n h a → u.harts ≡ s.harts → FromHome t
    → ((k : KernelState) → u.kernel ≡ Some k → AtHome k) → Stands (record u { harts = slice_set u.harts n (hart_told h t).hart })
turned-stands s u n h t a holds stands asks hs from home = record {
  home = home;
  hand = subst (λ xs. (m : ℕ) (y : HartState) → slice_get (set xs n (hart_told h t).hart) m ≡ Some y → HandStands m y) (sym hs)
      (each-written HandStands s.harts n (hart_told h t).hart stands.hand
      (let own = holds.hart n h asks.here in hand-by n h t (hart_told h t) own.number (stands.hand n h asks.here) from (turns_by_row h t)));
}

-- the kernel that is given
handed-by : (o : Option KernelState) (n : ℕ) (place : CallPlace) → ((k : KernelState) → o ≡ Some k → InHand n place k) → ((k : KernelState) → StandsAt place k → k.jobs ≡ [])
    → (k : KernelState) → option_map (λ (z : KernelState). (finish z).kernel) o ≡ Some k → AtHome k
handed-by None n place all none k e = absurd (let b : ⊥ = grind (arith, e) in b)
handed-by (Some z) n place all none k e =
    let i = all z refl in
    let same : (finish z).kernel ≡ k = grind (arith, e) in
    subst AtHome same (finished-home z i.fits (none z i.stands))

handed-home : (s : State) (n : ℕ) (h : HartState) → Stands s → Asks s n h does.GiveKernel → (k : KernelState) → handed_kernel h ≡ Some k → AtHome k
unfolding handed_kernel
handed-home s n h stands asks =
    let r = returns_of h asks.asks in
    handed-by h.kernel n (Returning r.0) (λ z e. hand-at n h z (Returning r.0) (stands.hand n h asks.here) e r.1) (λ z w. w.1)

nobody-home : (k : KernelState) → None ≡ Some k → AtHome k
nobody-home k e = absurd (let b : ⊥ = grind (arith, e) in b)

stands-by : (s : State) (n : ℕ) (x : Stepped) → Holds s → Stands s → Did s n x → Stands x.state
stands-by s n x holds stands (Stayed i) = rw i stands
stands-by s n x holds stands (TookBox h box state a b i) = rw i (turned-stands s _ n h (Box state) _ holds stands a refl tt stands.home)
stands-by s n x holds stands (GaveBox h box a i) = rw i (turned-stands s _ n h Done _ holds stands a refl tt stands.home)
stands-by s n x holds stands (ChangedBox h box state a b i) = rw i (turned-stands s _ n h Done _ holds stands a refl tt stands.home)
stands-by s n x holds stands (Loaded h from a i) = rw i (turned-stands s s n h (Word _) _ holds stands a refl tt stands.home)
stands-by s n x holds stands (Stored h to value a i) = rw i (turned-stands s _ n h Done _ holds stands a refl tt stands.home)
stands-by s n x holds stands (TookGate h frame only gate a b c d i) = rw i (turned-stands s _ n h (ToldGate gate.version) _ holds stands a refl tt stands.home)
stands-by s n x holds stands (FoundOldVersion h frame only gate a b c d i) = rw i (turned-stands s s n h OldVersion _ holds stands a refl tt stands.home)
stands-by s n x holds stands (OpenedGate h frame version a i) = rw i (turned-stands s _ n h Done _ holds stands a refl tt stands.home)
stands-by s n x holds stands (TookKernel h k a b i) = rw i (turned-stands s (record s { kernel = None }) n h (Kernel k) _ holds stands a refl (stands.home k b) nobody-home)
stands-by s n x holds stands (GaveKernel h a i) = rw i (turned-stands s (record s { kernel = handed_kernel h }) n h Done _ holds stands a refl tt (handed-home s n h stands a))

pub steps_stand : StepsStand
steps_stand s n holds stands = stands-by s n (step s n) holds stands (steps_by_row s n)
