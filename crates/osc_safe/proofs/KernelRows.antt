-- What each step does to the kernel.
use Rattle.std.proofs.Common.{ℕ, zero, suc, ◌≡◌, ◌⊎◌, inl, inr, ⊎_elim, true, Option, Some, None, is_some, List, [], ◌∷◌, ◌++◌, set, slice_get, option_map, arith, refl, sym, ap, subst, ◌∙◌}
use Rattle.std.specs.Option.{option_to_list}
use Rattle.osc_word.specs.declared.calls.Request.{Request}
use Rattle.osc_paging.proofs.WordLists.{slice_get-set}
use Rattle.std.proofs.lemmas.Bool.Decides.{nat_tests}
use Rattle.osc_guest.specs.declared.accesses.Touch.{Touch}
use Rattle.osc_guest.specs.declared.places.Ask.{Ask}
use Rattle.osc_guest.specs.declared.places.Ask.TheVariants as guest
use Rattle.osc_guest.specs.Asks.{ask}
use Rattle.osc_guest.specs.Told.{told}
use Rattle.osc_calls.specs.Kernel.{KernelState}
use Rattle.osc_calls.specs.Begin.{begin}
use Rattle.osc_calls.specs.Plan.{plan}
use Rattle.osc_calls.specs.JobDone.{job_done}
use Rattle.osc_calls.specs.Finish.{finish}
use Rattle.osc_calls.specs.Moves.{Move}
use Rattle.osc_calls.specs.Moves as move
use Rattle.osc_machine.specs.declared.HartAsk.{HartAsk}
use Rattle.osc_machine.specs.declared.HartAsk.TheVariants as does
use Rattle.osc_machine.specs.Parts.{CallPlace, Outside, TakingBoxes, FirstWord, SecondWord, Working, GivingBoxes, Returning, Return, HartState, State}
use Rattle.osc_machine.specs.Turns.{HartTold, Box, Kernel, Word, Gate as ToldGate, OldVersion, Done, Turn, guest_ask, move_ask, place_ask, hart_ask, hart_told, place_told, kernel_taken, kernel_gone, handed_kernel, found_words, touched}
use Rattle.osc_machine.specs.Step.{Stepped, step, tells}
use Rattle.osc_machine.specs.Did.{Turned, Unmoved, InGuest, TakesKernel, TakesBox, TakesLastBox, FindsFirst, FindsSecond, Works, EndsJob as JobEnds, GivesBox, GivesKernel, Asks, Did, Stayed, TookBox, GaveBox, ChangedBox, Loaded, Stored, TookGate, FoundOldVersion, OpenedGate, TookKernel, GaveKernel}
use Rattle.osc_machine.specs.Laws.{is_in_call, kernels_held, kernels, HasKernel, KernelMoves}
use Rattle.osc_machine.proofs.RowLaws.{turns_by_row, steps_by_row}
use Rattle.osc_machine.proofs.KernelLaws.{kernel_stays, returns_of}
use Rattle.osc_safe.specs.Standing.{FitsSome, InHand, Stands}
use Rattle.osc_safe.specs.KernelSteps.{AllTouch, KernelStep, Kept, Begins, Plans, EndsJob, Finishes, KernelsStep}

-- ---- there is one kernel
abbrev Ks : Type 0
Ks = List KernelState

tail-empty : (a b : Ks) → a ++ b ≡ [] → b ≡ []
tail-empty [] b e = e
tail-empty (x ∷ a) b e = absurd (let z : ⊥ = grind (arith, e) in z)

in-front : (o : Option KernelState) (rest : Ks) (k0 k : KernelState) → o ≡ Some k0 → option_to_list o ++ rest ≡ k ∷ [] → k0 ≡ k
in-front None rest k0 k f e = absurd (let z : ⊥ = grind (arith, f) in z)
in-front (Some k1) rest k0 k f e = grind (arith, e, f)

behind : (o : Option KernelState) (rest : Ks) (k : KernelState) → option_to_list o ++ rest ≡ k ∷ [] → (rest ≡ []) ⊎ (rest ≡ k ∷ [])
behind None rest k e = inr e
behind (Some k1) rest k e = inl (let q : rest ≡ [] = grind (arith, e) in q)

-- one that is in a list of one is that one
no-hands : (harts : List HartState) (n : ℕ) (h : HartState) (k0 : KernelState) → slice_get harts n ≡ Some h → h.kernel ≡ Some k0 → kernels_held harts ≡ [] → ⊥
no-hands [] n h k0 e f none = grind (arith, e)
no-hands (y ∷ harts) zero h k0 e f none =
    let same : y ≡ h = grind (arith, e) in
    let gone : option_to_list (Some k0) ++ kernels_held harts ≡ [] = sym (ap (λ z. option_to_list z ++ kernels_held harts) (ap (λ (z : HartState). z.kernel) same ∙ f)) ∙ none in
    let b : ⊥ = grind (arith, gone) in b
no-hands (y ∷ harts) (suc n) h k0 e f none = no-hands harts n h k0 e f (tail-empty (option_to_list y.kernel) (kernels_held harts) none)

in-hands : (harts : List HartState) (n : ℕ) (h : HartState) (k0 k : KernelState) → slice_get harts n ≡ Some h → h.kernel ≡ Some k0 → kernels_held harts ≡ k ∷ [] → k0 ≡ k
in-hands [] n h k0 k e f one = absurd (let b : ⊥ = grind (arith, e) in b)
in-hands (y ∷ harts) zero h k0 k e f one =
    let same : y ≡ h = grind (arith, e) in in-front y.kernel (kernels_held harts) k0 k (ap (λ (z : HartState). z.kernel) same ∙ f) one
in-hands (y ∷ harts) (suc n) h k0 k e f one =
    ⊎_elim (λ (none : kernels_held harts ≡ []). absurd (no-hands harts n h k0 e f none))
    (λ (rest : kernels_held harts ≡ k ∷ []). in-hands harts n h k0 k e f rest) (behind y.kernel (kernels_held harts) k one)

pub home-is : (s : State) (k0 k : KernelState) → HasKernel s k → s.kernel ≡ Some k0 → k0 ≡ k
home-is s k0 k has e = in-front s.kernel (kernels_held s.harts) k0 k e has.one

pub hand-is-one : (s : State) (n : ℕ) (h : HartState) (k0 k : KernelState) → HasKernel s k → slice_get s.harts n ≡ Some h → h.kernel ≡ Some k0 → k0 ≡ k
hand-is-one s n h k0 k has e f =
    ⊎_elim (λ (none : kernels_held s.harts ≡ []). absurd (no-hands s.harts n h k0 e f none))
    (λ (rest : kernels_held s.harts ≡ k ∷ []). in-hands s.harts n h k0 k e f rest) (behind s.kernel (kernels_held s.harts) k has.one)

-- a hand that keeps what it has
held-same : (harts : List HartState) (n : ℕ) (h x : HartState) → slice_get harts n ≡ Some h → x.kernel ≡ h.kernel → kernels_held (set harts n x) ≡ kernels_held harts
held-same [] n h x e f = absurd (let b : ⊥ = grind (arith, e) in b)
held-same (y ∷ harts) zero h x e f =
    let same : y ≡ h = grind (arith, e) in ap (λ z. option_to_list z ++ kernels_held harts) (f ∙ sym (ap (λ (z : HartState). z.kernel) same))
held-same (y ∷ harts) (suc n) h x e f = ap (λ ks. option_to_list y.kernel ++ ks) (held-same harts n h x e f)

-- ---- labels
guest-shows : (number : ℕ) (o : Option Touch) → AllTouch (option_to_list (option_map (touched number) o))
guest-shows number None = tt
guest-shows number (Some t) = (refl, tt)

-- ---- one hart turns
-- where it keeps the kernel, or what it has of it goes on
data Hand (h : HartState) (t : Turn) : Type 0 where
  KeepsHand : t.hart.kernel ≡ h.kernel → AllTouch t.shows → Hand h t
  MovesHand : (k0 k1 : KernelState) → h.kernel ≡ Some k0 → t.hart.kernel ≡ Some k1 → KernelStep k0 k1 t.shows → Hand h t

-- answers and actions that are not on the kernel
abbrev Plain : HartTold → Type 0
Plain (Kernel k) = ⊥
Plain t = Unit {0}

returning-asks : (h : HartState) (return : Return) → h.place ≡ Returning return → hart_ask h ≡ does.GiveKernel
unfolding hart_ask
returning-asks h return e = ap (λ p. place_ask p h) e

abbrev NotGiving : HartAsk → Type 0
NotGiving does.GiveKernel = ⊥
NotGiving a = Unit {0}

hand-of : (n : ℕ) (h : HartState) (t : HartTold) (turn : Turn) → ((k : KernelState) → h.kernel ≡ Some k → InHand n h.place k) → NotGiving (hart_ask h) → Plain t → Turned h t turn → Hand h turn
hand-of n h t turn stands asks plain (Unmoved i) = KeepsHand (ap (λ (z : Turn). z.hart.kernel) i) (rw i tt)
hand-of n h t turn stands asks plain (InGuest said pl he i) = KeepsHand (ap (λ (z : Turn). z.hart.kernel) i) (rw i (guest-shows h.number (told h.user said).touch))
hand-of n h t turn stands asks plain (TakesKernel k asked pl tk wa i) = absurd (subst Plain tk plain)
hand-of n h t turn stands asks plain (TakesBox box state k pl ke tk last i) = KeepsHand (ap (λ (z : Turn). z.hart.kernel) i ∙ sym ke) (rw i tt)
hand-of n h t turn stands asks plain (TakesLastBox box state k pl ke tk last i) =
    let a : InHand n (TakingBoxes box) k = subst (λ p. InHand n p k) pl (stands k ke) in
    MovesHand k (plan (found_words 0 0) k).kernel ke (ap (λ (z : Turn). z.hart.kernel) i) (Plans (found_words 0 0) a.stands.0 a.stands.1 refl (ap (λ (z : Turn). z.shows) i))
hand-of n h t turn stands asks plain (FindsFirst first second word k pl ke tk i) = KeepsHand (ap (λ (z : Turn). z.hart.kernel) i) (rw i tt)
hand-of n h t turn stands asks plain (FindsSecond found word second k pl ke tk i) =
    let a : InHand n (SecondWord found second) k = subst (λ p. InHand n p k) pl (stands k ke) in
    MovesHand k (plan (found_words found word) k).kernel ke (ap (λ (z : Turn). z.hart.kernel) i) (Plans (found_words found word) a.stands.0 a.stands.1 refl (ap (λ (z : Turn). z.shows) i))
hand-of n h t turn stands asks plain (Works moves left read now word k pl ke wo pr i) = KeepsHand (ap (λ (z : Turn). z.hart.kernel) i ∙ sym ke) (rw i tt)
hand-of n h t turn stands asks plain (JobEnds moves read word k pl ke wo pr i) =
    let a : InHand n (Working moves read) k = subst (λ p. InHand n p k) pl (stands k ke) in
    let w = a.stands.1 in
    MovesHand k (job_done word k).kernel ke (ap (λ (z : Turn). z.hart.kernel) i) (EndsJob word w.job w.next refl (ap (λ (z : Turn). z.shows) i))
hand-of n h t turn stands asks plain (GivesBox box k pl ke tk i) = KeepsHand (ap (λ (z : Turn). z.hart.kernel) i ∙ sym ke) (rw i tt)
hand-of n h t turn stands asks plain (GivesKernel return pl tk i) = absurd (subst NotGiving (returning-asks h return pl) asks)

written-here : (harts : List HartState) (n : ℕ) (h x : HartState) → slice_get harts n ≡ Some h → slice_get (set harts n x) n ≡ Some x
written-here harts n h x e = grind (arith, nat_tests, e, slice_get-set harts n n x)

goes-by : (s u : State) (n : ℕ) (h : HartState) (t : Turn) (k : KernelState) → Stands s → HasKernel s k → slice_get s.harts n ≡ Some h → u.kernel ≡ s.kernel → u.harts ≡ set s.harts n t.hart
    → KernelMoves u k → Hand h t → FitsSome k → (next : KernelState) × HasKernel u next × KernelStep k next t.shows
goes-by s u n h t k stands has here ks hs m (KeepsHand e q) fits =
    let same : kernels u ≡ kernels s = ap (λ z. option_to_list z ++ kernels_held u.harts) ks ∙ ap (λ z. option_to_list s.kernel ++ z) (ap kernels_held hs ∙ held-same s.harts n h t.hart here e) in
    (k, record { one = same ∙ has.one; in_hand = m.has.in_hand }, Kept refl q)
goes-by s u n h t k stands has here ks hs m (MovesHand k0 k1 e f step) fits =
    let old = hand-is-one s n h k0 k has here e in
    let new = hand-is-one u n t.hart k1 m.next m.has (ap (λ xs. slice_get xs n) hs ∙ written-here s.harts n h t.hart here) f in
    (m.next, m.has, subst (λ z. KernelStep z m.next t.shows) old (subst (λ z. KernelStep k0 z t.shows) new step))

-- ---- the kernel fits, wherever it is
record Held (harts : List HartState) (k : KernelState) : Type 0 where
  n : ℕ
  hart : HartState
  here : slice_get harts n ≡ Some hart
  has : hart.kernel ≡ Some k

held-further : (y : HartState) (harts : List HartState) (k : KernelState) → Held harts k → Held (y ∷ harts) k
held-further y harts k h = record { n = suc h.n; hart = h.hart; here = h.here; has = h.has }

held-first : (o : Option KernelState) (y : HartState) (harts : List HartState) (k : KernelState) → y.kernel ≡ o → option_to_list o ++ kernels_held harts ≡ k ∷ []
    → (kernels_held harts ≡ k ∷ [] → Held harts k) → Held (y ∷ harts) k
held-first None y harts k e one later = held-further y harts k (later one)
held-first (Some k0) y harts k e one later =
    let same = in-front (Some k0) (kernels_held harts) k0 k refl one in record { n = 0; hart = y; here = refl; has = e ∙ ap Some same }

held-by : (harts : List HartState) (k : KernelState) → kernels_held harts ≡ k ∷ [] → Held harts k
held-by [] k e = absurd (let b : ⊥ = grind (arith, e) in b)
held-by (y ∷ harts) k e = held-first y.kernel y harts k refl e (held-by harts k)

fits-by : (s : State) (k : KernelState) (o : Option KernelState) → Stands s → s.kernel ≡ o → option_to_list o ++ kernels_held s.harts ≡ k ∷ [] → FitsSome k
fits-by s k None stands e one = let h = held-by s.harts k one in let i = stands.hand h.n h.hart h.here k h.has in i.fits
fits-by s k (Some k0) stands e one =
    let same = in-front (Some k0) (kernels_held s.harts) k0 k refl one in let a = stands.home k (e ∙ ap Some same) in a.fits

pub fits-of : (s : State) (k : KernelState) → Stands s → HasKernel s k → FitsSome k
fits-of s k stands has = fits-by s k s.kernel stands refl has.one

-- ---- the kernel is taken
-- who asks for the kernel is outside a call, and his guest part asks for it
record Wants (h : HartState) : Type 0 where
  outside : h.place ≡ Outside
  asked : Request
  wants : ask h.user ≡ guest.Kernel asked

guest-wants : (n : ℕ) (a : Ask) → guest_ask n a ≡ does.TakeKernel → (asked : Request) × (a ≡ guest.Kernel asked)
guest-wants n (guest.Kernel asked) e = (asked, refl)
guest-wants n guest.TakeBox e = absurd (let b : ⊥ = grind (arith, e) in b)
guest-wants n (guest.Load place) e = absurd (let b : ⊥ = grind (arith, e) in b)
guest-wants n (guest.TakeGate frame only) e = absurd (let b : ⊥ = grind (arith, e) in b)
guest-wants n (guest.Store place value) e = absurd (let b : ⊥ = grind (arith, e) in b)
guest-wants n (guest.OpenGate frame version) e = absurd (let b : ⊥ = grind (arith, e) in b)
guest-wants n guest.GiveBox e = absurd (let b : ⊥ = grind (arith, e) in b)
guest-wants n guest.Rest e = absurd (let b : ⊥ = grind (arith, e) in b)

abbrev NotTaking : HartAsk → Type 0
NotTaking does.TakeKernel = ⊥
NotTaking a = Unit {0}

move-takes : (moves : List Move) (read : Option ℕ) → NotTaking (move_ask moves read)
move-takes [] read = tt
move-takes (move.Put at value ∷ moves) read = tt
move-takes (move.Copy from to ∷ moves) None = tt
move-takes (move.Copy from to ∷ moves) (Some word) = tt
move-takes (move.CopyLow from to bytes ∷ moves) None = tt
move-takes (move.CopyLow from to bytes ∷ moves) (Some word) = tt
move-takes (move.ChangeBox box ∷ moves) read = tt
move-takes (move.Out at ∷ moves) read = tt

wants-at : (p : CallPlace) (h : HartState) → h.place ≡ p → place_ask p h ≡ does.TakeKernel → Wants h
wants-at Outside h e a = let g = guest-wants h.number (ask h.user) a in record { outside = e; asked = g.0; wants = g.1 }
wants-at (TakingBoxes box) h e a = absurd (let b : ⊥ = grind (arith, a) in b)
wants-at (FirstWord first second) h e a = absurd (let b : ⊥ = grind (arith, a) in b)
wants-at (SecondWord found second) h e a = absurd (let b : ⊥ = grind (arith, a) in b)
wants-at (Working moves read) h e a = absurd (subst NotTaking a (move-takes moves read))
wants-at (GivingBoxes box) h e a = absurd (let b : ⊥ = grind (arith, a) in b)
wants-at (Returning return) h e a = absurd (let b : ⊥ = grind (arith, a) in b)

wants-of : (h : HartState) → hart_ask h ≡ does.TakeKernel → Wants h
unfolding hart_ask
wants-of h a = wants-at h.place h refl a

took-it : (h : HartState) (k0 : KernelState) (w : Wants h) → hart_told h (Kernel k0) ≡ kernel_taken (guest.Kernel w.asked) k0 h
unfolding hart_told
took-it h k0 w = ap (λ p. place_told p h.kernel h (Kernel k0)) w.outside ∙ ap (λ q. kernel_taken q k0 h) w.wants

takes : (s u : State) (n : ℕ) (h : HartState) (k0 k : KernelState) → Stands s → HasKernel s k → Asks s n h does.TakeKernel → s.kernel ≡ Some k0
    → u.harts ≡ set s.harts n (hart_told h (Kernel k0)).hart → KernelMoves u k
    → (next : KernelState) × HasKernel u next × KernelStep k next (hart_told h (Kernel k0)).shows
takes s u n h k0 k stands has asks e hs m =
    let w = wants-of h asks.asks in
    let t = took-it h k0 w in
    let b = begin h.number h.user.regs h.user.pc w.asked k0 in
    let old = home-is s k0 k has e in
    let new = hand-is-one u n (hart_told h (Kernel k0)).hart b.kernel m.next m.has (ap (λ xs. slice_get xs n) hs ∙ written-here s.harts n h _ asks.here) (ap (λ (z : Turn). z.hart.kernel) t) in
    let quiet = stands.home k0 e in (
      m.next,
      m.has,
      subst (λ z. KernelStep z m.next (hart_told h (Kernel k0)).shows) old
          (Begins h.number h.user.regs h.user.pc w.asked quiet.quiet (sym new) (ap (λ (z : Turn). z.shows) t)),
    )

-- ---- the kernel is given
gave-it : (h : HartState) (return : Return) → h.place ≡ Returning return → hart_told h Done ≡ kernel_gone return h
unfolding hart_told
gave-it h return e = ap (λ p. place_told p h.kernel h Done) e

handed-is : (h : HartState) (k0 : KernelState) → h.kernel ≡ Some k0 → handed_kernel h ≡ Some (finish k0).kernel
unfolding handed_kernel
handed-is h k0 e = ap (λ z. option_map (λ (y : KernelState). (finish y).kernel) z) e

has-some : (o : Option KernelState) → is_some o ≡ true → (k : KernelState) × (o ≡ Some k)
has-some None e = absurd (let b : ⊥ = grind (arith, e) in b)
has-some (Some k) e = (k, refl)

gives : (s u : State) (n : ℕ) (h : HartState) (k : KernelState) → Stands s → HasKernel s k → Asks s n h does.GiveKernel → u.kernel ≡ handed_kernel h → KernelMoves u k
    → (next : KernelState) × HasKernel u next × KernelStep k next (hart_told h Done).shows
gives s u n h k stands has asks e m =
    let r = returns_of h asks.asks in
    let own = has-some h.kernel (has.in_hand n h asks.here ∙ ap is_in_call r.1) in
    let k0 = own.0 in
    let i : InHand n (Returning r.0) k0 = subst (λ p. InHand n p k0) r.1 (stands.hand n h asks.here k0 own.1) in
    let old = hand-is-one s n h k0 k has asks.here own.1 in
    let new = home-is u (finish k0).kernel m.next m.has (e ∙ handed-is h k0 own.1) in
    let shows : (hart_told h Done).shows ≡ (finish k0).shows = ap (λ (z : Turn). z.shows) (gave-it h r.0 r.1) ∙ ap (λ (z : Return). z.shows) i.stands.2 in
    (m.next, m.has, subst (λ z. KernelStep z m.next (hart_told h Done).shows) old (Finishes i.stands.1 (sym new) shows))

-- ---- each row
abbrev Goes : State → Stepped → KernelState → Type 0
Goes s x k = (next : KernelState) × HasKernel x.state next × KernelStep k next x.shows

plain : (s u : State) (n : ℕ) (h : HartState) (a : HartAsk) (t : HartTold) (k : KernelState) → Stands s → HasKernel s k → Asks s n h a → NotGiving a → Plain t → u.kernel ≡ s.kernel → u.harts ≡ s.harts
    → KernelMoves (tells u n h t).state k → Goes s (tells u n h t) k
plain s u n h a t k stands has asks p q ks hs m =
    goes-by s (tells u n h t).state n h (hart_told h t) k stands has asks.here ks (ap (λ xs. set xs n (hart_told h t).hart) hs) m
    (hand-of n h t (hart_told h t) (stands.hand n h asks.here) (subst NotGiving (sym asks.asks) p) q (turns_by_row h t)) (fits-of s k stands has)

goes-row : (s : State) (n : ℕ) (k : KernelState) (x : Stepped) → Stands s → HasKernel s k → Did s n x → KernelMoves x.state k → Goes s x k
goes-row s n k x stands has (Stayed i) = rw i (λ m. (k, has, Kept refl tt))
goes-row s n k x stands has (TookBox h box state a b i) = rw i (plain s _ n h _ (Box state) k stands has a tt tt refl refl)
goes-row s n k x stands has (GaveBox h box a i) = rw i (plain s _ n h _ Done k stands has a tt tt refl refl)
goes-row s n k x stands has (ChangedBox h box state a b i) = rw i (plain s _ n h _ Done k stands has a tt tt refl refl)
goes-row s n k x stands has (Loaded h from a i) = rw i (plain s s n h _ (Word _) k stands has a tt tt refl refl)
goes-row s n k x stands has (Stored h to value a i) = rw i (plain s _ n h _ Done k stands has a tt tt refl refl)
goes-row s n k x stands has (TookGate h frame only gate a b c d i) = rw i (plain s _ n h _ (ToldGate gate.version) k stands has a tt tt refl refl)
goes-row s n k x stands has (FoundOldVersion h frame only gate a b c d i) = rw i (plain s s n h _ OldVersion k stands has a tt tt refl refl)
goes-row s n k x stands has (OpenedGate h frame version a i) = rw i (plain s _ n h _ Done k stands has a tt tt refl refl)
goes-row s n k x stands has (TookKernel h k0 a b i) = rw i (takes s _ n h k0 k stands has a b refl)
goes-row s n k x stands has (GaveKernel h a i) = rw i (gives s _ n h k stands has a refl)

pub kernels_step : KernelsStep
kernels_step s n k holds stands has =
    let g = goes-row s n k (step s n) stands has (steps_by_row s n) (kernel_stays s n k has) in
    record { fits = fits-of s k stands has; next = g.0; has = g.1; goes = g.2 }
