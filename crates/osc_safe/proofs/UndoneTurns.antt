-- A step that shows an access that was not done, and the steps before and after it.
use Rattle.std.proofs.Common.{ℕ, ◌≡◌, ◌==◌, ◌⊎◌, inl, inr, Bool, true, false, Option, Some, None, is_some, [], set, slice_get, slice_set, arith, refl, sym, ap, subst, ◌∙◌}
use Rattle.std.proofs.lemmas.Bool.Decides.{nat_tests}
use Rattle.osc_paging.proofs.WordLists.{slice_get-set}
use Rattle.osc_guest.specs.declared.accesses.Touch.{Touch}
use Rattle.osc_guest.specs.declared.places.Place.{Place}
use Rattle.osc_guest.specs.declared.places.Place.TheVariants as at
use Rattle.osc_guest.specs.declared.places.Ask.TheVariants as guest
use Rattle.osc_guest.specs.User.{UserHart}
use Rattle.osc_guest.specs.Asks.{ask}
use Rattle.osc_guest.specs.Told.{Told, told}
use Rattle.osc_guest.specs.Hands.{holds_box}
use Rattle.osc_guest.proofs.WhoAsks.{callers}
use Rattle.osc_calls.specs.Kernel.{KernelState}
use Rattle.osc_calls.specs.Finish.{finish}
use Rattle.osc_machine.specs.Parts.{CallPlace, Outside, TakingBoxes, SecondWord, Returning, Return, HartState, State}
use Rattle.osc_machine.specs.Turns.{HartTold, Box, Kernel, Word, Gate as ToldGate, OldVersion, Done, Turn, hart_told}
use Rattle.osc_machine.specs.Step.{Stepped, stays, step}
use Rattle.osc_machine.specs.Did.{Turned, Unmoved, InGuest, TakesKernel, TakesBox, TakesLastBox, FindsFirst, FindsSecond, Works, EndsJob, GivesBox, GivesKernel, Did, Stayed, TookBox, GaveBox, ChangedBox, Loaded, Stored, TookGate, FoundOldVersion, OpenedGate, TookKernel, GaveKernel}
use Rattle.osc_machine.specs.Laws.{is_in_call, HandAgrees}
use Rattle.osc_machine.proofs.RowLaws.{turns_by_row, steps_by_row}
use Rattle.osc_machine.proofs.StepLaws.{others_stay}
use Rattle.osc_safe.specs.Holding.{is_asking, HartHolds, Holds}
use Rattle.osc_safe.specs.Standing.{IsFor, InHand, HandStands}
use Rattle.osc_safe.proofs.UndoneRows.{Shows, planned-caller, begun-caller, job-none, finished-none, guest-undone}

-- ---- a step stays, or one hart turns
pub data Turning (s : State) (n : ℕ) (x : Stepped) : Type 0 where
  Still : x ≡ stays s → Turning s n x
  Turns : (h : HartState) (t : HartTold) → slice_get s.harts n ≡ Some h → x.state.harts ≡ slice_set s.harts n (hart_told h t).hart → x.shows ≡ (hart_told h t).shows → Turning s n x

turns-to : (s : State) (n : ℕ) (h : HartState) (t : HartTold) (x y : Stepped) → slice_get s.harts n ≡ Some h → x ≡ y
    → y.state.harts ≡ slice_set s.harts n (hart_told h t).hart → y.shows ≡ (hart_told h t).shows → Turning s n x
turns-to s n h t x y here i f g = Turns h t here (ap (λ (z : Stepped). z.state.harts) i ∙ f) (ap (λ (z : Stepped). z.shows) i ∙ g)

turning-row : (s : State) (n : ℕ) (x : Stepped) → Did s n x → Turning s n x
turning-row s n x (Stayed i) = Still i
turning-row s n x (TookBox h box state a b i) = turns-to s n h (Box state) x _ a.here i refl refl
turning-row s n x (GaveBox h box a i) = turns-to s n h Done x _ a.here i refl refl
turning-row s n x (ChangedBox h box state a b i) = turns-to s n h Done x _ a.here i refl refl
turning-row s n x (Loaded h from a i) = turns-to s n h (Word _) x _ a.here i refl refl
turning-row s n x (Stored h to value a i) = turns-to s n h Done x _ a.here i refl refl
turning-row s n x (TookGate h frame only gate a b c d i) = turns-to s n h (ToldGate gate.version) x _ a.here i refl refl
turning-row s n x (FoundOldVersion h frame only gate a b c d i) = turns-to s n h OldVersion x _ a.here i refl refl
turning-row s n x (OpenedGate h frame version a i) = turns-to s n h Done x _ a.here i refl refl
turning-row s n x (TookKernel h k a b i) = turns-to s n h (Kernel k) x _ a.here i refl refl
turning-row s n x (GaveKernel h a i) = turns-to s n h Done x _ a.here i refl refl

pub turning : (s : State) (n : ℕ) → Turning s n (step s n)
turning s n = turning-row s n (step s n) (steps_by_row s n)

-- ---- who shows it
-- an instruction, whose guest part was told this, or a call, in which the hart has not its box
pub data Undone (n : ℕ) (h : HartState) (turn : Turn) : Type 0 where
  ByGuest : (said : Told) (touch : Touch) → h.place ≡ Outside → turn.hart.user ≡ (told h.user said).hart → (told h.user said).touch ≡ Some touch → touch.done ≡ false → h.number ≡ n → Undone n h turn
  ByCall : is_asking h.user.place ≡ true → h.number ≡ n → Undone n h turn

asks-call : (h : HartState) (asked : _) → ask h.user ≡ guest.Kernel asked → is_asking h.user.place ≡ true
asks-call h asked e = ap is_asking (callers h.user asked e)

has-one : (o : Option KernelState) → is_some o ≡ true → (k : KernelState) × (o ≡ Some k)
has-one None e = absurd (let b : ⊥ = grind (arith, e) in b)
has-one (Some k) e = (k, refl)

none-shown : (n : ℕ) (h : HartState) (turn : Turn) → Shows n [] → Undone n h turn
none-shown n h turn s = absurd (let b : ⊥ = grind (arith, s) in b)

pub undone-row : (c m n : ℕ) (h : HartState) (t : HartTold) (turn : Turn) → HartHolds c m h → HandAgrees h → HandStands m h → Turned h t turn → Shows n turn.shows → Undone n h turn
undone-row c m n h t turn holds agrees stands (Unmoved i) s = none-shown n h turn (subst (λ (z : Turn). Shows n z.shows) i s)
undone-row c m n h t turn holds agrees stands (InGuest said pl he i) s =
    let g = guest-undone n h.number (told h.user said).touch (subst (λ (z : Turn). Shows n z.shows) i s) in
    ByGuest said g.0 pl (ap (λ (z : Turn). z.hart.user) i) g.1 g.2 g.3
undone-row c m n h t turn holds agrees stands (TakesKernel k asked pl tk wa i) s =
    ByCall (asks-call h asked wa) (begun-caller n h.number h.user.regs h.user.pc asked k (subst (λ (z : Turn). Shows n z.shows) i s))
undone-row c m n h t turn holds agrees stands (TakesBox box state k pl ke tk last i) s = none-shown n h turn (subst (λ (z : Turn). Shows n z.shows) i s)
undone-row c m n h t turn holds agrees stands (TakesLastBox box state k pl ke tk last i) s =
    let a : InHand m (TakingBoxes box) k = subst (λ p. InHand m p k) pl (stands k ke) in
    let own : a.stands.0.hart ≡ m = subst (IsFor m) a.stands.1 a.caller in
    ByCall (holds.asking (ap is_in_call pl)) (holds.number ∙ sym own ∙ planned-caller n _ a.stands.0 k a.stands.1 (subst (λ (z : Turn). Shows n z.shows) i s))
undone-row c m n h t turn holds agrees stands (FindsFirst first second word k pl ke tk i) s = none-shown n h turn (subst (λ (z : Turn). Shows n z.shows) i s)
undone-row c m n h t turn holds agrees stands (FindsSecond found word second k pl ke tk i) s =
    let a : InHand m (SecondWord found second) k = subst (λ p. InHand m p k) pl (stands k ke) in
    let own : a.stands.0.hart ≡ m = subst (IsFor m) a.stands.1 a.caller in
    ByCall (holds.asking (ap is_in_call pl)) (holds.number ∙ sym own ∙ planned-caller n _ a.stands.0 k a.stands.1 (subst (λ (z : Turn). Shows n z.shows) i s))
undone-row c m n h t turn holds agrees stands (Works moves left read now word k pl ke wo pr i) s = none-shown n h turn (subst (λ (z : Turn). Shows n z.shows) i s)
undone-row c m n h t turn holds agrees stands (EndsJob moves read word k pl ke wo pr i) s =
    absurd (let shown = subst (λ (z : Turn). Shows n z.shows) i s in let none = job-none n word k in let b : ⊥ = grind (arith, shown, none) in b)
undone-row c m n h t turn holds agrees stands (GivesBox box k pl ke tk i) s = none-shown n h turn (subst (λ (z : Turn). Shows n z.shows) i s)
undone-row c m n h t turn holds agrees stands (GivesKernel return pl tk i) s =
    let own = has-one h.kernel (agrees ∙ ap is_in_call pl) in
    let a : InHand m (Returning return) own.0 = subst (λ p. InHand m p own.0) pl (stands own.0 own.1) in
    absurd (let shown : Shows n (finish own.0).shows = subst (λ (z : Return). Shows n z.shows) a.stands.2 (subst (λ (z : Turn). Shows n z.shows) i s) in
    let none = finished-none n own.0 in let b : ⊥ = grind (arith, shown, none) in b)

-- ---- one hart from one moment to the next, while it holds its box
-- its guest part stays, or was told something
abbrev pub UserGoes : UserHart → UserHart → Type 0
UserGoes old new = (new ≡ old) ⊎ ((said : Told) × (new ≡ (told old said).hart))

outside-goes : (h : HartState) (t : HartTold) (turn : Turn) → h.place ≡ Outside → holds_box h.user.place ≡ true → Turned h t turn → UserGoes h.user turn.hart.user
outside-goes h t turn o hold (Unmoved i) = inl (ap (λ (z : Turn). z.hart.user) i)
outside-goes h t turn o hold (InGuest said pl he i) = inr (said, ap (λ (z : Turn). z.hart.user) i)
outside-goes h t turn o hold (TakesKernel k asked pl tk wa i) = absurd (let c = callers h.user asked wa in let b : ⊥ = grind (arith, hold, c) in b)
outside-goes h t turn o hold (TakesBox box state k pl ke tk last i) = absurd (let b : ⊥ = grind (arith, o, pl) in b)
outside-goes h t turn o hold (TakesLastBox box state k pl ke tk last i) = absurd (let b : ⊥ = grind (arith, o, pl) in b)
outside-goes h t turn o hold (FindsFirst first second word k pl ke tk i) = absurd (let b : ⊥ = grind (arith, o, pl) in b)
outside-goes h t turn o hold (FindsSecond found word second k pl ke tk i) = absurd (let b : ⊥ = grind (arith, o, pl) in b)
outside-goes h t turn o hold (Works moves left read now word k pl ke wo pr i) = absurd (let b : ⊥ = grind (arith, o, pl) in b)
outside-goes h t turn o hold (EndsJob moves read word k pl ke wo pr i) = absurd (let b : ⊥ = grind (arith, o, pl) in b)
outside-goes h t turn o hold (GivesBox box k pl ke tk i) = absurd (let b : ⊥ = grind (arith, o, pl) in b)
outside-goes h t turn o hold (GivesKernel return pl tk i) = absurd (let b : ⊥ = grind (arith, o, pl) in b)

-- a hart that holds its box is outside calls
holds-outside : (p : CallPlace) (q : Place) → (is_in_call p ≡ true → is_asking q ≡ true) → holds_box q ≡ true → p ≡ Outside
holds-outside Outside q a h = refl
holds-outside p (at.Call asked) a h = absurd (let b : ⊥ = grind (arith, h) in b)
holds-outside p q a h = absurd (let asked = a refl in let b : ⊥ = grind (arith, asked) in b)

pub is-outside : (c m : ℕ) (h : HartState) → HartHolds c m h → holds_box h.user.place ≡ true → h.place ≡ Outside
is-outside c m h holds e = holds-outside h.place h.user.place holds.asking e

-- the hart after a step of any hart
pub record HartGoes (s : State) (x n : ℕ) (h : HartState) : Type 0 where
  pub next : HartState
  pub there : slice_get (step s x).state.harts n ≡ Some next
  pub goes : UserGoes h.user next.user

goes-own : (s : State) (n : ℕ) (h : HartState) (x : Stepped) → slice_get s.harts n ≡ Some h → h.place ≡ Outside → holds_box h.user.place ≡ true → Turning s n x
    → (next : HartState) × (slice_get x.state.harts n ≡ Some next) × UserGoes h.user next.user
goes-own s n h x e o hold (Still i) = (h, ap (λ (z : Stepped). slice_get z.state.harts n) i ∙ e, inl refl)
goes-own s n h x e o hold (Turns g t f hs sh) =
    let same : g ≡ h = grind (arith, e, f) in (
      (hart_told g t).hart,
      ap (λ xs. slice_get xs n) hs ∙ (let q : slice_get (set s.harts n (hart_told g t).hart) n ≡ Some (hart_told g t).hart = grind (arith, nat_tests, f, slice_get-set s.harts n n (hart_told g t).hart) in q),
      subst (λ (z : HartState). UserGoes z.user (hart_told g t).hart.user) same
          (outside-goes g t (hart_told g t) (ap (λ (z : HartState). z.place) same ∙ o) (ap (λ (z : HartState). holds_box z.user.place) same ∙ hold) (turns_by_row g t)),
    )

pub hart-goes : (s : State) (x n : ℕ) (h : HartState) → Holds s → slice_get s.harts n ≡ Some h → holds_box h.user.place ≡ true → HartGoes s x n h
hart-goes s x n h holds e hold = go (n == x) refl
  where
    go : (b : Bool) → (n == x) ≡ b → HartGoes s x n h
    go true d =
        let same : x ≡ n = grind (arith, nat_tests, d) in
        let g = goes-own s n h (step s n) e (is-outside _ n h (holds.hart n h e) hold) hold (turning s n) in
        subst (λ z. HartGoes s z n h) (sym same) (record { next = g.0; there = g.1; goes = g.2 })
    go false d = record {
      next = h;
      there = others_stay s x n (λ z. (let b : ⊥ = grind (arith, nat_tests, d, z) in b)) ∙ e;
      goes = inl refl;
    }
