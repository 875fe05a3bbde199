-- An access that is not done changes nothing of its instruction, all along a run.
use Rattle.std.proofs.Common.{ℕ, zero, suc, ◌+◌, ◌-◌, ◌≡◌, ◌≢◌, ◌≤◌, inl, ⊎_elim, nat_le, Bool, true, false, Option, Some, None, IsSome, List, [], set, length, slice_get, arith, refl, sym, ap, subst, ◌∙◌}
use Rattle.std.specs.Option.{option_map_or, option_and_then}
use Rattle.std.proofs.lemmas.Bool.Decides.{nat_tests}
use Rattle.osc_paging.proofs.WordLists.{slice_get-set}
use Rattle.osc_guest.specs.declared.accesses.Touch.{Touch}
use Rattle.osc_guest.specs.declared.places.Place.{Place}
use Rattle.osc_guest.specs.declared.places.Place.TheVariants as at_place
use Rattle.osc_guest.specs.declared.places.Ask.TheVariants as asks
use Rattle.osc_guest.specs.User.{UserHart}
use Rattle.osc_guest.specs.Asks.{ask, ask_at}
use Rattle.osc_guest.specs.Told.{Told, told}
use Rattle.osc_guest.specs.Hands.{holds_box}
use Rattle.osc_guest.proofs.Quiet.{faults_keep}
use Rattle.osc_machine.specs.Parts.{Outside, HartState, State}
use Rattle.osc_machine.specs.Turns.{guest_ask, place_ask, hart_ask, hart_told}
use Rattle.osc_machine.specs.Step.{step}
use Rattle.osc_machine.specs.Run.{Ran, with_step, at}
use Rattle.osc_machine.specs.Safe.{state_at, hart_at, shows_at, HoldsBox, is_store, hart_stores, registers, pc, ChangesNothing}
use Rattle.osc_machine.specs.Start.{start_of}
use Rattle.osc_machine.proofs.RowLaws.{turns_by_row}
use Rattle.osc_safe.specs.Holding.{is_asking, HartHolds, Holds}
use Rattle.osc_safe.specs.Undone.{RunsUndo}
use Rattle.osc_safe.proofs.TellingRuns.{Known}
use Rattle.osc_safe.proofs.Moments.{further, picked, known-at}
use Rattle.osc_safe.proofs.GuestPlaces.{is_early, early-keeps, late-stays, undone-early, giving-keeps, giving-gives}
use Rattle.osc_safe.proofs.UndoneRows.{Shows, contains-shows}
use Rattle.osc_safe.proofs.UndoneTurns.{Turning, Still, Turns, turning, Undone, ByGuest, ByCall, undone-row, UserGoes, is-outside, hart-goes}

-- ---- a hart with its box in hand
record On (s : State) (n : ℕ) : Type 0 where
  h : HartState
  here : slice_get s.harts n ≡ Some h
  holds : holds_box h.user.place ≡ true
  outside : h.place ≡ Outside

on-by : (s : State) (n : ℕ) (o : Option HartState) → Holds s → slice_get s.harts n ≡ o → IsSome (option_and_then (λ (h : HartState). h.user.held) o) → On s n
on-by s n None all e i = absurd (let b : ⊥ = grind (arith, i) in b)
on-by s n (Some h) all e i =
    let m = all.hart n h e in
    let hold : holds_box h.user.place ≡ true = sym m.own ∙ i in
    record { h = h; here = e; holds = hold; outside = is-outside _ n h m hold }

-- ---- before the access
-- it looks, with these registers and this pc
record Looks (s : State) (n : ℕ) (regs : List ℕ) (at_pc : ℕ) : Type 0 where
  h : HartState
  here : slice_get s.harts n ≡ Some h
  early : is_early h.user.place ≡ true
  same_regs : h.user.regs ≡ regs
  same_pc : h.user.pc ≡ at_pc

record UserLooks (u v : UserHart) : Type 0 where
  early : is_early u.place ≡ true
  regs : v.regs ≡ u.regs
  pc : v.pc ≡ u.pc

told-looks : (u : UserHart) (said : Told) (b : Bool) → is_early u.place ≡ b → holds_box u.place ≡ true → is_early (told u said).hart.place ≡ true → UserLooks u (told u said).hart
told-looks u said true e hold later = let k = early-keeps u said e later in record { early = e; regs = k.0; pc = k.1 }
told-looks u said false e hold later = absurd (let l = late-stays u said hold e in let b : ⊥ = grind (arith, l, later) in b)

user-looks : (u v : UserHart) → UserGoes u v → holds_box u.place ≡ true → is_early v.place ≡ true → UserLooks u v
user-looks u v goes hold later = ⊎_elim
    (λ (same : v ≡ u). record { early = ap (λ (z : UserHart). is_early z.place) (sym same) ∙ later; regs = ap (λ (z : UserHart). z.regs) same; pc = ap (λ (z : UserHart). z.pc) same })
    (λ (t : (said : Told) × (v ≡ (told u said).hart)). subst (UserLooks u) (sym t.1)
    (told-looks u t.0 (is_early u.place) refl hold (ap (λ (z : UserHart). is_early z.place) (sym t.1) ∙ later)))
    goes

-- from a moment to the next
goes-at : (start : State) (picks : List ℕ) (j n : ℕ) → Known (at start picks j) → (on : On (state_at start picks j) n) → (next : HartState) × (slice_get (state_at start picks (j + 1)).harts n ≡ Some next) × UserGoes on.h.user next.user
goes-at start picks j n known on = ⊎_elim
    (λ (same : at start picks (j + 1) ≡ at start picks j). (on.h, ap (λ (z : Ran). slice_get z.state.harts n) same ∙ on.here, inl refl))
    (λ (more : (x : ℕ) × (slice_get picks j ≡ Some x) × (at start picks (j + 1) ≡ with_step (at start picks j) (step (state_at start picks j) x))).
    (let g = hart-goes (state_at start picks j) more.0 n on.h known.both.holds on.here on.holds in
    (g.next, ap (λ (z : Ran). slice_get z.state.harts n) more.2 ∙ g.there, g.goes)))
    (further start picks j)

looks-back : (start : State) (picks : List ℕ) (j n : ℕ) (regs : List ℕ) (at_pc : ℕ) → Known (at start picks j) → On (state_at start picks j) n → Looks (state_at start picks (j + 1)) n regs at_pc → Looks (state_at start picks j) n regs at_pc
looks-back start picks j n regs at_pc known on later =
    let g = goes-at start picks j n known on in
    let same : g.0 ≡ later.h = (let a = g.1 in let b = later.here in grind (arith, a, b)) in
    let u = user-looks on.h.user later.h.user (subst (λ (z : HartState). UserGoes on.h.user z.user) same g.2) on.holds later.early in
    record { h = on.h; here = on.here; early = u.early; same_regs = sym u.regs ∙ later.same_regs; same_pc = sym u.pc ∙ later.same_pc }

held-at : (start : State) (picks : List ℕ) (n from to j : ℕ) → Known (at start picks j) → HoldsBox start picks n from to → from ≤ j → j ≤ to → On (state_at start picks j) n
held-at start picks n from to j known holds a b = on-by (state_at start picks j) n (hart_at start picks n j) known.both.holds refl (holds j a b)

looks-from : (start : State) (picks : List ℕ) (n from to i : ℕ) (regs : List ℕ) (at_pc : ℕ) → ((j : ℕ) → Known (at start picks j)) → HoldsBox start picks n from to → i ≤ to → Looks (state_at start picks i) n regs at_pc
    → (m j : ℕ) → from ≤ j → j + m ≡ i → Looks (state_at start picks j) n regs at_pc
looks-from start picks n from to i regs at_pc known holds l looks zero j a e =
    let same : i ≡ j = omega (arith, e) in subst (λ z. Looks (state_at start picks z) n regs at_pc) same looks
looks-from start picks n from to i regs at_pc known holds l looks (suc m) j a e =
    looks-back start picks j n regs at_pc (known j) (held-at start picks n from to j (known j) holds a (omega (arith, e, l)))
    (looks-from start picks n from to i regs at_pc known holds l looks m (j + 1) (omega (arith, a)) (omega (arith, e)))

-- ---- after the access
-- it has these registers and this pc, and while it holds its box it gives it
record After (s : State) (n : ℕ) (regs : List ℕ) (at_pc : ℕ) : Type 0 where
  h : HartState
  here : slice_get s.harts n ≡ Some h
  gives : holds_box h.user.place ≡ true → ask h.user ≡ asks.GiveBox
  same_regs : h.user.regs ≡ regs
  same_pc : h.user.pc ≡ at_pc

record UserGives (u v : UserHart) : Type 0 where
  gives : holds_box v.place ≡ true → ask v ≡ asks.GiveBox
  regs : v.regs ≡ u.regs
  pc : v.pc ≡ u.pc

user-gives : (u v : UserHart) → UserGoes u v → ask u ≡ asks.GiveBox → UserGives u v
user-gives u v goes e = ⊎_elim
    (λ (same : v ≡ u). record { gives = λ hold. ap ask same ∙ e; regs = ap (λ (z : UserHart). z.regs) same; pc = ap (λ (z : UserHart). z.pc) same })
    (λ (t : (said : Told) × (v ≡ (told u said).hart)). subst (UserGives u) (sym t.1)
    (let k = giving-keeps u t.0 e in record { gives = λ hold. giving-gives u t.0 e hold; regs = k.0; pc = k.1 }))
    goes

after-next : (start : State) (picks : List ℕ) (j n : ℕ) (regs : List ℕ) (at_pc : ℕ) → Known (at start picks j) → On (state_at start picks j) n → After (state_at start picks j) n regs at_pc → After (state_at start picks (j + 1)) n regs at_pc
after-next start picks j n regs at_pc known on a =
    let g = goes-at start picks j n known on in
    let same : a.h ≡ on.h = (let x = a.here in let y = on.here in grind (arith, x, y)) in
    let asked : ask on.h.user ≡ asks.GiveBox = ap (λ (z : HartState). ask z.user) (sym same) ∙ a.gives (ap (λ (z : HartState). holds_box z.user.place) same ∙ on.holds) in
    let u = user-gives on.h.user g.0.user g.2 asked in
    record {
      h = g.0;
      here = g.1;
      gives = u.gives;
      same_regs = u.regs ∙ ap (λ (z : HartState). z.user.regs) (sym same) ∙ a.same_regs;
      same_pc = u.pc ∙ ap (λ (z : HartState). z.user.pc) (sym same) ∙ a.same_pc;
    }

after-on : (start : State) (picks : List ℕ) (n from to i : ℕ) (regs : List ℕ) (at_pc : ℕ) → ((j : ℕ) → Known (at start picks j)) → HoldsBox start picks n from to → from ≤ i → After (state_at start picks (i + 1)) n regs at_pc
    → (m : ℕ) → i + m ≤ to → After (state_at start picks (i + m + 1)) n regs at_pc
after-on start picks n from to i regs at_pc known holds a first zero l =
    let same : i + 1 ≡ i + 0 + 1 = omega arith in subst (λ z. After (state_at start picks z) n regs at_pc) same first
after-on start picks n from to i regs at_pc known holds a first (suc m) l =
    let same : i + m + 1 ≡ i + suc m = omega arith in
    subst (λ z. After (state_at start picks (z + 1)) n regs at_pc) same
    (after-next start picks (i + m + 1) n regs at_pc (known (i + m + 1)) (held-at start picks n from to (i + m + 1) (known (i + m + 1)) holds (omega (arith, a)) (omega (arith, l)))
    (after-on start picks n from to i regs at_pc known holds a first m (omega (arith, l))))

-- ---- the access
record Undoes (start : State) (picks : List ℕ) (i n : ℕ) : Type 0 where
  regs : List ℕ
  at_pc : ℕ
  looks : Looks (state_at start picks i) n regs at_pc
  after : After (state_at start picks (i + 1)) n regs at_pc

not-idle : (p : Place) → holds_box p ≡ true → p ≢ at_place.Idle
not-idle p hold e = (let b : ⊥ = grind (arith, hold, e) in b)

not-asking : (p : Place) → holds_box p ≡ true → is_asking p ≡ true → ⊥
not-asking (at_place.Call asked) hold e = grind (arith, hold)
not-asking p hold e = (let b : ⊥ = grind (arith, e) in b)

guest-undoes : (start : State) (picks : List ℕ) (i n : ℕ) (h next : HartState) (said : Told) (touch : Touch) → slice_get (state_at start picks i).harts n ≡ Some h → holds_box h.user.place ≡ true
    → slice_get (state_at start picks (i + 1)).harts n ≡ Some next → next.user ≡ (told h.user said).hart → (told h.user said).touch ≡ Some touch → touch.done ≡ false → Undoes start picks i n
guest-undoes start picks i n h next said touch e hold f user t d =
    let k = faults_keep h.user said touch t d (not-idle h.user.place hold) in record {
      regs = h.user.regs;
      at_pc = h.user.pc;
      looks = record { h = h; here = e; early = undone-early h.user said touch hold t d; same_regs = refl; same_pc = refl };
      after = record {
        h = next;
        here = f;
        gives = λ b. ap ask user ∙ k.2;
        same_regs = ap (λ (z : UserHart). z.regs) user ∙ k.0;
        same_pc = ap (λ (z : UserHart). z.pc) user ∙ k.1;
      };
    }

turn-undoes : (start : State) (picks : List ℕ) (i n x : ℕ) → Known (at start picks i) → On (state_at start picks i) n → at start picks (i + 1) ≡ with_step (at start picks i) (step (state_at start picks i) x)
    → Turning (state_at start picks i) x (step (state_at start picks i) x) → Shows n (step (state_at start picks i) x).shows → Undoes start picks i n
turn-undoes start picks i n x known on next (Still e) s = absurd (let none : Shows n [] = subst (Shows n) (ap (λ (z : _). z.shows) e) s in let b : ⊥ = grind (arith, none) in b)
turn-undoes start picks i n x known on next (Turns h t e hs sh) s =
    let m = known.both.holds.hart x h e in
    by (undone-row (length (state_at start picks i).harts) x n h t (hart_told h t) m (known.both.holds.has.in_hand x h e) (known.both.stands.hand x h e) (turns_by_row h t) (subst (Shows n) sh s)) m
  where
    mine : h.number ≡ n → HartHolds (length (state_at start picks i).harts) x h → x ≡ n
    mine own m = sym m.number ∙ own

    on-is : h.number ≡ n → HartHolds (length (state_at start picks i).harts) x h → on.h ≡ h
    on-is own m = (let same = mine own m in let here = on.here in grind (arith, same, here, e))

    by : Undone n h (hart_told h t) → HartHolds (length (state_at start picks i).harts) x h → Undoes start picks i n
    by (ByCall asking own) m = absurd (not-asking h.user.place (ap (λ (z : HartState). holds_box z.user.place) (sym (on-is own m)) ∙ on.holds) asking)
    by (ByGuest said touch o user t2 d own) m =
        let same = mine own m in
        let written : slice_get (set (state_at start picks i).harts x (hart_told h t).hart) n ≡ Some (hart_told h t).hart = grind (arith, nat_tests, e, same, slice_get-set (state_at start picks i).harts x n (hart_told h t).hart) in
        guest-undoes start picks i n h (hart_told h t).hart said touch (ap (λ z. slice_get (state_at start picks i).harts z) (sym same) ∙ e)
        (ap (λ (z : HartState). holds_box z.user.place) (sym (on-is own m)) ∙ on.holds)
        (ap (λ (z : Ran). slice_get z.state.harts n) next ∙ ap (λ xs. slice_get xs n) hs ∙ written) user t2 d

undoes : (start : State) (picks : List ℕ) (i n : ℕ) (o : Option ℕ) → slice_get picks i ≡ o → Known (at start picks i) → On (state_at start picks i) n
    → Shows n (option_map_or (λ pick. (step (state_at start picks i) pick).shows) o []) → Undoes start picks i n
undoes start picks i n None e known on s = absurd (let b : ⊥ = grind (arith, s) in b)
undoes start picks i n (Some x) e known on s = turn-undoes start picks i n x known on (picked start picks i x e) (turning (state_at start picks i) x) s

-- ---- the instruction
early-ask : (p : Place) (number : ℕ) (u : UserHart) → is_early p ≡ true → is_store (guest_ask number (ask_at p u)) ≡ false
early-ask p number u e = grind (arith, e)

looks-store : (h : HartState) → h.place ≡ Outside → is_early h.user.place ≡ true → is_store (hart_ask h) ≡ false
unfolding hart_ask ask
looks-store h o e = ap (λ p. is_store (place_ask p h)) o ∙ early-ask h.user.place h.number h.user e

gives-store : (h : HartState) → h.place ≡ Outside → ask h.user ≡ asks.GiveBox → is_store (hart_ask h) ≡ false
unfolding hart_ask
gives-store h o e = ap (λ p. is_store (place_ask p h)) o ∙ ap (λ a. is_store (guest_ask h.number a)) e

stores-is : (s : State) (n : ℕ) (h : HartState) → slice_get s.harts n ≡ Some h → is_store (hart_ask h) ≡ false → hart_stores (slice_get s.harts n) ≡ false
stores-is s n h e f = ap hart_stores e ∙ f

changes-nothing : (start : State) (picks : List ℕ) (n from to i : ℕ) → ((j : ℕ) → Known (at start picks j)) → HoldsBox start picks n from to → from ≤ i → i ≤ to → Undoes start picks i n → ChangesNothing start picks n from to
changes-nothing start picks n from to i known holds a l u = record {
  no_store = λ j b c. store j b c (nat_le j i) refl;
  keeps_registers = ap registers first.here ∙ first.same_regs ∙ sym last.same_regs ∙ ap registers (sym last.here);
  keeps_pc = ap pc first.here ∙ first.same_pc ∙ sym last.same_pc ∙ ap pc (sym last.here);
}
  where
    first : Looks (state_at start picks from) n u.regs u.at_pc
    first = looks-from start picks n from to i u.regs u.at_pc known holds l u.looks (i - from) from (omega arith) (omega (arith, a))

    last : After (state_at start picks (to + 1)) n u.regs u.at_pc
    last =
        let same : i + (to - i) ≡ to = omega (arith, l) in
        subst (λ z. After (state_at start picks (z + 1)) n u.regs u.at_pc) same (after-on start picks n from to i u.regs u.at_pc known holds a u.after (to - i) (omega (arith, l)))

    store : (j : ℕ) → from ≤ j → j ≤ to → (t : Bool) → nat_le j i ≡ t → hart_stores (hart_at start picks n j) ≡ false
    store j b c true d =
        let m : j ≤ i = grind (arith, nat_tests, d) in
        let on = held-at start picks n from to j (known j) holds b c in
        let looks = looks-from start picks n from to i u.regs u.at_pc known holds l u.looks (i - j) j b (omega (arith, m)) in
        let same : looks.h ≡ on.h = (let x = looks.here in let y = on.here in grind (arith, x, y)) in
        stores-is (state_at start picks j) n looks.h looks.here (looks-store looks.h (ap (λ (z : HartState). z.place) same ∙ on.outside) looks.early)
    store j b c false d =
        let m : i + 1 ≤ j = grind (arith, nat_tests, d) in
        let on = held-at start picks n from to j (known j) holds b c in
        let at_j : i + (j - i - 1) + 1 ≡ j = omega (arith, m) in
        let after = subst (λ z. After (state_at start picks z) n u.regs u.at_pc) at_j (after-on start picks n from to i u.regs u.at_pc known holds a u.after (j - i - 1) (omega (arith, m, c))) in
        let same : after.h ≡ on.h = (let x = after.here in let y = on.here in grind (arith, x, y)) in
        stores-is (state_at start picks j) n after.h after.here
        (gives-store after.h (ap (λ (z : HartState). z.place) same ∙ on.outside) (after.gives (ap (λ (z : HartState). holds_box z.user.place) same ∙ on.holds)))

pub runs_undo : RunsUndo
runs_undo file image config picks fit is_image room i pid hart address width kind shown from to a l holds =
    let start = start_of image config in
    let known = known-at file image config picks fit is_image room in
    changes-nothing start picks hart from to i known holds a l
    (undoes start picks i hart (slice_get picks i) refl (known i) (held-at start picks hart from to i (known i) holds a l) (contains-shows (shows_at start picks i) pid hart address width kind shown))
