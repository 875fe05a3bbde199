-- Exactly one hart has what is not at home.
use Rattle.std.proofs.Common.{ℕ, zero, suc, ◌≡◌, ◌≢◌, ◌<◌, ⊎_elim, Option, Some, None, List, [], ◌∷◌, length, slice_get, sum_by, arith, refl, sym, ap, subst, ◌∙◌}
use Rattle.std.proofs.lemmas.Option.{slice_get_within}
use Rattle.std.proofs.lemmas.List.Sums.{sum_by-cons}
use Rattle.osc_guest.specs.declared.places.Ask.{Ask}
use Rattle.osc_guest.specs.declared.places.Ask.TheVariants as guest
use Rattle.osc_guest.specs.Asks.{ask}
use Rattle.osc_calls.specs.Moves.{Move}
use Rattle.osc_calls.specs.Moves as move
use Rattle.osc_machine.specs.declared.HartAsk.{HartAsk}
use Rattle.osc_machine.specs.declared.HartAsk.TheVariants as does
use Rattle.osc_machine.specs.Parts.{CallPlace, Outside, TakingBoxes, FirstWord, SecondWord, Working, GivingBoxes, Returning, HartState}
use Rattle.osc_machine.specs.Turns.{guest_ask, move_ask, place_ask, hart_ask}
use Rattle.osc_safe.specs.Holding.{one_if, hands, holds_for_call, HoldsAt, HartHolds}
use Rattle.osc_safe.specs.Holders.{OneHas, OneHolds}
use Rattle.osc_safe.proofs.Turning.{item-within}

-- ---- a sum that is one
all-none : (f : HartState → ℕ) (xs : List HartState) (m : ℕ) (g : HartState) → sum_by f xs ≡ 0 → slice_get xs m ≡ Some g → f g ≡ 0
all-none f xs m g e here = let w = item-within f xs m g here in omega (arith, e, w)

one-has : (f : HartState → ℕ) (xs : List HartState) → sum_by f xs ≡ 1 → OneHas f xs
one-has f [] e = absurd (let b : ⊥ = grind (arith, e) in b)
one-has f (x ∷ xs) e = go (f x) refl (one-has f xs)
  where
    go : (c : ℕ) → f x ≡ c → (sum_by f xs ≡ 1 → OneHas f xs) → OneHas f (x ∷ xs)
    go zero d later =
        let rest : sum_by f xs ≡ 1 = (let s = sum_by-cons f x xs in omega (arith, s, d, e)) in
        let o = later rest in record { n = suc o.n; h = o.h; here = o.here; one = o.one; others = others o }
      where
        others : (o : OneHas f xs) (m : ℕ) (g : HartState) → slice_get (x ∷ xs) m ≡ Some g → m ≢ suc o.n → f g ≡ 0
        others o zero g here apart = let same : x ≡ g = grind (arith, here) in ap f (sym same) ∙ d
        others o (suc m) g here apart = o.others m g here (λ q. apart (ap suc q))
    go (suc c) d later =
        let rest : sum_by f xs ≡ 0 = (let s = sum_by-cons f x xs in omega (arith, s, d, e)) in
        let one : f x ≡ 1 = (let s = sum_by-cons f x xs in omega (arith, s, d, e)) in
        record { n = 0; h = x; here = refl; one = one; others = others rest }
      where
        others : sum_by f xs ≡ 0 → (m : ℕ) (g : HartState) → slice_get (x ∷ xs) m ≡ Some g → m ≢ 0 → f g ≡ 0
        others rest zero g here apart = absurd (apart refl)
        others rest (suc m) g here apart = all-none f xs m g rest here

-- ---- boxes that are asked for
abbrev Within : ℕ → HartAsk → Type 0
Within count (does.TakeBox box) = box < count
Within count (does.GiveBox box) = box < count
Within count a = Unit {0}

guest-within : (count number : ℕ) (a : Ask) → number < count → Within count (guest_ask number a)
guest-within count number guest.TakeBox l = l
guest-within count number guest.GiveBox l = l
guest-within count number (guest.Load place) l = tt
guest-within count number (guest.TakeGate frame only) l = tt
guest-within count number (guest.Store place value) l = tt
guest-within count number (guest.OpenGate frame version) l = tt
guest-within count number (guest.Kernel asked) l = tt
guest-within count number guest.Rest l = tt

move-within : (count : ℕ) (moves : List Move) (read : Option ℕ) → Within count (move_ask moves read)
move-within count [] read = tt
move-within count (move.Put place value ∷ moves) read = tt
move-within count (move.Copy from to ∷ moves) None = tt
move-within count (move.Copy from to ∷ moves) (Some word) = tt
move-within count (move.CopyLow from to bytes ∷ moves) None = tt
move-within count (move.CopyLow from to bytes ∷ moves) (Some word) = tt
move-within count (move.ChangeBox box ∷ moves) read = tt
move-within count (move.Out place ∷ moves) read = tt

place-within : (count : ℕ) (p : CallPlace) (h : HartState) → h.number < count → HoldsAt p count (holds_for_call h) → Within count (place_ask p h)
place-within count Outside h l k = guest-within count h.number (ask h.user) l
place-within count (TakingBoxes box) h l k = k.0
place-within count (FirstWord first second) h l k = tt
place-within count (SecondWord found second) h l k = tt
place-within count (Working moves read) h l k = move-within count moves read
place-within count (GivingBoxes box) h l k = k.0
place-within count (Returning return) h l k = tt

ask-within : (c n : ℕ) (h : HartState) → n < c → HartHolds c n h → Within c (hart_ask h)
unfolding hart_ask
ask-within c n h l m = place-within c h.place h (subst (λ z. z < c) (sym m.number) l) m.boxes

pub one_holds : OneHolds
one_holds = record {
  away = λ s box holds l e. one-has (hands box) s.harts (let w = holds.box box l in grind (arith, e, w));
  home = λ s box n state h holds l e here. all-none (hands box) s.harts n h (let w = holds.box box l in grind (arith, e, w)) here;
  gate = λ s frame gate holds e taken. one-has _ s.harts (holds.gate frame gate e ∙ ap one_if taken);
  there = λ s n box h holds here asks.
      (let w = ask-within (length s.harts) n h (slice_get_within s.harts n h here) (holds.hart n h here) in
      subst (λ c. box < c) (sym holds.room) (⊎_elim
      (λ (q : hart_ask h ≡ does.TakeBox box). subst (Within (length s.harts)) q w)
      (λ (q : hart_ask h ≡ does.GiveBox box). subst (Within (length s.harts)) q w) asks));
}
