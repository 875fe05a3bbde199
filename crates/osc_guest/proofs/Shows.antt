-- What an answer shows.
use Rattle.std.proofs.Common.{ℕ, ◌≡◌, Bool, true, false, Option, Some, None, arith, refl, sym, subst}
use Rattle.osc_sv39.specs.declared.entries.PteEntry.{PteEntry}
use Rattle.osc_guest.specs.declared.accesses.MemoryAccess.{MemoryAccess}
use Rattle.osc_guest.specs.declared.accesses.Touch.{Touch}
use Rattle.osc_guest.specs.declared.places.Place.{Place}
use Rattle.osc_guest.specs.declared.places.Place.TheVariants as at
use Rattle.osc_guest.specs.User.{UserHart}
use Rattle.osc_guest.specs.Accesses.{access_page, touch_of}
use Rattle.osc_guest.specs.Looking.{reached, looked_up, walked}
use Rattle.osc_guest.specs.Told.{Told, told}
use Rattle.osc_guest.specs.Carry.{Pages, Tabs, PlaceOk, access_done, DoneShown, ElseLost, Reaches, TouchesReach}

pub done_shown : DoneShown
unfolding told
done_shown h t access e = grind (arith, e)

-- nothing is shown as done
abbrev is_done : Option Touch → Bool
is_done None = false
is_done (Some touch) = touch.done

reached-lost : (access : MemoryAccess) (frame : ℕ) (h : UserHart) → is_done (reached access frame h).touch ≡ false
unfolding reached
reached-lost access frame h = grind arith

looked_up-lost : (access : MemoryAccess) (h : UserHart) → is_done (looked_up access h).touch ≡ false
unfolding looked_up
looked_up-lost access h = grind (arith, reached-lost)

walked-lost : (access : MemoryAccess) (level : ℕ) (entry : PteEntry) (h : UserHart) → is_done (walked access level entry h).touch ≡ false
unfolding walked
walked-lost access level entry h = grind (arith, reached-lost)

else_done : (h : UserHart) (t : Told) → access_done h.place t ≡ None → is_done (told h t).touch ≡ false
unfolding told
else_done h t n = grind (arith, n, looked_up-lost, walked-lost)

pub else_lost : ElseLost
else_lost h t touch n e = grind (arith, e, else_done h t n)

pub touches_reach : (Page : Pages) (Tab : Tabs) → TouchesReach Page Tab
touches_reach Page Tab h t touch k e d = go h.place refl (access_done h.place t) refl k.1
  where
    reach : (access : MemoryAccess) (frame : ℕ) → access_done h.place t ≡ Some access → Page h.pid (access_page access) frame → Reaches Page touch
    reach access frame f p =
        let shown = done_shown h t access f in
        let same : touch_of access true h ≡ touch = grind (arith, e, shown) in
        subst (Reaches Page) same (record { frame = frame; ok = p })

    go : (p : Place) → h.place ≡ p → (found : Option MemoryAccess) → access_done h.place t ≡ found → PlaceOk Page Tab h.pid p → Reaches Page touch
    go p s None f k = absurd (let b : ⊥ = grind (arith, e, d, else_done h t f) in b)
    go (at.Access access frame stage) s (Some found) f k =
        let same : access ≡ found = grind (arith, s, f) in
        reach access frame (subst (λ x. access_done h.place t ≡ Some x) (sym same) f) k
    go p s (Some found) f k = absurd (let b : ⊥ = grind (arith, s, f) in b)
