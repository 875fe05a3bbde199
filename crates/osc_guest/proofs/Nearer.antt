-- Each fitting answer but Busy leads nearer to the end of the instruction.
use Rattle.std.proofs.Common.{ℕ, suc, ◌+◌, ◌-◌, ◌≤◌, ◌≡◌, arith, refl, ap}
use Rattle.osc_sv39.specs.declared.entries.PteEntry.{PteEntry}
use Rattle.osc_rv.specs.declared.instr.Instr.{Instr}
use Rattle.osc_isa.specs.declared.IntDone.{IntDone}
use Rattle.osc_guest.specs.declared.accesses.MemoryAccess.{MemoryAccess}
use Rattle.osc_guest.specs.declared.places.Place.{Place}
use Rattle.osc_guest.specs.declared.places.Place.TheVariants as at
use Rattle.osc_guest.specs.User.{UserHart}
use Rattle.osc_guest.specs.Asks.{ask}
use Rattle.osc_guest.specs.Looking.{reached, looked_up, walked}
use Rattle.osc_guest.specs.Instructions.{executed}
use Rattle.osc_guest.specs.Told.{told}
use Rattle.osc_guest.specs.Laws.{left_of, left, AnswersMove, FittingChanges}
use Rattle.osc_guest.proofs.Hands.{told-levels}

reached-left : (access : MemoryAccess) (frame top : ℕ) (h : UserHart) → left top (reached access frame h).hart.place ≤ left_of access.what top
unfolding reached
reached-left access frame top h = grind arith

looked_up-left : (access : MemoryAccess) (top : ℕ) (h : UserHart) → top ≡ h.levels - 1 → left top (looked_up access h).hart.place ≤ left_of access.what top + suc top
unfolding looked_up
looked_up-left access top h e = grind (arith, e, reached-left)

walked-left : (access : MemoryAccess) (level top : ℕ) (entry : PteEntry) (h : UserHart) → left top (walked access level entry h).hart.place ≤ left_of access.what top + level
unfolding walked
walked-left access level top entry h = grind (arith, reached-left)

executed-left : (i : Instr) (does : IntDone) (top : ℕ) (h : UserHart) → top ≡ h.levels - 1 → left top (executed i does h).hart.place ≤ 6 + top
unfolding executed
executed-left i does top h e = grind (arith, e, looked_up-left)

pub answers_move : AnswersMove
unfolding ask told
answers_move h t f b g k = grind (arith, f, b, g, k, told-levels h t, looked_up-left, walked-left, executed-left)

pub fitting_changes : FittingChanges
unfolding ask told
fitting_changes h t f b k e = go h.place refl
  where
    go : (p : Place) → h.place ≡ p → ⊥
    go (at.GiveBox follows) s = grind (arith, s, f, b, ap (λ (x : UserHart). x.place) e)
    go p s =
        let moves = answers_move h t f b (grind (arith, s)) k in
        grind (arith, moves, ap (λ (x : UserHart). x.place) e)
