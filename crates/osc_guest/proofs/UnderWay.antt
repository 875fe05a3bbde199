-- An access under way is aligned, and a fetch is that at the pc.
use Rattle.std.proofs.Common.{ℕ, ◌%◌, ◌==◌, ◌≡◌, Bool, true, false, Option, Some, None, List, arith, refl}
use Rattle.std.proofs.lemmas.Bool.Decides.{nat_tests}
use Rattle.osc_word.specs.declared.orders.Order.{Order}
use Rattle.osc_word.specs.declared.orders.Order.TheVariants as order
use Rattle.osc_sv39.specs.declared.entries.PteEntry.{PteEntry}
use Rattle.osc_sv39.specs.Entries.{entry_of}
use Rattle.osc_rv.specs.declared.instr.Instr.{Instr}
use Rattle.osc_rv.specs.Instr.{instr_of}
use Rattle.osc_isa.specs.declared.IntDone.{IntDone}
use Rattle.osc_isa.specs.declared.IntDone.TheVariants as done
use Rattle.osc_isa.specs.Integer.{done_of}
use Rattle.osc_guest.specs.declared.accesses.MemoryAccess.{MemoryAccess}
use Rattle.osc_guest.specs.declared.accesses.What.{What}
use Rattle.osc_guest.specs.declared.accesses.What.TheVariants as does
use Rattle.osc_guest.specs.declared.places.Place.{Place}
use Rattle.osc_guest.specs.declared.places.Place.TheVariants as at
use Rattle.osc_guest.specs.declared.places.Stage.TheVariants as stage
use Rattle.osc_guest.specs.User.{UserHart, starting}
use Rattle.osc_guest.specs.Accesses.{access_of, fetch_at, found_by}
use Rattle.osc_guest.specs.Looking.{reached, looked_up, walked}
use Rattle.osc_guest.specs.Instructions.{accessing, executed, decoded}
use Rattle.osc_guest.specs.Orders.{begun, holding, obeyed, ordered}
use Rattle.osc_guest.specs.Told.{Told, Box, Word, told, told_at}
use Rattle.osc_guest.specs.AccessLaws.{is_access_width, AccessFits, PlaceFits, AccessesKept}

reached-fits : (access : MemoryAccess) (frame : ℕ) (h : UserHart) → AccessFits h.pc access → PlaceFits (reached access frame h).hart.pc (reached access frame h).hart.place
unfolding reached
reached-fits access frame h k = grind (arith, k)

looked_up-fits : (access : MemoryAccess) (h : UserHart) → AccessFits h.pc access → PlaceFits (looked_up access h).hart.pc (looked_up access h).hart.place
unfolding looked_up
looked_up-fits access h k = grind (arith, k, reached-fits)

walked-fits : (access : MemoryAccess) (level : ℕ) (entry : PteEntry) (h : UserHart) → AccessFits h.pc access → PlaceFits (walked access level entry h).hart.pc (walked access level entry h).hart.place
unfolding walked
walked-fits access level entry h k = grind (arith, k, reached-fits)

-- the data accesses of instructions
abbrev is_data : What → Bool
is_data does.Fetch = false
is_data _ = true

abbrev IsData : Option MemoryAccess → Type 0
IsData None = Unit {0}
IsData (Some access) = (is_access_width access.width ≡ true) × (is_data access.what ≡ true)

made : (i : Instr) (regs : List ℕ) (pc : ℕ) → IsData (access_of i (done_of i regs pc))
made i regs pc = grind arith

accessing-fits : (found : Option MemoryAccess) (h : UserHart) → IsData found → PlaceFits (accessing found h).hart.pc (accessing found h).hart.place
accessing-fits None h k = tt
accessing-fits (Some access) h k = go (access.address % access.width == 0) refl access.what refl
  where
    go : (test : Bool) → (access.address % access.width == 0) ≡ test → (what : What) → access.what ≡ what
        → PlaceFits (accessing (Some access) h).hart.pc (accessing (Some access) h).hart.place
    go true e does.Fetch f = absurd (let b : ⊥ = grind (arith, k, f) in b)
    go true e what f =
        let aligned : access.address % access.width ≡ 0 = grind (arith, nat_tests, e) in
        grind (arith, e, f, k, aligned, looked_up-fits)
    go false e what f = grind (arith, e)

executed-fits : (i : Instr) (does : IntDone) (h : UserHart) → IsData (access_of i does) → PlaceFits (executed i does h).hart.pc (executed i does h).hart.place
unfolding executed
executed-fits i (done.Load rd kind address) h k = accessing-fits (access_of i (done.Load rd kind address)) h k
executed-fits i (done.Store width address value) h k = accessing-fits (access_of i (done.Store width address value)) h k
executed-fits i (done.Atomic address operand) h k = accessing-fits (access_of i (done.Atomic address operand)) h k
executed-fits i _ h k = tt

decoded-fits : (found : Option Instr) (h : UserHart) → PlaceFits (decoded found h).hart.pc (decoded found h).hart.place
decoded-fits None h = tt
decoded-fits (Some i) h = executed-fits i (done_of i h.regs h.pc) h (made i h.regs h.pc)

begun-fits : (h : UserHart) → PlaceFits (begun h).hart.pc (begun h).hart.place
begun-fits h = go (h.pc % 4 == 0) refl
  where
    go : (test : Bool) → (h.pc % 4 == 0) ≡ test → PlaceFits (begun h).hart.pc (begun h).hart.place
    go true e =
        let aligned : h.pc % 4 ≡ 0 = grind (arith, nat_tests, e) in
        grind (arith, e, looked_up-fits (fetch_at h.pc) h (refl, aligned, refl))
    go false e = grind (arith, e)

told-fits : (p : Place) (h : UserHart) (t : Told) → h.place ≡ p → PlaceFits h.pc p → PlaceFits h.pc h.place → PlaceFits (told_at p h t).hart.pc (told_at p h t).hart.place
told-fits at.Run h (Box box) e k l = go box.order refl
  where
    go : (o : Order) → box.order ≡ o → PlaceFits (ordered true box.order box h).hart.pc (ordered true box.order box h).hart.place
    go o e = grind (arith, e, begun-fits (holding box h))
told-fits at.Idle h (Box box) e k l = go box.order refl
  where
    go : (o : Order) → box.order ≡ o → PlaceFits (ordered false box.order box h).hart.pc (ordered false box.order box h).hart.place
    go (order.Start start) e = grind (arith, e, begun-fits (starting start (holding (obeyed box) h)))
    go o e = grind (arith, e)
told-fits (at.Walk access level table) h (Word word) e k l = walked-fits access level (entry_of word) h k
told-fits (at.Access access frame stage.Fetch) h (Word word) e k l = decoded-fits (instr_of (found_by access word)) h
told-fits (at.Access access frame stage) h t e k l = grind (arith, e, k, l)
told-fits p h t e k l = grind (arith, e, k, l)

pub accesses_kept : AccessesKept
unfolding told
accesses_kept h t k = told-fits h.place h t refl k k
