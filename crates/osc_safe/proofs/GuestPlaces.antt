-- Within one instruction a hart first looks, and then it commits: what it keeps until then.
use Rattle.std.proofs.Common.{ℕ, ◌≡◌, Bool, true, false, Some, arith}
use Rattle.osc_sv39.specs.declared.entries.PteEntry.{PteEntry}
use Rattle.osc_rv.specs.declared.instr.Instr.{Instr}
use Rattle.osc_isa.specs.declared.IntDone.{IntDone}
use Rattle.osc_guest.specs.declared.accesses.MemoryAccess.{MemoryAccess}
use Rattle.osc_guest.specs.declared.accesses.Touch.{Touch}
use Rattle.osc_guest.specs.declared.places.Place.{Place}
use Rattle.osc_guest.specs.declared.places.Place.TheVariants as at
use Rattle.osc_guest.specs.declared.places.Stage.{Stage}
use Rattle.osc_guest.specs.declared.places.Stage.TheVariants as stage
use Rattle.osc_guest.specs.declared.places.Ask.TheVariants as asks
use Rattle.osc_guest.specs.User.{UserHart, Answered}
use Rattle.osc_guest.specs.Asks.{ask}
use Rattle.osc_guest.specs.Told.{Told, told}
use Rattle.osc_guest.specs.Looking.{reached, looked_up, walked}
use Rattle.osc_guest.specs.Instructions.{executed}
use Rattle.osc_guest.specs.Hands.{holds_box}

-- it holds its box and has stored nothing, nor committed
abbrev pub early_stage : Stage → Bool
early_stage stage.Fetch = true
early_stage stage.Load = true
early_stage (stage.TakeGate only) = true
early_stage (stage.GatedLoad version) = false
early_stage (stage.GatedStore version found) = false

abbrev pub is_early : Place → Bool
is_early (at.Walk access level table) = true
is_early (at.Access access frame stage) = early_stage stage
is_early _ = false

abbrev Keeps : UserHart → Answered → Type 0
Keeps h a = (a.hart.regs ≡ h.regs) × (a.hart.pc ≡ h.pc)

reached-early : (access : MemoryAccess) (frame : ℕ) (h : UserHart) → is_early (reached access frame h).hart.place ≡ true → Keeps h (reached access frame h)
unfolding reached
reached-early access frame h q = grind (arith, q)

looked_up-early : (access : MemoryAccess) (h : UserHart) → is_early (looked_up access h).hart.place ≡ true → Keeps h (looked_up access h)
unfolding looked_up
looked_up-early access h q = grind (arith, q, reached-early)

walked-early : (access : MemoryAccess) (level : ℕ) (entry : PteEntry) (h : UserHart) → is_early (walked access level entry h).hart.place ≡ true → Keeps h (walked access level entry h)
unfolding walked
walked-early access level entry h q = grind (arith, q, reached-early)

executed-early : (i : Instr) (does : IntDone) (h : UserHart) → is_early (executed i does h).hart.place ≡ true → Keeps h (executed i does h)
unfolding executed
executed-early i does h q = grind (arith, q, looked_up-early)

-- from one look to the next registers and pc stay
pub early-keeps : (h : UserHart) (t : Told) → is_early h.place ≡ true → is_early (told h t).hart.place ≡ true → Keeps h (told h t)
unfolding told
early-keeps h t e q = grind (arith, e, q, looked_up-early, walked-early, executed-early)

-- once it no more looks it goes on to the giving of its box
pub late-stays : (h : UserHart) (t : Told) → holds_box h.place ≡ true → is_early h.place ≡ false → is_early (told h t).hart.place ≡ false
unfolding told
late-stays h t e q = grind (arith, e, q)

-- an access that is shown as not done is one of a look
pub undone-early : (h : UserHart) (t : Told) (touch : Touch) → holds_box h.place ≡ true → (told h t).touch ≡ Some touch → touch.done ≡ false → is_early h.place ≡ true
unfolding told
undone-early h t touch e f d = grind (arith, e, f, d)

-- the giving of the box keeps registers and pc
pub giving-keeps : (h : UserHart) (t : Told) → ask h ≡ asks.GiveBox → Keeps h (told h t)
unfolding ask told
giving-keeps h t e = grind (arith, e)

pub giving-gives : (h : UserHart) (t : Told) → ask h ≡ asks.GiveBox → holds_box (told h t).hart.place ≡ true → ask (told h t).hart ≡ asks.GiveBox
unfolding ask told
giving-gives h t e q = grind (arith, e, q)
