-- Where nothing commits, and where an access faults, registers and pc stay.
use Rattle.std.proofs.Common.{ℕ, ◌≡◌, Bool, true, false, not, ◌||◌, Option, Some, None, is_some, arith}
use Rattle.osc_sv39.specs.declared.entries.PteEntry.{PteEntry}
use Rattle.osc_rv.specs.declared.instr.Instr.{Instr}
use Rattle.osc_isa.specs.declared.IntDone.{IntDone}
use Rattle.osc_guest.specs.declared.accesses.MemoryAccess.{MemoryAccess}
use Rattle.osc_guest.specs.declared.accesses.Touch.{Touch}
use Rattle.osc_guest.specs.declared.places.Place.{Place}
use Rattle.osc_guest.specs.declared.places.Place.TheVariants as at
use Rattle.osc_guest.specs.User.{UserHart, Answered}
use Rattle.osc_guest.specs.Asks.{ask}
use Rattle.osc_guest.specs.Looking.{reached, looked_up, walked}
use Rattle.osc_guest.specs.Instructions.{executed}
use Rattle.osc_guest.specs.Told.{told}
use Rattle.osc_guest.specs.Laws.{FaultsKeep, SilenceKeeps}

abbrev is_lost : Option Touch → Bool
is_lost None = false
is_lost (Some touch) = not touch.done

-- nothing commits, or an access is lost
abbrev is_quiet : Answered → Bool
is_quiet a = is_lost a.touch || not (is_some a.choice)

abbrev gives_box : Place → Bool
gives_box (at.GiveBox follows) = true
gives_box _ = false

abbrev Quiet : UserHart → Answered → Type 0
Quiet h a = (a.hart.regs ≡ h.regs) × (a.hart.pc ≡ h.pc) × (is_lost a.touch ≡ true → gives_box a.hart.place ≡ true)

reached-quiet : (access : MemoryAccess) (frame : ℕ) (h : UserHart) → is_quiet (reached access frame h) ≡ true → Quiet h (reached access frame h)
unfolding reached
reached-quiet access frame h q = grind (arith, q)

looked_up-quiet : (access : MemoryAccess) (h : UserHart) → is_quiet (looked_up access h) ≡ true → Quiet h (looked_up access h)
unfolding looked_up
looked_up-quiet access h q = grind (arith, q, reached-quiet)

walked-quiet : (access : MemoryAccess) (level : ℕ) (entry : PteEntry) (h : UserHart) → is_quiet (walked access level entry h) ≡ true → Quiet h (walked access level entry h)
unfolding walked
walked-quiet access level entry h q = grind (arith, q, reached-quiet)

executed-quiet : (i : Instr) (does : IntDone) (h : UserHart) → is_quiet (executed i does h) ≡ true → Quiet h (executed i does h)
unfolding executed
executed-quiet i does h q = grind (arith, q, looked_up-quiet)

pub faults_keep : FaultsKeep
unfolding ask told
faults_keep h t touch e d n = grind (arith, e, d, n, looked_up-quiet, walked-quiet, executed-quiet)

pub silence_keeps : SilenceKeeps
unfolding told
silence_keeps h t e n m = grind (arith, e, n, m, looked_up-quiet, walked-quiet, executed-quiet)
