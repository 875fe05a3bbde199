-- A store-conditional goes on only with the version of its reservation.
use Rattle.std.proofs.Common.{ℕ, arith}
use Rattle.osc_sv39.specs.declared.entries.PteEntry.{PteEntry}
use Rattle.osc_rv.specs.declared.instr.Instr.{Instr}
use Rattle.osc_isa.specs.declared.IntDone.{IntDone}
use Rattle.osc_guest.specs.declared.accesses.MemoryAccess.{MemoryAccess}
use Rattle.osc_guest.specs.User.{UserHart}
use Rattle.osc_guest.specs.Asks.{ask}
use Rattle.osc_guest.specs.Looking.{reached, looked_up, walked}
use Rattle.osc_guest.specs.Instructions.{executed}
use Rattle.osc_guest.specs.Told.{told}
use Rattle.osc_guest.specs.AccessLaws.{ReservationHolds, ReservationsKept}

reached-reserved : (access : MemoryAccess) (frame : ℕ) (h : UserHart) → ReservationHolds (reached access frame h).hart
unfolding reached
reached-reserved access frame h = grind arith

looked_up-reserved : (access : MemoryAccess) (h : UserHart) → ReservationHolds (looked_up access h).hart
unfolding looked_up
looked_up-reserved access h = grind (arith, reached-reserved)

walked-reserved : (access : MemoryAccess) (level : ℕ) (entry : PteEntry) (h : UserHart) → ReservationHolds (walked access level entry h).hart
unfolding walked
walked-reserved access level entry h = grind (arith, reached-reserved)

executed-reserved : (i : Instr) (does : IntDone) (h : UserHart) → ReservationHolds (executed i does h).hart
unfolding executed
executed-reserved i does h = grind (arith, looked_up-reserved)

pub reservations_kept : ReservationsKept
unfolding ask told
reservations_kept h t f k = grind (arith, f, k, looked_up-reserved, walked-reserved, executed-reserved)
