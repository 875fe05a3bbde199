-- What follows once the word of an instruction was loaded. RISC-V Unprivileged manual for the
-- instructions; that a misaligned access and a jump to a misaligned target trap is in osc_isa.
use Rattle.std.specs.Prelude.{ℕ, true, List, Option, Some, None}
use Rattle.osc_word.specs.declared.calls.Request.TheVariants as request
use Rattle.osc_word.specs.declared.steps.Choice.TheVariants.{Plain}
use Rattle.osc_word.specs.Registers.{with_register}
use Rattle.osc_word.specs.Environment.{call_of}
use Rattle.osc_rv.specs.declared.instr.Instr.{Instr}
use Rattle.osc_rv.specs.Instr.{instr_of}
use Rattle.osc_isa.specs.declared.IntDone.{IntDone}
use Rattle.osc_isa.specs.declared.IntDone.TheVariants as done
use Rattle.osc_isa.specs.Integer.{done_of}
use Rattle.osc_isa.specs.Traps.{Trap, breakpoint, misaligned_target, illegal_at}
use Rattle.osc_guest.specs.declared.accesses.MemoryAccess.{MemoryAccess}
use Rattle.osc_guest.specs.declared.places.Place.TheVariants as at
use Rattle.osc_guest.specs.declared.places.After.TheVariants as after
use Rattle.osc_guest.specs.User.{UserHart, Answered, goes, commits, touching}
use Rattle.osc_guest.specs.Accesses.{access_of, touch_of, alignment_trap, found_by}
use Rattle.osc_guest.specs.Looking.{calling, faulted, looked_up}

-- an access is looked up, unless its address is misaligned; alignment comes before translation
abbrev pub unless_misaligned : Option Trap → MemoryAccess → UserHart → Answered
unless_misaligned (Some trap) access h = faulted trap h
unless_misaligned None access h = looked_up access h

abbrev pub accessing : Option MemoryAccess → UserHart → Answered
accessing None h = faulted (illegal_at h.pc) h
accessing (Some access) h = unless_misaligned (alignment_trap access) access h

-- an instruction that touches no data commits
abbrev pub stepped : List ℕ → ℕ → UserHart → Answered
stepped regs pc h = commits Plain (record h { regs = regs; pc = pc; place = at.GiveBox after.Run })

-- an instruction that does this
unfoldable pub executed : Instr → IntDone → UserHart → Answered
executed i (done.Set rd value pc) h = stepped (with_register h.regs rd value) pc h
executed i (done.Go pc) h = stepped h.regs pc h
executed i done.Call h = goes (calling (request.Call (call_of h.regs)) h)
executed i done.Break h = faulted (record { cause = breakpoint; address = h.pc }) h
executed i (done.BadTarget target) h = faulted (record { cause = misaligned_target; address = target }) h
executed i does h = accessing (access_of i does) h

abbrev pub decoded : Option Instr → UserHart → Answered
decoded None h = faulted (illegal_at h.pc) h
decoded (Some i) h = executed i (done_of i h.regs h.pc) h

-- the word that holds the instruction was loaded
abbrev pub fetched : MemoryAccess → ℕ → UserHart → Answered
fetched access word h = touching (touch_of access true h) (decoded (instr_of (found_by access word)) h)
