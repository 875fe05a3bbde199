-- What a hart makes of the answer to its action. It is this project's own.
use Rattle.std.specs.Prelude.{ℕ, ◌+◌, true, false, Some, None}
use Rattle.osc_word.specs.declared.calls.Request.TheVariants as request
use Rattle.osc_word.specs.declared.calls.Call.TheVariants.{End}
use Rattle.osc_word.specs.declared.calls.Resume.{Resume}
use Rattle.osc_word.specs.declared.calls.Resume.TheVariants as resume
use Rattle.osc_word.specs.Registers.{with_register}
use Rattle.osc_word.specs.Environment.{answer_register}
use Rattle.osc_sv39.specs.Entries.{entry_of}
use Rattle.osc_paging.specs.Boxes.{BoxState}
use Rattle.osc_isa.specs.Integer.{next}
use Rattle.osc_guest.specs.declared.accesses.MemoryAccess.{MemoryAccess}
use Rattle.osc_guest.specs.declared.accesses.What.{What}
use Rattle.osc_guest.specs.declared.accesses.What.TheVariants as does
use Rattle.osc_guest.specs.declared.places.After.{After}
use Rattle.osc_guest.specs.declared.places.After.TheVariants as after
use Rattle.osc_guest.specs.declared.places.Place.{Place}
use Rattle.osc_guest.specs.declared.places.Place.TheVariants as at
use Rattle.osc_guest.specs.declared.places.Stage.{Stage}
use Rattle.osc_guest.specs.declared.places.Stage.TheVariants as stage
use Rattle.osc_guest.specs.User.{UserHart, Answered, moved, goes, commits, touching}
use Rattle.osc_guest.specs.Accesses.{touch_of, found_by, number_kept, choice_of, reservation_of, reservation_after}
use Rattle.osc_guest.specs.Looking.{sc_failed, walked}
use Rattle.osc_guest.specs.Instructions.{fetched}
use Rattle.osc_guest.specs.Orders.{ordered}

-- the answers: a box that was taken; that the thing was taken, or the gate's version is the last; a
-- word that was loaded; a gate that was taken, with its version; that the gate's version is not the
-- one that was asked for; that the kernel was given back; that the action was done
pub data Told : Type 0 where
  Box : BoxState → Told
  Busy : Told
  Word : ℕ → Told
  Gate : ℕ → Told
  OldVersion : Told
  Resumed : Resume → Told
  Done : Told

-- ---- accesses
-- an access is done, commits, and the hart goes on at a place; it found this word
abbrev pub completed : MemoryAccess → ℕ → Place → UserHart → Answered
completed access word place h = touching (touch_of access true h) (commits (choice_of access.what) (record h {
  regs = with_register h.regs access.rd (number_kept access.what (found_by access word));
  pc = next h.pc;
  place = place;
}))

-- an access is done under the gate of its frame, which had this version and is left with another one
abbrev pub gate_done : MemoryAccess → ℕ → ℕ → ℕ → ℕ → UserHart → Answered
gate_done access frame version next_version word h = completed access word (at.OpenGate frame next_version) (record h {
  reservation = reservation_after access.what (reservation_of access frame version) h.reservation;
})

-- the word was loaded under the gate: an LR is done, all else stores
abbrev pub gated : What → MemoryAccess → ℕ → ℕ → ℕ → UserHart → Answered
gated (does.Lr width) access frame version word h = gate_done access frame version version word h
gated _ access frame version word h = goes (moved (at.Access access frame (stage.GatedStore version word)) h)

-- answers that fit no action of the place, and Busy, change nothing
abbrev pub access_told : Stage → MemoryAccess → ℕ → UserHart → Told → Answered
access_told stage.Fetch access frame h (Word word) = fetched access word h
access_told stage.Load access frame h (Word word) = completed access word (at.GiveBox after.Run) h
access_told (stage.TakeGate only) access frame h (Gate version) =
    goes (moved (at.Access access frame (stage.GatedLoad version)) h)
access_told (stage.TakeGate (Some only)) access frame h OldVersion = sc_failed access h
access_told (stage.GatedLoad version) access frame h (Word word) = gated access.what access frame version word h
access_told (stage.GatedStore version found) access frame h Done =
    gate_done access frame version (version + 1) found h
access_told _ access frame h t = goes h

-- ---- boxes and calls
-- where a hart is once it gave its box
abbrev pub place_then : After → Place
place_then after.Run = at.Run
place_then (after.Call asked) = at.Call asked
place_then after.Idle = at.Idle
place_then after.Rest = at.Rest

abbrev pub given : After → UserHart → UserHart
given follows h = record h { place = place_then follows; held = None }

-- the kernel was given back, and the call of a thread has this answer
abbrev pub resumed : Resume → UserHart → UserHart
resumed (resume.Return value) h = record h {
  regs = with_register h.regs answer_register value;
  pc = next h.pc;
  place = at.Run;
}
resumed resume.Again h = h
resumed resume.Idle h = moved at.Idle h
resumed (resume.Fault fault) h = moved (at.Call (request.Call (End fault))) h

abbrev pub told_at : Place → UserHart → Told → Answered
told_at at.Run h (Box box) = ordered true box.order box h
told_at at.Idle h (Box box) = ordered false box.order box h
told_at (at.Walk access level table) h (Word word) = walked access level (entry_of word) h
told_at (at.Access access frame stage) h t = access_told stage access frame h t
told_at (at.OpenGate frame version) h Done = goes (moved (at.GiveBox after.Run) h)
told_at (at.GiveBox follows) h Done = goes (given follows h)
told_at (at.Call request.Idle) h (Resumed said) = goes (moved at.Idle h)
told_at (at.Call (request.Call call)) h (Resumed said) = goes (resumed said h)
told_at _ h t = goes h

-- the hart after this answer, with what it tells of it
unfoldable pub told : UserHart → Told → Answered
told h t = told_at h.place h t
