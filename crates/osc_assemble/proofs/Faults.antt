-- The first fault of what was put in, and of a text.
use Rattle.std.proofs.Common.{◌≡◌, ℕ, ◌≤◌, Bool, true, false, None, Some, List, length, refl, sym, inl, inr, arith}
use Rattle.std.specs.Prelude.{nat_lt, if◌then◌else◌, Ok, Err}
use Rattle.osc_asm.specs.declared.item.LabelUse.{LabelUse}
use Rattle.osc_asm.specs.declared.AsmFault.{AsmFault}
use Rattle.osc_asm.specs.declared.AsmFault.TheVariants as asm_fault
use Rattle.osc_asm.specs.Answer.{Refuses as AsmRefuses}
use Rattle.osc_asm.specs.Layout.{unbound_use, far_use}
use Rattle.osc_asm.specs.File as asm
use Rattle.osc_assemble.specs.declared.TextFault.{TextFault}
use Rattle.osc_assemble.specs.declared.TextFault.TheVariants as fault
use Rattle.osc_assemble.specs.Lines.{lines_of}
use Rattle.osc_assemble.specs.Put.{Put, Puts, nothing}
use Rattle.osc_assemble.specs.Answer.{answer_of, refused_or, line_of, Refuses, IsFaultOf, IsFormFault, file_fault}

pub answer-bound : (put : Put) (line : ℕ) → put.again ≡ Some line → answer_of put ≡ Err (fault.Bound line)
answer-bound put line again = rw again refl

pub answer-label : (put : Put) (used : LabelUse) → put.again ≡ None → unbound_use put.program ≡ Some used
    → answer_of put ≡ Err (fault.Label (line_of put used))
answer-label put used again unbound = rw (again, unbound) refl

pub answer-far : (put : Put) (used : LabelUse) → put.again ≡ None → unbound_use put.program ≡ None
    → far_use put.program ≡ Some used → answer_of put ≡ Err (fault.Far (line_of put used))
answer-far put used again unbound far = rw (again, unbound, far) refl

too-long : (b : Bool) (file : List ℕ)
    → asm.refused_or (if b then Some asm_fault.TooLong else None) file ≡ Err asm_fault.TooLong
    → refused_or (if b then Some fault.FileTooLong else None) file ≡ Err fault.FileTooLong
too-long true file is = refl
too-long false file is = grind arith

taken : (b : Bool) (file found : List ℕ) → asm.refused_or (if b then Some asm_fault.TooLong else None) file ≡ Ok found
    → refused_or (if b then Some fault.FileTooLong else None) file ≡ Ok found
taken true file found is = grind arith
taken false file found is = grind arith

pub answer-long : (put : Put) → put.again ≡ None → unbound_use put.program ≡ None → far_use put.program ≡ None
    → asm.file_of put.program ≡ Err asm_fault.TooLong → answer_of put ≡ Err fault.FileTooLong
unfolding asm.file_of
answer-long put again unbound far is =
    rw (again, unbound, far)
    (too-long (nat_lt 16777216 (length (asm.file put.program))) (asm.file put.program) (rw (unbound, far) at is))

pub answer-file : (put : Put) (file : List ℕ) → put.again ≡ None → unbound_use put.program ≡ None → far_use put.program ≡ None
    → asm.file_of put.program ≡ Ok file → answer_of put ≡ Ok file
unfolding asm.file_of
answer-file put file again unbound far is =
    rw (again, unbound, far)
    (taken (nat_lt 16777216 (length (asm.file put.program))) (asm.file put.program) file (rw (unbound, far) at is))

pub answer-refused : (put : Put) (found : AsmFault) → put.again ≡ None → unbound_use put.program ≡ None
    → far_use put.program ≡ None → AsmRefuses found (asm.file_of put.program) → IsFaultOf (file_fault found) (answer_of put)
answer-refused put (asm_fault.Label label) again unbound far is = tt
answer-refused put (asm_fault.Far label) again unbound far is = tt
answer-refused put asm_fault.TooLong again unbound far is = answer-long put again unbound far is
answer-refused put asm_fault.Memory again unbound far is = tt

pub form-refuses : (text : List ℕ) (found : TextFault) → length text ≤ 16777216 → IsFormFault found (lines_of text)
    → Refuses found text
form-refuses text fault.TooLong short is = absurd is
form-refuses text (fault.Form line) short is = inr (inl (short, line, is, refl))
form-refuses text (fault.Bound line) short is = absurd is
form-refuses text (fault.Label line) short is = absurd is
form-refuses text (fault.Far line) short is = absurd is
form-refuses text fault.FileTooLong short is = absurd is
form-refuses text fault.Memory short is = is

pub read-refuses : (text : List ℕ) (put : Put) (found : TextFault) → length text ≤ 16777216
    → Puts 1 (lines_of text) nothing put → IsFaultOf found (answer_of put) → Refuses found text
read-refuses text put fault.TooLong short puts is = inr (inr (short, put, puts, sym is))
read-refuses text put (fault.Form line) short puts is = inr (inr (short, put, puts, sym is))
read-refuses text put (fault.Bound line) short puts is = inr (inr (short, put, puts, sym is))
read-refuses text put (fault.Label line) short puts is = inr (inr (short, put, puts, sym is))
read-refuses text put (fault.Far line) short puts is = inr (inr (short, put, puts, sym is))
read-refuses text put fault.FileTooLong short puts is = inr (inr (short, put, puts, sym is))
read-refuses text put fault.Memory short puts is = is
