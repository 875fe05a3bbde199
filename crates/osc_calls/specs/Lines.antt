-- The text of a report. This project's own. Numbers are decimal, and those that begin with 0x are
-- hexadecimal in lower case.
use Rattle.std.specs.Prelude.{ℕ, false, List, [], ◌∷◌, codes}
use Rattle.std.specs.List.{concat}
use Rattle.std.specs.Fmt.{decimal, signed_decimal, digits}
use Rattle.osc_word.specs.declared.calls.Fault.{Fault}
use Rattle.osc_word.specs.declared.calls.Fault.TheVariants.{Access, DoubleFree, BadFree, Header, UnknownCall}
use Rattle.osc_calls.specs.declared.Place.{Place}
use Rattle.osc_calls.specs.declared.Place.TheVariants.{Dead, Live, Nowhere}
use Rattle.osc_calls.specs.declared.Report.{Report}

abbrev pub hexadecimal : ℕ → List ℕ
hexadecimal n = digits 16 false n

abbrev pub place_text : Place → List (List ℕ)
place_text (Dead object offset call) =
    codes "object " ∷ decimal object ∷ codes " offset " ∷ signed_decimal offset ∷ codes " freed by call " ∷ decimal call ∷ []
place_text (Live object offset) = codes "object " ∷ decimal object ∷ codes " offset " ∷ signed_decimal offset ∷ codes " live" ∷ []
place_text Nowhere = codes "no object" ∷ []

abbrev pub fault_text : Fault → Place → List (List ℕ)
fault_text (Access cause address) place =
    codes "cause " ∷ decimal cause ∷ codes " at 0x" ∷ hexadecimal address ∷ codes ": " ∷ place_text place
fault_text (DoubleFree pointer object call) place =
    codes "double free at 0x" ∷ hexadecimal pointer ∷ codes ": object " ∷ decimal object ∷ codes " freed by call "
    ∷ decimal call ∷ []
fault_text (BadFree pointer) place = codes "bad free at 0x" ∷ hexadecimal pointer ∷ codes ": no object starts there" ∷ []
fault_text (Header object kept found) place =
    codes "header of object " ∷ decimal object ∷ codes " kept 0x" ∷ hexadecimal kept ∷ codes " found 0x"
    ∷ hexadecimal found ∷ []
fault_text (UnknownCall number) place = codes "call " ∷ decimal number ∷ codes " unknown" ∷ []

-- a report in pieces
abbrev pub report_text : Report → List (List ℕ)
report_text report =
    codes "fault: process " ∷ decimal report.pid ∷ codes " hart " ∷ decimal report.hart ∷ codes " "
    ∷ fault_text report.fault report.place

-- its line, without the newline
unfoldable pub report_line : Report → List ℕ
report_line report = concat (report_text report)
