-- The texts that a person reads of what is refused. This project's own. Numbers are decimal, and those
-- that begin with 0x are hexadecimal in lower case.
use Rattle.std.specs.Prelude.{ℕ, false, List, [], ◌∷◌, codes}
use Rattle.std.specs.Fmt.{decimal, digits}
use Rattle.std.specs.List.{concat}
use Rattle.osc_image.specs.declared.ImageFault.{ImageFault}
use Rattle.osc_image.specs.declared.ImageFault.TheVariants.{TooLong, Truncated, Magic, Class, FileType, Machine, Version, Flags, HeaderSize, Segment, WriteExec, Entry, Memory}
use Rattle.osc_image.specs.declared.SegmentWhy.{SegmentWhy}
use Rattle.osc_image.specs.declared.SegmentWhy.TheVariants.{TableEnd, Dynamic, Interpreter, ThreadStorage, Sizes, FileEnd, Range}
use Rattle.osc_assemble.specs.declared.TextFault.{TextFault}
use Rattle.osc_assemble.specs.declared.TextFault.TheVariants as text
use Rattle.osc_machine.specs.Due.{ended_line}
use Rattle.osc_world.specs.declared.ObjectWhy.{ObjectWhy}
use Rattle.osc_world.specs.declared.ObjectWhy.TheVariants as object

abbrev pub why_text : SegmentWhy → List ℕ
why_text TableEnd = codes "table end"
why_text Dynamic = codes "dynamic"
why_text Interpreter = codes "interpreter"
why_text ThreadStorage = codes "thread storage"
why_text Sizes = codes "sizes"
why_text FileEnd = codes "file end"
why_text Range = codes "range"

abbrev pub segment_text : ℕ → SegmentWhy → List (List ℕ)
segment_text index why = codes "segment " ∷ decimal index ∷ codes " " ∷ why_text why ∷ []

-- why a file is no image, in pieces; a page is told by its address, its number and three more digits
abbrev pub fault_text : ImageFault → List (List ℕ)
fault_text TooLong = codes "too long" ∷ []
fault_text Truncated = codes "truncated" ∷ []
fault_text Magic = codes "magic" ∷ []
fault_text Class = codes "class" ∷ []
fault_text FileType = codes "type" ∷ []
fault_text Machine = codes "machine" ∷ []
fault_text Version = codes "version" ∷ []
fault_text Flags = codes "flags" ∷ []
fault_text HeaderSize = codes "header size" ∷ []
fault_text (Segment index why) = segment_text index why
fault_text (WriteExec page) = codes "write and execute at 0x" ∷ digits 16 false page ∷ codes "000" ∷ []
fault_text (Entry address) = codes "entry 0x" ∷ digits 16 false address ∷ []
fault_text Memory = codes "no memory" ∷ []

-- why a line of a text is refused, in pieces
abbrev pub line_fault : ℕ → List ℕ → List (List ℕ)
line_fault number why = codes "line " ∷ decimal number ∷ why ∷ []

-- why a text is not assembled, in pieces
abbrev pub text_fault : TextFault → List (List ℕ)
text_fault text.TooLong = codes "too long" ∷ []
text_fault (text.Form number) = line_fault number (codes " form")
text_fault (text.Bound number) = line_fault number (codes " bound")
text_fault (text.Label number) = line_fault number (codes " label")
text_fault (text.Far number) = line_fault number (codes " far")
text_fault text.FileTooLong = codes "file too long" ∷ []
text_fault text.Memory = codes "no memory" ∷ []

-- why an event has no meaning in terms of objects
abbrev pub object_text : ObjectWhy → List ℕ
object_text object.Trap = codes "trap"
object_text object.PointerUse = codes "pointer use"
object_text object.DeadObject = codes "dead object"
object_text object.Outside = codes "outside"
object_text object.PointerBytes = codes "pointer bytes"
object_text object.PointerShared = codes "pointer in shared region"
object_text object.BadFree = codes "bad free"
object_text object.BadCall = codes "bad call"

-- the line of its pieces
abbrev pub line : List (List ℕ) → List ℕ
line pieces = ended_line (concat pieces)
