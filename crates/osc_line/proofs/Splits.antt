-- A text is split at the first of a byte.
use Rattle.std.proofs.Common.{◌≡◌, ℕ, suc, ◌+◌, ◌<◌, ◌==◌, Bool, true, false, if◌then◌else◌, List, [], ◌∷◌, ◌++◌, length, get_or, drop, refl, sym, ap, ◌∙◌, arith, add-one}
use Rattle.std.proofs.Math.Seq.{drop-cons}
use Rattle.std.proofs.lemmas.List.{append_cancel_right}
use Rattle.osc_text.specs.declared.spelling.Operands.{Operands}
use Rattle.osc_text.specs.declared.spelling.Operands.TheVariants.{Nothing, One, Two, Three}
use Rattle.osc_text.specs.Text.{operands_text}
use Rattle.osc_text.specs.Names.{width_name}
use Rattle.osc_rv.specs.declared.instr.Width.{Width}
use Rattle.osc_rv.specs.declared.instr.Width.TheVariants.{W, D}
use Rattle.osc_rv.specs.declared.instr.AmoOp.TheVariants as amo
use Rattle.osc_line.specs.declared.mnemonic.Ending.{Ending}
use Rattle.osc_line.specs.declared.mnemonic.Stem.{Stem}
use Rattle.osc_line.specs.declared.mnemonic.Stem.TheVariants.{Amo, Lr, Sc}
use Rattle.osc_line.specs.Parts.{from_byte, stem_name, ending_name}

-- no byte of a text is a certain one
abbrev pub lacks : ℕ → List ℕ → Bool
lacks byte [] = true
lacks byte (first ∷ rest) = if first == byte then false else lacks byte rest

-- a text is empty or begins with a byte
abbrev pub starts : ℕ → List ℕ → Bool
starts byte [] = true
starts byte (first ∷ rest) = first == byte

pub from-at : (byte : ℕ) (rest : List ℕ) → starts byte rest ≡ true → from_byte byte rest ≡ rest
unfolding from_byte
from-at byte [] at = refl
from-at byte (first ∷ rest) at = rw at refl

other : (byte first : ℕ) (rest : List ℕ) → lacks byte (first ∷ rest) ≡ true → (first == byte ≡ false) × (lacks byte rest ≡ true)
other byte first rest none = grind (arith, none)

from-append : (byte : ℕ) (word rest : List ℕ) → lacks byte word ≡ true → starts byte rest ≡ true → from_byte byte (word ++ rest) ≡ rest
unfolding from_byte
from-append byte [] rest none at = from-at byte rest at
from-append byte (first ∷ word) rest none at =
    let parts = other byte first word none in rw parts.0 (from-append byte word rest parts.1 at)

-- the two parts of a text, where the first lacks a byte with which the second begins
pub parts_of : (byte : ℕ) (text front after word rest : List ℕ) → text ≡ front ++ after → after ≡ from_byte byte text
    → lacks byte word ≡ true → starts byte rest ≡ true → text ≡ word ++ rest → (front ≡ word) × (after ≡ rest)
parts_of byte text front after word rest whole from none at is =
    let second : after ≡ rest = from ∙ (ap (from_byte byte) is ∙ from-append byte word rest none at) in
    (append_cancel_right front word after (sym whole ∙ (is ∙ ap (λ r. word ++ r) (sym second))), second)

-- ---- one byte at a time

pub passed : (byte at : ℕ) (text : List ℕ) → at < length text → (get_or text at 0 == byte) ≡ false
    → from_byte byte (drop (at + 1) text) ≡ from_byte byte (drop at text)
unfolding from_byte
passed byte at text within differs =
    sym (ap (from_byte byte) (drop-cons text at 0 within) ∙ (rw differs refl ∙ ap (λ k. from_byte byte (drop k text)) (sym (add-one at))))

pub stopped : (byte at : ℕ) (text : List ℕ) → at < length text → (get_or text at 0 == byte) ≡ true → starts byte (drop at text) ≡ true
stopped byte at text within same = ap (starts byte) (drop-cons text at 0 within) ∙ same

-- ---- where the parts of an instruction's text end

pub operands_start : (operands : Operands) → starts 32 (operands_text operands) ≡ true
operands_start Nothing = refl
operands_start (One first) = refl
operands_start (Two first second) = refl
operands_start (Three first second third) = refl

width_starts : (width : Width) (rest : List ℕ) → starts 46 (width_name width ++ rest) ≡ true
width_starts W rest = refl
width_starts D rest = refl

pub ending_starts : (ending : Ending) → starts 46 (ending_name ending) ≡ true
ending_starts ending = width_starts ending.width _

pub stem_lacks : (stem : Stem) → lacks 46 (stem_name stem) ≡ true
stem_lacks (Amo amo.Add) = refl
stem_lacks (Amo amo.Swap) = refl
stem_lacks (Amo amo.Xor) = refl
stem_lacks (Amo amo.Or) = refl
stem_lacks (Amo amo.And) = refl
stem_lacks (Amo amo.Min) = refl
stem_lacks (Amo amo.Max) = refl
stem_lacks (Amo amo.Minu) = refl
stem_lacks (Amo amo.Maxu) = refl
stem_lacks Lr = refl
stem_lacks Sc = refl
