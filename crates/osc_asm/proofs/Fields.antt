-- A field of a file that begins with fields is read back at its place.
use Rattle.std.proofs.Common.{ℕ, zero, suc, ◌≡◌, ◌+◌, ◌%◌, ◌<◌, arith, refl, sym, ◌∙◌, ap, List, [], ◌∷◌, ◌++◌, length, get_or, drop, append_assoc}
use Rattle.std.proofs.Math.Seq.{drop-append-add}
use Rattle.std.proofs.Math.Nat.{div-one}
use Rattle.byteorder.specs.Endian.{little_number}
use Rattle.byteorder.specs.Numbers.{little_from-bytes}
use Rattle.osc_image.specs.Form.{field}
use Rattle.osc_asm.specs.declared.header.ElfField.{ElfField}
use Rattle.osc_asm.specs.declared.header.ElfField.TheVariants.{Byte, Half, Word, Xword}
use Rattle.osc_asm.specs.File.{field_bytes, fields_bytes}

abbrev pub size_of : ElfField → ℕ
size_of (Byte value) = 1
size_of (Half value) = 2
size_of (Word value) = 4
size_of (Xword value) = 8

-- the number that is kept of a value
abbrev pub number_of : ElfField → ℕ
number_of (Byte value) = value
number_of (Half value) = value % 65536
number_of (Word value) = value % 4294967296
number_of (Xword value) = value % 18446744073709551616

-- where the field of an index stands
abbrev pub place : ℕ → List ElfField → ℕ
place zero fields = 0
place (suc i) [] = 0
place (suc i) (field ∷ fields) = size_of field + place i fields

length-field : (f : ElfField) → length (field_bytes f) ≡ size_of f
length-field (Byte value) = refl
length-field (Half value) = refl
length-field (Word value) = refl
length-field (Xword value) = refl

first : (f : ElfField) (rest : List ℕ) → little_number (size_of f) (field_bytes f ++ rest) ≡ number_of f
first (Byte value) rest = omega arith
first (Half value) rest = little_from-bytes 2 0 value rest ∙ ap (λ x. x % 65536) (div-one value)
first (Word value) rest = little_from-bytes 4 0 value rest ∙ ap (λ x. x % 4294967296) (div-one value)
first (Xword value) rest = little_from-bytes 8 0 value rest ∙ ap (λ x. x % 18446744073709551616) (div-one value)

pub read : (i : ℕ) (fields : List ElfField) (d : ElfField) (rest : List ℕ) → i < length fields
    → field (size_of (get_or fields i d)) (place i fields) (fields_bytes fields ++ rest) ≡ number_of (get_or fields i d)
unfolding field fields_bytes
read i [] d rest h = absurd (omega arith)
read zero (f ∷ fields) d rest h =
    ap (little_number (size_of f)) (append_assoc (field_bytes f) (fields_bytes fields) rest) ∙ first f (fields_bytes fields ++ rest)
read (suc i) (f ∷ fields) d rest h =
    ap (λ xs. little_number (size_of (get_or fields i d)) (drop (size_of f + place i fields) xs))
    (append_assoc (field_bytes f) (fields_bytes fields) rest)
    ∙ (ap (λ n. little_number (size_of (get_or fields i d)) (drop (n + place i fields) (field_bytes f ++ (fields_bytes fields ++ rest))))
    (sym (length-field f))
    ∙ (ap (little_number (size_of (get_or fields i d))) (drop-append-add (field_bytes f) (fields_bytes fields ++ rest) (place i fields))
    ∙ read i fields d rest (omega arith)))
