-- Values in bytes.
use Rattle.std.proofs.Common.{◌≡◌, ℕ, ◌<◌, ◌^◌, ◌+◌, Bool, true, false, zero, suc, List, [], ◌∷◌, Some, None, refl, ap, sym, ◌∙◌, arith, map, length, slice_get, cond}
use Rattle.std.proofs.lemmas.Bool.Decides.{nat_tests}
use Rattle.byteorder.specs.Endian.{little_bytes, little_number}
use Rattle.osc_world.specs.declared.Value.{Value}
use Rattle.osc_world.specs.declared.Value.TheVariants.{Num, Ptr}
use Rattle.osc_world.specs.declared.Byte.{Byte}
use Rattle.osc_world.specs.declared.Byte.TheVariants.{Number, Part}
use Rattle.osc_world.specs.Values.{parts, gather, number_or_pointer, numbers_in, is_part, are_parts, pointer_in}

pub gather-parts : (object offset : ℕ) → gather (parts object offset) ≡ Some (Ptr object offset)
unfolding numbers_in are_parts
gather-parts object offset = grind (arith, nat_tests)

pub gather-numbers : (number : ℕ) → number < 2 ^ 64 → gather (map Number (little_bytes 8 number)) ≡ Some (Num number)
unfolding numbers_in
gather-numbers number l = let e : little_number 8 (little_bytes 8 number) ≡ number = omega arith in ap (λ n. Some (Num n)) e

is_part-is : (object offset index : ℕ) (byte : Byte) → is_part object offset index byte ≡ true → byte ≡ Part object offset index
is_part-is object offset index (Number number) e = absurd (cc)
is_part-is object offset index (Part o k i) e = grind (arith, nat_tests)

are_parts-length : (object offset index : ℕ) (bytes : List Byte) → are_parts object offset index bytes ≡ true → index + length bytes ≡ 8
unfolding are_parts
are_parts-length object offset index [] e = grind (arith, nat_tests)
are_parts-length object offset index (byte ∷ bytes) e = grind (arith, nat_tests, are_parts-length object offset (index + 1) bytes)

-- the parts of a pointer from an index on
parts_from : ℕ → ℕ → ℕ → ℕ → List Byte
parts_from object offset index zero = []
parts_from object offset index (suc count) = Part object offset index ∷ parts_from object offset (index + 1) count

are_parts-are : (object offset index : ℕ) (bytes : List Byte) → are_parts object offset index bytes ≡ true → bytes ≡ parts_from object offset index (length bytes)
unfolding are_parts parts_from
are_parts-are object offset index [] e = refl
are_parts-are object offset index (byte ∷ bytes) e = grind (arith, nat_tests, is_part-is object offset index byte, are_parts-are object offset (index + 1) bytes)

all-parts : (object offset : ℕ) (bytes : List Byte) → are_parts object offset 0 bytes ≡ true → bytes ≡ parts object offset
unfolding parts_from
all-parts object offset bytes e =
    let whole = are_parts-length object offset 0 bytes e in
    let count : length bytes ≡ 8 = omega arith in
    let all = are_parts-are object offset 0 bytes e in
    all ∙ ap (parts_from object offset 0) count

pointer-in : (bytes : List Byte) (value : Value) → pointer_in bytes ≡ Some value → (object : ℕ) × (offset : ℕ) × (bytes ≡ parts object offset) × (value ≡ Ptr object offset)
pointer-in [] value e = absurd (cc)
pointer-in (Number number ∷ bytes) value e = absurd (cc)
pointer-in (Part o k i ∷ bytes) value e = chosen (are_parts o k 0 (Part o k i ∷ bytes)) refl e
  where
    chosen : (test : Bool) → are_parts o k 0 (Part o k i ∷ bytes) ≡ test → cond test (Some (Ptr o k)) None ≡ Some value → (object : ℕ) × (offset : ℕ) × ((Part o k i ∷ bytes) ≡ parts object offset) × (value ≡ Ptr object offset)
    chosen true t e = (o, k, all-parts o k (Part o k i ∷ bytes) t, cc)
    chosen false t e = absurd (cc)

numbers_in-part : (bytes : List Byte) (place object offset index : ℕ) → slice_get bytes place ≡ Some (Part object offset index) → numbers_in bytes ≡ None
unfolding numbers_in
numbers_in-part [] place object offset index e = absurd (cc)
numbers_in-part (Number number ∷ bytes) zero object offset index e = absurd (cc)
numbers_in-part (Number number ∷ bytes) (suc place) object offset index e = rw (numbers_in-part bytes place object offset index e) refl
numbers_in-part (Part o k i ∷ bytes) place object offset index e = refl

parts-hold : (o k place object offset index : ℕ) → slice_get (parts o k) place ≡ Some (Part object offset index) → (o ≡ object) × (k ≡ offset)
parts-hold o k zero object offset index e = (cc, cc)
parts-hold o k (suc zero) object offset index e = (cc, cc)
parts-hold o k (suc (suc zero)) object offset index e = (cc, cc)
parts-hold o k (suc (suc (suc zero))) object offset index e = (cc, cc)
parts-hold o k (suc (suc (suc (suc zero)))) object offset index e = (cc, cc)
parts-hold o k (suc (suc (suc (suc (suc zero))))) object offset index e = (cc, cc)
parts-hold o k (suc (suc (suc (suc (suc (suc zero)))))) object offset index e = (cc, cc)
parts-hold o k (suc (suc (suc (suc (suc (suc (suc zero))))))) object offset index e = (cc, cc)
parts-hold o k (suc (suc (suc (suc (suc (suc (suc (suc place)))))))) object offset index e = absurd (cc)

pub gather-part : (bytes : List Byte) (place object offset index : ℕ) (value : Value) → slice_get bytes place ≡ Some (Part object offset index) → gather bytes ≡ Some value → (bytes ≡ parts object offset) × (value ≡ Ptr object offset)
gather-part bytes place object offset index value e g =
    let none = numbers_in-part bytes place object offset index e in
    let pointer : pointer_in bytes ≡ Some value = sym (ap (number_or_pointer bytes) none) ∙ g in
    let found = pointer-in bytes value pointer in
    let same = parts-hold found.0 found.1 place object offset index (sym (ap (λ bs. slice_get bs place) found.2) ∙ e) in
    (found.2 ∙ ap (λ o. parts o found.1) same.0 ∙ ap (parts object) same.1, found.3 ∙ ap (λ o. Ptr o found.1) same.0 ∙ ap (Ptr object) same.1)
