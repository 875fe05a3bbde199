-- The bytes of a stored value, put one by one.
use Rattle.std.proofs.Common.{◌≡◌, ℕ, ◌^◌, ◌/◌, zero, suc, ◌+◌, ◌-◌, ◌<◌, ◌≤◌, List, [], ◌∷◌, refl, ap, arith, map, length, get_or, set}
use Rattle.std.proofs.lemmas.List.{set_past}
use Rattle.std.proofs.Math.Nat.{pow-le-pow_right, div-eq_of_lt}
use Rattle.std.specs.Int.{byte_at, bytes_low_first}
use Rattle.osc_world.specs.declared.Value.{Value}
use Rattle.osc_world.specs.declared.Value.TheVariants.{Num, Ptr}
use Rattle.osc_world.specs.declared.Byte.{Byte}
use Rattle.osc_world.specs.declared.Byte.TheVariants.{Number}
use Rattle.osc_world.specs.Values.{spread}
use Rattle.osc_world.specs.Accesses.{overlaid}
use Rattle.osc_values.specs.Stored.{byte_in, byte_count}

pub get-byte : (count from index number d : ℕ) → index < count → get_or (bytes_low_first from count number) index d ≡ byte_at (from + index) number
get-byte zero from index number d inside = absurd (omega arith)
get-byte (suc count) from zero number d inside = let e : from + 0 ≡ from = omega arith in rw e refl
get-byte (suc count) from (suc index) number d inside =
    let e : from + suc index ≡ suc from + index = omega arith in
    rw e (get-byte count (suc from) index number d (omega arith))

-- a number below 2^64 has eight bytes, and zeros above them
pub byte-high : (index number : ℕ) → 8 ≤ index → number < 18446744073709551616 → byte_at index number ≡ 0
byte-high zero number high fits = absurd (omega arith)
byte-high (suc index) number high fits =
    let some : 0 < 256 = omega arith in
    let grows : 256 ^ 8 ≤ 256 ^ suc index = pow-le-pow_right {n = 256} some {i = 8} {j = suc index} high in
    let below : number < 256 ^ suc index = omega arith in
    let none : number / 256 ^ suc index ≡ 0 = div-eq_of_lt below in
    rw none refl

-- so many bytes of a stored value, from an index on
unfoldable pub bytes_from : Value → ℕ → ℕ → List Byte
bytes_from value index zero = []
bytes_from value index (suc count) = byte_in value index ∷ bytes_from value (index + 1) count

numbers_from : (count index number : ℕ) → map Number (bytes_low_first index count number) ≡ bytes_from (Num number) index count
unfolding bytes_from
numbers_from zero index number = refl
numbers_from (suc count) index number =
    let e : index + 1 ≡ suc index = omega arith in
    rw e (ap (λ bs. Number (byte_at index number) ∷ bs) (numbers_from count (suc index) number))

pub spread-is : (width : ℕ) (value : Value) → spread width value ≡ bytes_from value 0 (byte_count width value)
unfolding bytes_from
spread-is width (Num number) = numbers_from width 0 number
spread-is width (Ptr object offset) = refl

-- a byte was put
pub overlaid-next : (bytes : List Byte) (offset index count : ℕ) (value : Value) → index < count
    → overlaid (set bytes (offset + index) (byte_in value index)) (offset + (index + 1)) (bytes_from value (index + 1) (count - (index + 1)))
    ≡ overlaid bytes (offset + index) (bytes_from value index (count - index))
unfolding overlaid bytes_from
overlaid-next bytes offset index count value inside =
    let more : count - index ≡ suc (count - (index + 1)) = omega arith in
    let next : offset + (index + 1) ≡ offset + index + 1 = omega arith in
    rw (more, next) refl

pub overlaid-end : (bytes : List Byte) (at index count : ℕ) (value : Value) → index ≡ count → overlaid bytes at (bytes_from value index (count - index)) ≡ bytes
unfolding overlaid bytes_from
overlaid-end bytes at index count value all =
    let none : count - index ≡ 0 = omega arith in rw none refl

pub overlaid-start : (bytes : List Byte) (offset width : ℕ) (value : Value)
    → overlaid bytes (offset + 0) (bytes_from value 0 (byte_count width value - 0)) ≡ overlaid bytes offset (spread width value)
overlaid-start bytes offset width value =
    let here : offset + 0 ≡ offset = omega arith in
    let all : byte_count width value - 0 ≡ byte_count width value = omega arith in
    rw (here, all, spread-is width value) refl

-- all bytes lie past the end
pub overlaid-past : (bytes : List Byte) (offset : ℕ) (others : List Byte) → length bytes ≤ offset → overlaid bytes offset others ≡ bytes
unfolding overlaid
overlaid-past bytes offset [] past = refl
overlaid-past bytes offset (other ∷ others) past =
    rw (set_past bytes offset other past) (overlaid-past bytes (offset + 1) others (omega arith))
