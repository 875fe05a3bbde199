-- The bytes of a word: a number that is put among them neither reaches the others nor leaves the word.
use Rattle.std.proofs.Common.{ℕ, suc, ◌≡◌, ◌+◌, ◌*◌, ◌-◌, ◌/◌, ◌%◌, ◌^◌, ◌<◌, ◌≤◌, ◌⊎◌, true, inl, inr, arith, refl}
use Rattle.std.proofs.lemmas.Bool.Decides.{nat_tests}
use Rattle.std.proofs.lemmas.Nat.{pow-add}
use Rattle.std.proofs.Math.Nat.{one-le-pow, mul-le-mul_right, div-lt_iff_lt-mul}
use Rattle.osc_guest.specs.AccessLaws.{is_access_width}
use Rattle.osc_hart.proofs.Powers.{pow_of_pow}

pub byte_power : (byte : ℕ) → (256 ^ byte ≡ 2 ^ (8 * byte)) × (0 < 256 ^ byte)
byte_power byte = (pow_of_pow 8 byte, one-le-pow byte 256 (omega arith))

widths : (w : ℕ) → is_access_width w ≡ true → (w ≡ 1) ⊎ ((w ≡ 2) ⊎ ((w ≡ 4) ⊎ (w ≡ 8)))
widths w known = grind (arith, nat_tests)

ends_within_one : (address width : ℕ) → address % width ≡ 0 → (width ≡ 1) ⊎ ((width ≡ 2) ⊎ ((width ≡ 4) ⊎ (width ≡ 8))) → address % 8 + width ≤ 8
ends_within_one address width aligned (inl one) = rw one (omega arith)
ends_within_one address width aligned (inr (inl two)) =
    let even : address % 2 ≡ 0 = rw two at aligned in rw two (omega arith)
ends_within_one address width aligned (inr (inr (inl four))) =
    let even : address % 4 ≡ 0 = rw four at aligned in rw four (omega arith)
ends_within_one address width aligned (inr (inr (inr eight))) =
    let even : address % 8 ≡ 0 = rw eight at aligned in rw eight (omega arith)

-- an aligned access ends within its word
pub ends_within : (address width : ℕ) → is_access_width width ≡ true → address % width ≡ 0 → address % 8 + width ≤ 8
ends_within address width known aligned = ends_within_one address width aligned (widths width known)

sum_below : (a b c word number : ℕ) → 0 < a → 0 < b → number < b → word < a * b * c → word % a + number * a + word / (a * b) * (a * b) < a * b * c
sum_below a b c word number pa pb fits small =
    let pab : 0 < a * b = grind arith in
    let top : word / (a * b) < c = (div-lt_iff_lt-mul pab).1 (omega arith) in
    let h : suc (word / (a * b)) * (a * b) ≤ c * (a * b) = mul-le-mul_right (a * b) top in
    let k : suc number * a ≤ b * a = mul-le-mul_right a fits in
    omega arith

pub word_whole : (byte width word number : ℕ) → byte + width ≤ 8 → number < 256 ^ width → word < 2 ^ 64 → word % 256 ^ byte + number * 256 ^ byte + word / 256 ^ (byte + width) * 256 ^ (byte + width) < 2 ^ 64
word_whole byte width word number within fits small =
    let rest : byte + width + (8 - byte - width) ≡ 8 = omega arith in
    let whole : 256 ^ byte * 256 ^ width * 256 ^ (8 - byte - width) ≡ 2 ^ 64 =
    rw (← pow-add 256 byte width, ← pow-add 256 (byte + width) (8 - byte - width), rest) refl in
    rw (pow-add 256 byte width, ← whole)
    (sum_below (256 ^ byte) (256 ^ width) (256 ^ (8 - byte - width)) word number
    (one-le-pow byte 256 (omega arith)) (one-le-pow width 256 (omega arith)) fits (rw whole small))

-- and so for an aligned access
pub part_whole : (address width word number : ℕ) → is_access_width width ≡ true → address % width ≡ 0 → number < 256 ^ width → word < 2 ^ 64 → word % 256 ^ (address % 8) + number * 256 ^ (address % 8) + word / 256 ^ (address % 8 + width) * 256 ^ (address % 8 + width) < 2 ^ 64
part_whole address width word number known aligned fits small =
    word_whole (address % 8) width word number (ends_within address width known aligned) fits small
