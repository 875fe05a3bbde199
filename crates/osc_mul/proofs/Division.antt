-- Quotients and remainders that are rounded towards zero.
use Rattle.std.proofs.Common.{◌≡◌, ◌≢◌, ℕ, zero, suc, ◌-◌, ◌*◌, ◌/◌, ◌%◌, ◌^◌, ◌<◌, ◌≤◌, ◌==◌, ◌∙◌, ◌⊎◌, inl, inr, true, false, ℤ, pos, negsuc, neg_ℤ, refl, sym, ap, arith}
use Rattle.std.specs.Prelude.{nat_lt, unsigned_abs, int_div, int_rem}
use Rattle.std.specs.Int.{w64, is_negative, cast_unsigned}
use Rattle.std.proofs.Math.Nat.{div-one, div-le_self}
use Rattle.std.proofs.lemmas.Bool.{cond_both, ltb-true, ltb-false, eqb-true}
use Rattle.std.proofs.lemmas.Int.{of_z-to_z, int_wrap_fits, quot-rem, rem_below}
use Rattle.std.proofs.lemmas.Nat.{mul-le, div_below}
use lib.Signed.{mag, mag_rem}
use Rattle.osc_isa.specs.Numbers.{signed, word}
use Rattle.osc_isa.specs.Multiply.{low_bits, quotient, remainder, signed_word}
use Rattle.osc_mul.specs.Divided.{Divided}
use Rattle.osc_mul.proofs.Whole.{signed_low, word_low, word_below, signed_word_low, signed_word_mag}

mag_neg : (n : ℕ) → mag (neg_ℤ (pos n)) ≡ n - 1
mag_neg zero = refl
mag_neg (suc n) = omega arith

-- the quotient has place in as many bits as the dividend, but for the least number by -1
quotient_fits : (h : ℕ) (a b : ℤ) → mag a < 2 ^ h → (a ≡ negsuc (2 ^ h - 1) → b ≢ negsuc 0) → mag (int_div a b) < 2 ^ h
quotient_fits h (pos a) (pos b) f n = omega (arith, div-le_self a b)
quotient_fits h (pos a) (negsuc b) f n = omega (arith, mag_neg (a / suc b), div-le_self a (suc b))
quotient_fits h (negsuc a) (pos b) f n = omega (arith, mag_neg (suc a / b), div-le_self (suc a) b)
quotient_fits h (negsuc a) (negsuc zero) f n =
    let below : a ≡ 2 ^ h - 1 → ⊥ = λ e. n (ap negsuc e) refl in
    rw (div-one (suc a)) (omega arith)
quotient_fits h (negsuc a) (negsuc (suc b)) f n =
    let wide : 2 ^ h * 2 ≤ 2 ^ h * suc (suc b) = mul-le (2 ^ h) 2 (2 ^ h) (suc (suc b)) (omega arith) (omega arith) in
    div_below (suc a) (suc (suc b)) (2 ^ h) (omega arith) (omega arith)

not_negative : (n : ℕ) → is_negative (pos n) ≡ false
not_negative n = grind arith

remainder_sign : (a b : ℤ) → (int_rem a b ≡ pos 0) ⊎ (is_negative (int_rem a b) ≡ is_negative a)
remainder_sign (pos n) b = inr (not_negative (n % unsigned_abs b) ∙ sym (not_negative n))
remainder_sign (negsuc n) b = by (suc n % unsigned_abs b)
  where
    by : (m : ℕ) → (neg_ℤ (pos m) ≡ pos 0) ⊎ (is_negative (neg_ℤ (pos m)) ≡ true)
    by zero = inl refl
    by (suc m) = inr refl

divided : (a b : ℤ) → 0 < unsigned_abs b → Divided a b (int_div a b) (int_rem a b)
divided a b h = record { whole = quot-rem a b; smaller = rem_below a b h; sign = remainder_sign a b }

-- the bits of quotient and remainder, where the divisor is not 0
quotient_is : (a b : ℤ) → 0 < unsigned_abs b → quotient a b ≡ low_bits (int_div a b)
quotient_is a b h =
    cond_both (unsigned_abs b == 0) (2 ^ 64 - 1) (low_bits (int_div a b)) (λ n. n ≡ low_bits (int_div a b)) (λ e. absurd (omega (arith, eqb-true (unsigned_abs b) 0 e))) (λ e. refl)

remainder_is : (a b : ℤ) → 0 < unsigned_abs b → remainder a b ≡ low_bits (int_rem a b)
remainder_is a b h =
    cond_both (unsigned_abs b == 0) a (int_rem a b) (λ z. low_bits z ≡ low_bits (int_rem a b)) (λ e. absurd (omega (arith, eqb-true (unsigned_abs b) 0 e))) (λ e. refl)

signed_bits : (whole : ℤ) → mag whole < 2 ^ 63 → signed (low_bits whole) ≡ whole
signed_bits whole h = signed_low whole ∙ int_wrap_fits w64 whole (record { sfits = h })

signed_above : (n : ℕ) → n < 2 ^ 64 → n ≢ 0 → 0 < unsigned_abs (signed n)
signed_above n h z =
    cond_both (nat_lt n (2 ^ 63)) (pos n) (negsuc (2 ^ 64 - suc n)) (λ z. 0 < unsigned_abs z) (λ e. omega (arith, ltb-true n (2 ^ 63) e)) (λ e. omega (arith, ltb-false n (2 ^ 63) e))

-- the register that holds a signed number
register_of : (n : ℕ) (z : ℤ) → n < 2 ^ 64 → signed n ≡ z → n ≡ cast_unsigned w64 z
register_of n z h e = sym (of_z-to_z w64 n h) ∙ ap (cast_unsigned w64) e

signed_mag : (n : ℕ) → n < 2 ^ 64 → mag (signed n) < 2 ^ 63
signed_mag n h =
    cond_both (nat_lt n (2 ^ 63)) (pos n) (negsuc (2 ^ 64 - suc n)) (λ z. mag z < 2 ^ 63) (λ e. omega (arith, ltb-true n (2 ^ 63) e)) (λ e. omega (arith, ltb-false n (2 ^ 63) e))

pub signed_divided : (a b : ℕ) → a < 2 ^ 64 → b < 2 ^ 64 → b ≢ 0 → (a ≡ 2 ^ 63 → b ≢ 2 ^ 64 - 1)
    → Divided (signed a) (signed b) (signed (quotient (signed a) (signed b))) (signed (remainder (signed a) (signed b)))
signed_divided a b p q z n =
    let above = signed_above b q z in
    let small = signed_mag a p in
    let fits = quotient_fits 63 (signed a) (signed b) small
    (λ e f. n (register_of a (negsuc (2 ^ 63 - 1)) p e) (register_of b (negsuc 0) q f)) in
    let left : mag (int_rem (signed a) (signed b)) < 2 ^ 63 = omega (arith, mag_rem (signed a) (signed b)) in
    rw (quotient_is (signed a) (signed b) above, remainder_is (signed a) (signed b) above, signed_bits _ fits, signed_bits _ left)
    (divided (signed a) (signed b) above)

pub words_divided : (a b : ℕ) → b % 2 ^ 32 ≢ 0 → (a % 2 ^ 32 ≡ 2 ^ 31 → b % 2 ^ 32 ≢ 2 ^ 32 - 1)
    → Divided (signed_word a) (signed_word b) (signed (word (quotient (signed_word a) (signed_word b))))
    (signed (word (remainder (signed_word a) (signed_word b))))
words_divided a b z n =
    let low_a = word_low a in
    let low_b = word_low b in
    let some : word b ≢ 0 = λ e. z (sym low_b ∙ ap (λ n. n % 2 ^ 32) e) in
    let above = signed_above (word b) (word_below b) some in
    let small = signed_word_mag a in
    let fits = quotient_fits 31 (signed_word a) (signed_word b) small
    (λ e f. n (sym low_a ∙ ap (λ n. n % 2 ^ 32) (register_of (word a) (negsuc (2 ^ 31 - 1)) (word_below a) e))
    (sym low_b ∙ ap (λ n. n % 2 ^ 32) (register_of (word b) (negsuc 0) (word_below b) f))) in
    let left : mag (int_rem (signed_word a) (signed_word b)) < 2 ^ 31 = omega (arith, mag_rem (signed_word a) (signed_word b)) in
    rw (quotient_is (signed_word a) (signed_word b) above, remainder_is (signed_word a) (signed_word b) above, signed_word_low _ fits, signed_word_low _ left)
    (divided (signed_word a) (signed_word b) above)
