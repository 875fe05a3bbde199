-- Halves and words of whole numbers.
use Rattle.std.proofs.Common.{◌≡◌, ℕ, ◌+◌, ◌-◌, ◌*◌, ◌/◌, ◌%◌, ◌^◌, ◌<◌, ◌≤◌, ◌∙◌, suc, ℤ, pos, negsuc, ◌+ℤ◌, ◌*ℤ◌, refl, sym, ap, arith}
use Rattle.std.specs.Prelude.{nat_lt, unsigned_abs, FitsSigned}
use Rattle.std.specs.Int.{w64, w128, cast_signed, cast_unsigned, int_wrap}
use Rattle.std.proofs.lemmas.Bool.{cond_both, ltb-true, ltb-false}
use Rattle.std.proofs.lemmas.Int.{ints, of_z-to_z, fits_signed_mul, wrapping_mul-bits, int_wrap-mul_right}
use Rattle.std.proofs.lemmas.Nat.{mul-lt, mul-mod}
use lib.Signed.{mag}
use mir.ValLaws.{to_z-neg}
use Rattle.osc_isa.specs.Numbers.{signed, extended, word}
use Rattle.osc_isa.specs.Multiply.{low_bits, high_bits, signed_word}

pub low_below : (whole : ℤ) → low_bits whole < 2 ^ 64
low_below (pos n) = omega arith
low_below (negsuc n) = omega arith

-- the low bits are those of the number that wraps round
pub low_is : (whole : ℤ) → low_bits whole ≡ cast_unsigned w64 (int_wrap w64 whole)
unfolding int_wrap
low_is whole = sym (of_z-to_z w64 (low_bits whole) (low_below whole))

pub signed_low : (whole : ℤ) → signed (low_bits whole) ≡ int_wrap w64 whole
unfolding int_wrap
signed_low whole = refl

-- the low half of a product is the same for every reading of the operands
pub low_signed : (a b : ℕ) → a < 2 ^ 64 → b < 2 ^ 64 → low_bits (signed a *ℤ signed b) ≡ a * b % 2 ^ 64
low_signed a b p q =
    low_is (signed a *ℤ signed b) ∙ ap (cast_unsigned w64) (sym (wrapping_mul-bits w64 a b p q))
    ∙ of_z-to_z w64 (a * b % 2 ^ 64) (omega arith)

unsigned_wraps : (b : ℕ) → b < 2 ^ 64 → int_wrap w64 (pos b) ≡ signed b
unfolding int_wrap
unsigned_wraps b q = ap (cast_signed w64) (omega arith)

pub low_mixed : (a b : ℕ) → b < 2 ^ 64 → low_bits (signed a *ℤ pos b) ≡ low_bits (signed a *ℤ signed b)
low_mixed a b q =
    low_is (signed a *ℤ pos b)
    ∙ ap (cast_unsigned w64) (sym (int_wrap-mul_right w64 (signed a) (pos b)) ∙ ap (λ z. int_wrap w64 (signed a *ℤ z)) (unsigned_wraps b q))
    ∙ sym (low_is (signed a *ℤ signed b))

-- a number of 64 bits is its signed reading or lies 2 ^ 64 above it
pub signed_pos : (n : ℕ) → n < 2 ^ 63 → signed n ≡ pos n
signed_pos n h = omega (arith, ints)

pub signed_neg : (n : ℕ) → n < 2 ^ 63 → signed (2 ^ 64 - 1 - n) ≡ negsuc n
signed_neg n h =
    let same : 2 ^ 64 - 1 - n ≡ 2 ^ 64 - suc n = omega arith in
    rw same (to_z-neg w64 n h)

-- a product has 128 bits, sign and all
pub signed_abs : (n : ℕ) → n < 2 ^ 64 → unsigned_abs (signed n) ≤ 2 ^ 63
signed_abs n h =
    cond_both (nat_lt n (2 ^ 63)) (pos n) (negsuc (2 ^ 64 - suc n)) (λ z. unsigned_abs z ≤ 2 ^ 63) (λ e. omega (arith, ltb-true n (2 ^ 63) e)) (λ e. omega (arith, ltb-false n (2 ^ 63) e))

pub signed_product : (a b : ℕ) → a < 2 ^ 64 → b < 2 ^ 64 → FitsSigned w128 (signed a *ℤ signed b)
signed_product a b p q =
    fits_signed_mul w128 (signed a) (signed b) (2 ^ 63) (2 ^ 63) (signed_abs a p) (signed_abs b q) (omega arith)

pub mixed_product : (a b : ℕ) → a < 2 ^ 64 → b < 2 ^ 64 → FitsSigned w128 (signed a *ℤ pos b)
mixed_product a b p q =
    fits_signed_mul w128 (signed a) (pos b) (2 ^ 63) (2 ^ 64 - 1) (signed_abs a p) (omega arith) (omega arith)

-- the two halves of a number of 128 bits
pub joined : (whole : ℤ) → mag whole < 2 ^ 127
    → signed (high_bits whole) *ℤ pos (2 ^ 64) +ℤ pos (low_bits whole) ≡ whole
joined (pos n) h =
    let high : n / 2 ^ 64 % 2 ^ 64 ≡ n / 2 ^ 64 = omega arith in
    rw (high, signed_pos (n / 2 ^ 64) (omega arith)) (omega (arith, ints))
joined (negsuc n) h =
    let high : n / 2 ^ 64 % 2 ^ 64 ≡ n / 2 ^ 64 = omega arith in
    rw (high, signed_neg (n / 2 ^ 64) (omega arith)) (omega (arith, ints))

pub joined_unsigned : (a b : ℕ) → a < 2 ^ 64 → b < 2 ^ 64
    → a * b / 2 ^ 64 % 2 ^ 64 * 2 ^ 64 + a * b % 2 ^ 64 ≡ a * b
joined_unsigned a b p q = of (a * b) (mul-lt a b (2 ^ 64) (2 ^ 64) p q)
  where
    of : (n : ℕ) → n < 2 ^ 64 * 2 ^ 64 → n / 2 ^ 64 % 2 ^ 64 * 2 ^ 64 + n % 2 ^ 64 ≡ n
    of n h = omega arith

-- ---- words

pub word_low : (number : ℕ) → word number % 2 ^ 32 ≡ number % 2 ^ 32
word_low number =
    cond_both (nat_lt (number % 2 ^ 32) (2 ^ 31)) (number % 2 ^ 32) (number % 2 ^ 32 + (2 ^ 64 - 2 ^ 32))
    (λ n. n % 2 ^ 32 ≡ number % 2 ^ 32) (λ e. omega (arith, ltb-true (number % 2 ^ 32) (2 ^ 31) e)) (λ e. omega (arith, ltb-false (number % 2 ^ 32) (2 ^ 31) e))

pub word_below : (number : ℕ) → word number < 2 ^ 64
word_below number =
    cond_both (nat_lt (number % 2 ^ 32) (2 ^ 31)) (number % 2 ^ 32) (number % 2 ^ 32 + (2 ^ 64 - 2 ^ 32))
    (λ n. n < 2 ^ 64) (λ e. omega (arith, ltb-true (number % 2 ^ 32) (2 ^ 31) e)) (λ e. omega (arith, ltb-false (number % 2 ^ 32) (2 ^ 31) e))

pub word_same : (m n : ℕ) → m % 2 ^ 32 ≡ n % 2 ^ 32 → word m ≡ word n
word_same m n e = ap (extended 32) e

pub word_product : (a b : ℕ) → word (low_bits (signed_word a *ℤ signed_word b)) ≡ word (a * b)
word_product a b =
    let whole = low_signed (word a) (word b) (word_below a) (word_below b) in
    let parts : word a * word b % 2 ^ 32 ≡ a * b % 2 ^ 32 =
    mul-mod (word a) (word b) (2 ^ 32) ∙ rw (word_low a, word_low b) (sym (mul-mod a b (2 ^ 32))) in
    let cut : word a * word b % 2 ^ 64 % 2 ^ 32 ≡ word a * word b % 2 ^ 32 = omega arith in
    rw whole (word_same (word a * word b % 2 ^ 64) (a * b) (cut ∙ parts))

pub word_wrapped : (a b : ℕ) → word (a * b % 2 ^ 64) ≡ word (low_bits (signed_word a *ℤ signed_word b))
word_wrapped a b =
    let cut : a * b % 2 ^ 64 % 2 ^ 32 ≡ a * b % 2 ^ 32 = omega arith in
    word_same (a * b % 2 ^ 64) (a * b) cut ∙ sym (word_product a b)

-- a whole number that a word has place for
word_pos : (n : ℕ) → n < 2 ^ 31 → word n ≡ n
word_pos n h =
    cond_both (nat_lt (n % 2 ^ 32) (2 ^ 31)) (n % 2 ^ 32) (n % 2 ^ 32 + (2 ^ 64 - 2 ^ 32))
    (λ m. m ≡ n) (λ e. omega (arith, ltb-true (n % 2 ^ 32) (2 ^ 31) e)) (λ e. omega (arith, ltb-false (n % 2 ^ 32) (2 ^ 31) e))

word_neg : (n : ℕ) → n < 2 ^ 31 → word (2 ^ 64 - 1 - n) ≡ 2 ^ 64 - 1 - n
word_neg n h =
    let low : ℕ = (2 ^ 64 - 1 - n) % 2 ^ 32 in
    let cut : low ≡ 2 ^ 32 - 1 - n = omega arith in
    cond_both (nat_lt low (2 ^ 31)) low (low + (2 ^ 64 - 2 ^ 32))
    (λ m. m ≡ 2 ^ 64 - 1 - n) (λ e. omega (arith, ltb-true low (2 ^ 31) e)) (λ e. omega (arith, ltb-false low (2 ^ 31) e))

pub signed_word_low : (whole : ℤ) → mag whole < 2 ^ 31 → signed (word (low_bits whole)) ≡ whole
signed_word_low (pos n) h =
    let low : n % 2 ^ 64 ≡ n = omega arith in rw (low, word_pos n h) (signed_pos n (omega arith))
signed_word_low (negsuc n) h =
    let low : n % 2 ^ 64 ≡ n = omega arith in rw (low, word_neg n h) (signed_neg n (omega arith))

-- the low 32 bits as a signed number
pub signed_word_mag : (number : ℕ) → mag (signed_word number) < 2 ^ 31
signed_word_mag number =
    let low : ℕ = number % 2 ^ 32 in
    cond_both (nat_lt low (2 ^ 31)) low (low + (2 ^ 64 - 2 ^ 32)) (λ n. mag (signed n) < 2 ^ 31)
    (λ e. let under = ltb-true low (2 ^ 31) e in rw (signed_pos low (omega arith)) under)
    (λ e. let above = ltb-false low (2 ^ 31) e in
    let over : ℕ = 2 ^ 32 - 1 - low in
    let same : low + (2 ^ 64 - 2 ^ 32) ≡ 2 ^ 64 - 1 - over = omega arith in
    rw (same, signed_neg over (omega arith)) (omega arith))
