-- One bit of a word that is set or cleared, and the words whose low bits are 1.
use Rattle.std.proofs.Common.{ℕ, ◌≡◌, ◌<◌, ◌≤◌, ◌-◌, ◌*◌, ◌/◌, ◌%◌, ◌^◌, ◌==◌, cond, nat_lt, bit_and, bit_or, w64, arith}
use Rattle.std.specs.Int.{bit_at, bit_not}
use Rattle.std.proofs.lemmas.Bool.Decides.{nat_tests}
use Rattle.std.proofs.lemmas.Nat.Bits.{bit_at_set_same, bit_at_set_other, bit_at_clear_same, bit_at_clear_other, bit_at_ones, bit_at_ones_above, ones_shr}
use Rattle.osc_frames.specs.Words.{digit}

pub bit_at_set : (n k : ℕ) → k < 64 → (j : ℕ) → bit_at (bit_or n (1 * 2 ^ k % 2 ^ 64)) j ≡ cond (j == k) 1 (bit_at n j)
bit_at_set n k l j = grind (arith, nat_tests, bit_at_set_same w64 n k l, bit_at_set_other w64 n k l j)

pub bit_at_clear : (n k : ℕ) → k < 64 → (j : ℕ) → j < 64 → bit_at (bit_and n (bit_not w64 (1 * 2 ^ k % 2 ^ 64))) j ≡ cond (j == k) 0 (bit_at n j)
bit_at_clear n k l j m = grind (arith, nat_tests, bit_at_clear_same w64 n k l, bit_at_clear_other w64 n k l j m)

pub bit_at_low : (k : ℕ) → k ≤ 64 → (j : ℕ) → bit_at ((2 ^ 64 - 1) / 2 ^ (64 - k)) j ≡ digit (nat_lt j k)
bit_at_low k l j =
    let back : 64 - (64 - k) ≡ k = omega arith in
    rw (ones_shr 64 (64 - k) (omega arith), back) (grind (arith, nat_tests, bit_at_ones k j, bit_at_ones_above k j))
