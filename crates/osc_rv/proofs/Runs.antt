-- Runs of bits, over every position and width.
use Rattle.std.proofs.Common.{◌≡◌, ℕ, ◌+◌, ◌*◌, ◌/◌, ◌%◌, ◌^◌, ◌<◌, ◌≤◌, arith}
use Rattle.std.proofs.Math.Pow.{pow_mono}
use Rattle.std.proofs.Math.Nat.{mod-eq_of_lt, div-one}
use Rattle.std.proofs.lemmas.Nat.{pow_pos, mod_below, same_from_place, shr-shr, shr_high, mod_low, mod-pow-add}
use Rattle.osc_rv.specs.Bits.{bits}

-- a `u32` is below any larger power
pub wide_enough : (value n : ℕ) → value < 2 ^ 32 → 32 ≤ n → value < 2 ^ n
wide_enough value n below wide = let wider : 2 ^ 32 ≤ 2 ^ n = pow_mono wide in omega arith

pub bits_below : (low n word : ℕ) → bits low n word < 2 ^ n
bits_below low n word = mod_below (word / 2 ^ low) (2 ^ n) (pow_pos n)

-- the run at `low` of a word that has `value` there
pub bits-at : (low n above value below word : ℕ) → word ≡ (above * 2 ^ n + value) * 2 ^ low + below
    → below < 2 ^ low → value < 2 ^ n → bits low n word ≡ value
bits-at low n above value below word e b v =
    rw (e, shr_high (above * 2 ^ n + value) low below b) (mod_low above n value v)

-- a number below 2 ^ n is its run of n bits
pub bits-all : (n word : ℕ) → word < 2 ^ n → bits 0 n word ≡ word
bits-all n word h = rw (div-one word) (mod-eq_of_lt h)

-- two runs, one above the other, are one run
pub bits-join : (low m n word : ℕ) → bits low m word + bits (low + m) n word * 2 ^ m ≡ bits low (m + n) word
bits-join low m n word =
    let above : word / 2 ^ low / 2 ^ m ≡ word / 2 ^ (low + m) = shr-shr word low m in
    let both : word / 2 ^ low % 2 ^ (n + m) ≡ (word / 2 ^ low / 2 ^ m % 2 ^ n) * 2 ^ m + word / 2 ^ low % 2 ^ m
    = mod-pow-add (word / 2 ^ low) n m in
    let turned : m + n ≡ n + m = omega arith in
    rw (turned, both, above) (omega arith)

-- and one run is the two that it was made of
pub bits-split : (low m n word below above : ℕ) → below < 2 ^ m → bits low (m + n) word ≡ below + above * 2 ^ m
    → (bits low m word ≡ below) × (bits (low + m) n word ≡ above)
bits-split low m n word below above b e =
    let both : bits (low + m) n word * 2 ^ m + bits low m word ≡ above * 2 ^ m + below = omega (arith, bits-join low m n word) in
    let same : (bits (low + m) n word ≡ above) × (bits low m word ≡ below) =
    same_from_place (bits (low + m) n word) (bits low m word) above below (2 ^ m) (bits_below low m word) b both in
    (same.1, same.0)
