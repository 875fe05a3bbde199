-- A flag is tested by a mask in the code, and by its place in the definitions.
use Rattle.std.proofs.Common.{ℕ, ◌≡◌, ◌*◌, ◌^◌, ◌<◌, ◌==◌, zero, suc, arith}
use Rattle.std.specs.Prelude.{not}
use Rattle.std.specs.Int.{bit_at}
use Rattle.std.specs.Int.RustNames.{bit_and}
use Rattle.std.proofs.lemmas.Nat.Bits.{and_pow, bit_at-lt}
use Rattle.std.proofs.lemmas.Bool.Decides.{nat_tests}

-- a bit times its weight is 0 exactly where the bit is not 1
weighed : (bit weight : ℕ) → bit < 2 → 0 < weight → not (bit * weight == 0) ≡ (bit == 1)
weighed zero weight small some = grind (arith, nat_tests)
weighed (suc zero) weight small some = grind (arith, nat_tests)
weighed (suc (suc bit)) weight small some = grind (arith, nat_tests)

tested : (n k : ℕ) → 0 < 2 ^ k → not (bit_and n (2 ^ k) == 0) ≡ (bit_at n k == 1)
tested n k some = rw and_pow (weighed (bit_at n k) (2 ^ k) (bit_at-lt n k) some)

pub bit_0 : (n : ℕ) → not (bit_and n 1 == 0) ≡ (bit_at n 0 == 1)
bit_0 n = tested n 0 (omega arith)

pub bit_1 : (n : ℕ) → not (bit_and n 2 == 0) ≡ (bit_at n 1 == 1)
bit_1 n = tested n 1 (omega arith)

pub bit_2 : (n : ℕ) → not (bit_and n 4 == 0) ≡ (bit_at n 2 == 1)
bit_2 n = tested n 2 (omega arith)

pub ruleset flag_tests = (bit_0, bit_1, bit_2, nat_tests)
