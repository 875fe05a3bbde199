-- Pieces of the page numbers, and bytes of a word, by powers of two.
use Rattle.std.proofs.Common.{ℕ, zero, suc, ◌≡◌, ◌*◌, ◌-◌, ◌/◌, ◌%◌, ◌^◌, ◌<◌, ◌≤◌, true, arith, refl, sym, ap, ◌∙◌}
use Rattle.std.proofs.lemmas.Nat.{pow-add, shr-shr}
use Rattle.std.proofs.Math.Nat.{div-eq_of_lt, mod-eq_of_lt, pow-suc, mul-suc, mul-zero, pow-zero}
use Rattle.std.proofs.Math.Pow.{pow_mono}
use Rattle.osc_sv39.specs.Walk.{piece, number_of, is_canonical}

pub pow_of_pow : (bits n : ℕ) → (2 ^ bits) ^ n ≡ 2 ^ (bits * n)
pow_of_pow bits zero = rw (mul-zero bits, pow-zero (2 ^ bits)) refl
pow_of_pow bits (suc n) = rw (pow-suc (2 ^ bits) n, pow_of_pow bits n, mul-suc bits n, pow-add 2 (bits * n) bits) refl

-- a piece of a level stands above nine bits for each level
pub piece_shifted : (level number : ℕ) → number / 2 ^ (9 * level) ≡ piece level number
piece_shifted zero number = grind arith
piece_shifted (suc level) number =
    rw (mul-suc 9 level) (sym (shr-shr number (9 * level) 9) ∙ ap (λ n. n / 512) (piece_shifted level number))

-- eight levels are above all bits
pub piece_beyond : (level number : ℕ) → 7 < level → number < 2 ^ 64 → 0 ≡ piece level number
piece_beyond level number far small =
    let high : 2 ^ 64 ≤ 2 ^ (9 * level) = pow_mono {i = 64} {j = 9 * level} (omega arith) in
    sym (div-eq_of_lt (omega arith)) ∙ piece_shifted level number

pub number_within : (levels page : ℕ) → page % 2 ^ (9 * levels) ≡ number_of levels page
number_within levels page = ap (λ n. page % n) (sym (pow_of_pow 9 levels))

-- six levels reach every page
pub number_beyond : (levels page : ℕ) → 6 ≤ levels → page < 2 ^ 52 → page ≡ number_of levels page
number_beyond levels page many small =
    let high : 2 ^ 52 ≤ 2 ^ (9 * levels) = pow_mono {i = 52} {j = 9 * levels} (omega arith) in
    sym (mod-eq_of_lt (omega arith)) ∙ number_within levels page

pub canonical_beyond : (levels page : ℕ) → 6 ≤ levels → page < 2 ^ 52 → true ≡ is_canonical levels page
canonical_beyond levels page many small =
    let high : 2 ^ 52 ≤ 2 ^ (9 * levels - 1) = pow_mono {i = 52} {j = 9 * levels - 1} (omega arith) in
    let none : page / 2 ^ (9 * levels - 1) ≡ 0 = div-eq_of_lt (omega arith) in
    rw none refl
