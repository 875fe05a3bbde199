-- A number over another has one quotient and one remainder.
use Rattle.std.proofs.Common.{◌≡◌, ℕ, zero, suc, ◌+◌, ◌*◌, ◌<◌, ◌∙◌, ◌⊎◌, ℤ, pos, negsuc, ◌+ℤ◌, ◌-ℤ◌, ◌*ℤ◌, refl, sym, ap, arith}
use Rattle.std.specs.Prelude.{unsigned_abs}
use Rattle.std.specs.Int.{is_negative}
use Rattle.std.proofs.lemmas.Int.{ints, unsigned_abs-mul}
use Rattle.std.proofs.lemmas.Nat.{mul-le}
use borrow.Author.Differences.{up, down, same_in, same_out, sum_is_lem, neg_is, product_is}
use Rattle.osc_mul.specs.Divided.{Divided}

-- two quotients are as far apart as their remainders are, divisor for divisor
apart : (b q r s t : ℤ) → q *ℤ b +ℤ r ≡ s *ℤ b +ℤ t → (q -ℤ s) *ℤ b ≡ t -ℤ r
apart b q r s t e =
    let gap : ℤ = q -ℤ s in
    let sum : up gap + down q + up s ≡ up q + down s + down gap = omega (arith, sum_is_lem, neg_is) in
    let above = ap (λ x. x * up b) sum in
    let below = ap (λ x. x * down b) sum in
    omega (arith, same_in, same_out, sum_is_lem, neg_is, product_is, above, below)

apart_in_sign : (a : ℤ) (m k : ℕ) → (pos m ≡ pos 0) ⊎ (is_negative (pos m) ≡ is_negative a)
    → (negsuc k ≡ pos 0) ⊎ (is_negative (negsuc k) ≡ is_negative a) → m ≡ 0
apart_in_sign a m k f g = grind arith

-- remainders of one sign are nearer to each other than the divisor is to 0
near : (n : ℕ) (a r t : ℤ) → unsigned_abs r < n → unsigned_abs t < n
    → (r ≡ pos 0) ⊎ (is_negative r ≡ is_negative a) → (t ≡ pos 0) ⊎ (is_negative t ≡ is_negative a)
    → unsigned_abs (t -ℤ r) < n
near n a (pos m) (pos k) p q f g = omega (arith, ints)
near n a (pos m) (negsuc k) p q f g = omega (arith, ints, apart_in_sign a m k f g)
near n a (negsuc m) (pos k) p q f g = omega (arith, ints, apart_in_sign a k m g f)
near n a (negsuc m) (negsuc k) p q f g = omega (arith, ints)

none : (k n : ℕ) → k * n < n → k ≡ 0
none zero n h = refl
none (suc k) n h = absurd (omega (arith, mul-le 1 n (suc k) n))

pub unique : (a b q r s t : ℤ) → Divided a b q r → Divided a b s t → (q ≡ s) × (r ≡ t)
unique a b q r s t f g =
    let both : q *ℤ b +ℤ r ≡ s *ℤ b +ℤ t = f.whole ∙ sym g.whole in
    let gap : unsigned_abs (q -ℤ s) * unsigned_abs b ≡ unsigned_abs (t -ℤ r) =
    sym (unsigned_abs-mul (q -ℤ s) b) ∙ ap unsigned_abs (apart b q r s t both) in
    let small = near (unsigned_abs b) a r t f.smaller g.smaller f.sign g.sign in
    let zero_gap : unsigned_abs (q -ℤ s) ≡ 0 = none (unsigned_abs (q -ℤ s)) (unsigned_abs b) (omega arith) in
    let same : q ≡ s = omega (arith, ints) in
    let whole : q *ℤ b +ℤ r ≡ q *ℤ b +ℤ t = both ∙ ap (λ z. z *ℤ b +ℤ t) (sym same) in
    (same, omega (arith, ints))
