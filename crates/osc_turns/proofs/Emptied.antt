-- Empty hands, one more at a time.
use Rattle.std.proofs.Common.{ℕ, zero, suc, ◌≡◌, ◌+◌, [], ◌∷◌, ◌++◌, replicate, arith, refl, ap}

pub one_more : {X : Type 0} (n : ℕ) (x : X) → replicate n x ++ x ∷ [] ≡ replicate (n + 1) x
one_more zero x = refl
one_more (suc n) x =
    let more : suc n + 1 ≡ suc (n + 1) = omega arith in
    rw more (ap (λ xs. x ∷ xs) (one_more n x))
