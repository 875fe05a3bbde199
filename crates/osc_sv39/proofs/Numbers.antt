-- The numbers VPN are bits of the address.
use Rattle.std.proofs.Common.{ℕ, ◌≡◌, ◌/◌, ◌%◌, ◌^◌, ◌==◌, ◌∷◌, [], Bool, true, false, cond, arith, refl}
use Rattle.std.proofs.lemmas.Bool.Decides.{nat_tests}
use Rattle.osc_sv39.specs.Walk.{IsLevels, numbers_of, number_of}

three : (va : ℕ) → numbers_of 4 (number_of 3 (va / 4096)) ≡ 0 ∷ va / 2 ^ 30 % 512 ∷ va / 2 ^ 21 % 512 ∷ va / 2 ^ 12 % 512 ∷ []
three va =
    let a : va / 4096 % 134217728 / 512 / 512 / 512 % 512 ≡ 0 = omega arith in
    let b : va / 4096 % 134217728 / 512 / 512 % 512 ≡ va / 2 ^ 30 % 512 = omega arith in
    let c : va / 4096 % 134217728 / 512 % 512 ≡ va / 2 ^ 21 % 512 = omega arith in
    let d : va / 4096 % 134217728 % 512 ≡ va / 2 ^ 12 % 512 = omega arith in
    rw (a, b, c, d) refl

four : (va : ℕ) → numbers_of 4 (number_of 4 (va / 4096)) ≡ va / 2 ^ 39 % 512 ∷ va / 2 ^ 30 % 512 ∷ va / 2 ^ 21 % 512 ∷ va / 2 ^ 12 % 512 ∷ []
four va =
    let a : va / 4096 % 68719476736 / 512 / 512 / 512 % 512 ≡ va / 2 ^ 39 % 512 = omega arith in
    let b : va / 4096 % 68719476736 / 512 / 512 % 512 ≡ va / 2 ^ 30 % 512 = omega arith in
    let c : va / 4096 % 68719476736 / 512 % 512 ≡ va / 2 ^ 21 % 512 = omega arith in
    let d : va / 4096 % 68719476736 % 512 ≡ va / 2 ^ 12 % 512 = omega arith in
    rw (a, b, c, d) refl

pub numbers : (levels va : ℕ) → IsLevels levels → numbers_of 4 (number_of levels (va / 4096)) ≡ cond (levels == 3) 0 (va / 2 ^ 39 % 512) ∷ va / 2 ^ 30 % 512 ∷ va / 2 ^ 21 % 512 ∷ va / 2 ^ 12 % 512 ∷ []
numbers levels va l = pick (levels == 3) refl
  where
    pick : (b : Bool) → (levels == 3) ≡ b → numbers_of 4 (number_of levels (va / 4096)) ≡ cond b 0 (va / 2 ^ 39 % 512) ∷ va / 2 ^ 30 % 512 ∷ va / 2 ^ 21 % 512 ∷ va / 2 ^ 12 % 512 ∷ []
    pick true e = let s : levels ≡ 3 = grind (arith, nat_tests, e) in rw s (three va)
    pick false e = let s : levels ≡ 4 = grind (arith, nat_tests, e, l.0, l.1) in rw s (four va)
