-- Lists that are filled up with what a place past their end stands for.
use Rattle.std.proofs.Common.{ℕ, zero, suc, ◌≡◌, List, [], ◌∷◌, ◌++◌, get_or, refl}

-- a place of a list reads the same once a value that is unset stands at its end
pub same_filled : {X : Type 0} → (xs : List X) (at : ℕ) (unset : X) → get_or (xs ++ unset ∷ []) at unset ≡ get_or xs at unset
same_filled [] zero unset = refl
same_filled [] (suc at) unset = refl
same_filled (x ∷ xs) zero unset = refl
same_filled (x ∷ xs) (suc at) unset = same_filled xs at unset
