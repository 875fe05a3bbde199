-- Lists in the order of a number of each element. This project's own.
use Rattle.std.specs.Prelude.{ℕ, ◌<◌, nat_lt, if◌then◌else◌, List, [], ◌∷◌}

-- the element put before the first that is not below it
unfoldable pub insert_by : {X : Type 0} → (X → ℕ) → X → List X → List X
insert_by number x [] = x ∷ []
insert_by number x (y ∷ ys) = if nat_lt (number y) (number x) then y ∷ insert_by number x ys else x ∷ y ∷ ys

-- each is above this number
unfoldable pub AllAbove : {X : Type 0} → (X → ℕ) → ℕ → List X → Type 0
AllAbove number n [] = Unit {0}
AllAbove number n (x ∷ xs) = (n < number x) × AllAbove number n xs

-- each is below those after it
unfoldable pub IsAscending : {X : Type 0} → (X → ℕ) → List X → Type 0
IsAscending number [] = Unit {0}
IsAscending number (x ∷ xs) = AllAbove number (number x) xs × IsAscending number xs
