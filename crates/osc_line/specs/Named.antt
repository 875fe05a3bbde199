-- What has a name.
use Rattle.std.specs.Prelude.{◌≡◌, ◌≢◌, ℕ, List, Option, None, Some}

-- what is found is what has the name, and nothing is found only where nothing has it
abbrev pub Named : {A : Type 0} → (A → List ℕ) → List ℕ → Option A → Type 0
Named {A} name_of name None = (thing : A) → name ≢ name_of thing
Named {A} name_of name (Some found) = name ≡ name_of found
