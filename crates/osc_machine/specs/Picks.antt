-- The harts that a seed picks. This project's own: Knuth's 64-bit linear congruence, of which the upper
-- bits pick the hart.
use Rattle.std.specs.Prelude.{ℕ, zero, suc, ◌+◌, ◌*◌, ◌/◌, ◌%◌, ◌^◌, List, [], ◌∷◌}

abbrev pub next_seed : ℕ → ℕ
next_seed seed = (6364136223846793005 * seed + 1442695040888963407) % 2 ^ 64

abbrev pub picked : ℕ → ℕ → ℕ
picked harts seed = seed / 2 ^ 33 % harts

-- the first so many picks of a seed
unfoldable pub picks : ℕ → ℕ → ℕ → List ℕ
picks harts seed zero = []
picks harts seed (suc more) = picked harts (next_seed seed) ∷ picks harts (next_seed seed) more
