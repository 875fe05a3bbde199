-- The objects of a process that were freed and are not let go yet, in the order of their calls. This
-- project's own.
use Rattle.std.specs.Prelude.{ℕ, List, [], ◌∷◌, ◌++◌}

-- so many objects wait at most
abbrev pub most_waiting : ℕ
most_waiting = 64

abbrev pub with_waiting : List ℕ → ℕ → List ℕ
with_waiting waiting object = waiting ++ object ∷ []
