-- A line that was appended piece by piece.
use Rattle.std.proofs.Common.{◌≡◌, ℕ, List, [], ◌∷◌, ◌++◌, append_assoc, append-nil, sym, ◌∙◌}
use Rattle.std.specs.List.{concat}

-- one piece after another
abbrev pub appended : List ℕ → List (List ℕ) → List ℕ
appended old [] = old
appended old (piece ∷ pieces) = appended (old ++ piece) pieces

pub all_appended : (old : List ℕ) (pieces : List (List ℕ)) → appended old pieces ≡ old ++ concat pieces
all_appended old [] = sym (append-nil old)
all_appended old (piece ∷ pieces) = all_appended (old ++ piece) pieces ∙ append_assoc old piece (concat pieces)
