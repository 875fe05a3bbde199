-- A text that was appended piece by piece.
use Rattle.std.proofs.Common.{◌≡◌, ℕ, List, [], ◌∷◌, ◌++◌, append_assoc, append-nil, ◌∙◌}
use Rattle.std.specs.List.{concat}

pub three : (old a b c : List ℕ) → ((old ++ a) ++ b) ++ c ≡ old ++ concat (a ∷ b ∷ c ∷ [])
three old a b c = rw (append-nil c) (append_assoc (old ++ a) b c ∙ append_assoc old a (b ++ c))

pub six : (old a b c d e f : List ℕ) → (((((old ++ a) ++ b) ++ c) ++ d) ++ e) ++ f ≡ old ++ concat (a ∷ b ∷ c ∷ d ∷ e ∷ f ∷ [])
six old a b c d e f =
    rw (append-nil f)
    (append_assoc ((((old ++ a) ++ b) ++ c) ++ d) e f ∙ append_assoc (((old ++ a) ++ b) ++ c) d (e ++ f)
    ∙ append_assoc ((old ++ a) ++ b) c (d ++ (e ++ f)) ∙ three old a b (c ++ (d ++ (e ++ f)))
    ∙ (λ i. old ++ (a ++ (b ++ append-nil (c ++ (d ++ (e ++ f))) i))))
