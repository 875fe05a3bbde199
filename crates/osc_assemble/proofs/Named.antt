-- Names by what references to them show.
use Rattle.std.proofs.Common.{◌≡◌, ℕ, Bool, true, false, List, [], ◌∷◌, ◌++◌, map, refl, ◌∙◌, ap}
use Rattle.std.specs.Prelude.{nat_eq, if◌then◌else◌}
use Rattle.std.specs.Cmp.Lexicographic.{pointwise}
use Rattle.std.specs.Borrow.{Bor}
use Rattle.std.specs.List.{list_any, position_or_len}
use Rattle.osc_assemble.specs.Put.{is_in, place_in, with_name}

abbrev pub shown : List (Bor (List ℕ)) → List (List ℕ)
shown keys = map (λ key. key.now) keys

pub is_in-shown : (keys : List (Bor (List ℕ))) (name : List ℕ)
    → list_any (λ key. pointwise nat_eq name key.now) keys ≡ is_in (shown keys) name
is_in-shown [] name = refl
is_in-shown (key ∷ keys) name = rw (is_in-shown keys name) refl

pub place_in-shown : (keys : List (Bor (List ℕ))) (name : List ℕ)
    → position_or_len (λ key. pointwise nat_eq name key.now) keys ≡ place_in (shown keys) name
place_in-shown [] name = refl
place_in-shown (key ∷ keys) name = rw (place_in-shown keys name) refl

more-shown : (keys : List (Bor (List ℕ))) (key : Bor (List ℕ)) → shown (keys ++ key ∷ []) ≡ shown keys ++ key.now ∷ []
more-shown [] key = refl
more-shown (first ∷ keys) key = ap (λ rest. first.now ∷ rest) (more-shown keys key)

chosen : (b : Bool) (keys : List (Bor (List ℕ))) (key : Bor (List ℕ))
    → shown (if b then keys else keys ++ key ∷ []) ≡ (if b then shown keys else shown keys ++ key.now ∷ [])
chosen true keys key = refl
chosen false keys key = more-shown keys key

pub with_name-shown : (keys : List (Bor (List ℕ))) (key : Bor (List ℕ))
    → shown (if list_any (λ other. pointwise nat_eq key.now other.now) keys then keys else keys ++ key ∷ [])
    ≡ with_name (shown keys) key.now
with_name-shown keys key =
    chosen (list_any (λ other. pointwise nat_eq key.now other.now) keys) keys key
    ∙ ap (λ b. if b then shown keys else shown keys ++ key.now ∷ []) (is_in-shown keys key.now)
