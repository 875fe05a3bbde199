-- Where an object stands among those in the order of their grants. This project's own.
use Rattle.std.specs.Prelude.{ℕ, suc, nat_le, List, [], ◌∷◌, if◌then◌else◌}
use Rattle.osc_space.specs.declared.ObjectFact.{ObjectFact}

-- how many objects begin at a page or before it, in an ascending list
abbrev pub place_for : ℕ → List ObjectFact → ℕ
place_for page [] = 0
place_for page (o ∷ objects) = if nat_le o.first page then suc (place_for page objects) else 0
