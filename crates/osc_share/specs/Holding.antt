-- What the calls of shared regions ask for. It is this project's own.
use Rattle.std.specs.Prelude.{ℕ, ◌<◌, ◌≢◌, Bool, List, [], ◌∷◌, All, length}
use Rattle.osc_space.specs.Share.{Regions, RegionsAndFree, holders}

-- no frame stands twice
abbrev pub AreDifferent : List ℕ → Type 0
AreDifferent [] = Unit {0}
AreDifferent (frame ∷ frames) = All (λ (other : ℕ). other ≢ frame) frames × AreDifferent frames

-- some process holds this frame of the machine
abbrev pub IsHeld : Regions → ℕ → Type 0
IsHeld regions frame = (frame < length regions) × (0 < holders regions frame)

-- and its count has room for one more
abbrev pub CanJoin : Regions → ℕ → Type 0
CanJoin regions frame = IsHeld regions frame × (holders regions frame < 4294967295)

abbrev pub regions_and_free : Regions → List Bool → RegionsAndFree
regions_and_free regions free = record { regions = regions; free = free }
