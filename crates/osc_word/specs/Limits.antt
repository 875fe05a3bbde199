-- The limits of a configuration. They are this project's own.
use Rattle.std.specs.Prelude.{ℕ, Bool, ◌&&◌, not, nat_le, List, [], ◌∷◌, Option, find, option_map}
use Rattle.osc_word.specs.declared.settings.Config.{Config}
use Rattle.osc_word.specs.declared.settings.ConfigFault.{ConfigFault}
use Rattle.osc_word.specs.declared.settings.ConfigFault.TheVariants.{Harts, Processes, Frames, Shadows, Journal, Levels, Batch}

-- a number that has a range, and what it is a fault of
pub record Limit : Type 0 where
  pub number : ℕ
  pub least : ℕ
  pub most : ℕ
  pub fault : ConfigFault

abbrev pub limit : ℕ → ℕ → ℕ → ConfigFault → Limit
limit number least most fault = record { number = number; least = least; most = most; fault = fault }

-- the limits in the order in which they are looked at
abbrev pub limits : Config → List Limit
limits config =
    limit config.harts 1 8 Harts
    ∷ limit config.processes 1 64 Processes
    ∷ limit config.frames 64 4096 Frames
    ∷ limit config.shadows 1 1048576 Shadows
    ∷ limit config.journal 1 1048576 Journal
    ∷ limit config.levels 3 4 Levels
    ∷ limit config.batch 1 64 Batch
    ∷ []

abbrev pub is_kept : Limit → Bool
is_kept l = nat_le l.least l.number && nat_le l.number l.most

-- the first number that is out of its range
abbrev pub first_fault : Config → Option ConfigFault
first_fault config = option_map (λ l. l.fault) (find (λ l. not (is_kept l)) (limits config))
