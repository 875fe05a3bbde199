-- What was granted to one process, and the looks at it. This project's own.
use Rattle.std.specs.Prelude.{ℕ, ◌-◌, ◌≤◌, Bool, false, Option, Some, None, option_map, List, []}
use Rattle.osc_space.specs.declared.ObjectFact.{ObjectFact}
use Rattle.osc_space.specs.Objects.{Seen, AreGranted, mark, is_live, object_at, object_on}

-- the objects in the order of their grants, and how many pages may be granted
pub record Grants : Type 0 where
  pub objects : List ObjectFact
  pub limit : ℕ

abbrev pub no_grants : ℕ → Grants
no_grants limit = record { objects = []; limit = limit }

abbrev pub grants_of : List ObjectFact → ℕ → Grants
grants_of objects limit = record { objects = objects; limit = limit }

-- how many more pages may be granted
abbrev pub left : Grants → ℕ
left g = g.limit - mark g.objects

-- the pages follow one another from the first of the shadow range, and lie in it
pub record AreMarked (g : Grants) : Type 0 where
  pub granted : AreGranted g.objects
  pub mark : mark g.objects ≤ g.limit
  pub most : g.limit ≤ 16777216

-- the number of the object that this page was granted to
abbrev pub owner : List ObjectFact → ℕ → Option ℕ
owner objects page = option_map (λ (s : Seen). s.number) (object_on objects page)

-- the number of the object with this address
abbrev pub number_at : List ObjectFact → ℕ → Option ℕ
number_at objects user = option_map (λ (s : Seen). s.number) (object_at objects user)

-- there is a live object
abbrev pub lives : Option ObjectFact → Bool
lives None = false
lives (Some o) = is_live o
