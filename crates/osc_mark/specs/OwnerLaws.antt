-- A page's owner is the object that it was granted to, for good.
use Rattle.std.specs.Prelude.{ℕ, ◌+◌, ◌≡◌, true, Some, List, if◌then◌else◌}
use Rattle.osc_space.specs.declared.ObjectFact.{ObjectFact}
use Rattle.osc_word.specs.AddressMap.{is_within}
use Rattle.osc_space.specs.Objects.{AreGranted, fact, grant, kill, next_object, next_page}
use Rattle.osc_mark.specs.Grants.{lives, owner}

-- the pages of a grant get their owner, and all other pages keep theirs, also when an object dies
pub record OwnersStay : Type 0 where
  pub granted : (pages size canon page : ℕ) (objects : List ObjectFact) → AreGranted objects
      → owner (grant pages size canon objects) page
      ≡ (if is_within (next_page objects) (next_page objects + pages) page then Some (next_object objects) else owner objects page)
  pub killed : (object call page : ℕ) (objects : List ObjectFact) → lives (fact objects object) ≡ true
      → owner (kill object call objects) page ≡ owner objects page
