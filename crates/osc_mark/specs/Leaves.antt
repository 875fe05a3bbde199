-- How many pages under each leaf table have a live owner. This project's own.
use Rattle.std.specs.Prelude.{ℕ, ◌+◌, ◌-◌, ◌*◌, ◌/◌, ◌≡◌, ◌<◌, ◌≤◌, nat_lt, min, max, List, length, sum_by, slice_index_or, if◌then◌else◌}
use Rattle.osc_space.specs.declared.ObjectFact.{ObjectFact}
use Rattle.osc_space.specs.Objects.{is_live, mark}
use Rattle.osc_mark.specs.Grants.{AreMarked, grants_of}

-- the leaf table over the first shadow page
abbrev pub first_leaf : ℕ
first_leaf = 32768

-- how many of so many pages from one on stand under a leaf table
abbrev pub pages_under : ℕ → ℕ → ℕ → ℕ
pages_under leaf first pages = min (first + pages) (512 * leaf + 512) - max first (512 * leaf)

abbrev pub live_pages_of : ℕ → ObjectFact → ℕ
live_pages_of leaf o = if is_live o then pages_under leaf o.first o.pages else 0

abbrev pub live_pages : ℕ → List ObjectFact → ℕ
live_pages leaf objects = sum_by (live_pages_of leaf) objects

-- the number of each leaf table of the shadow range that is granted from
pub record AreCounts (objects : List ObjectFact) (limit : ℕ) (counts : List ℕ) : Type 0 where
  pub size : length counts ≡ limit / 512 + 1
  pub each : (i : ℕ) → i < length counts → slice_index_or counts i 0 ≡ live_pages (first_leaf + i) objects

-- what is true of the parts of marks
pub record AreParts (objects : List ObjectFact) (limit : ℕ) (counts : List ℕ) (granted room : ℕ) : Type 0 where
  pub are_marked : AreMarked (grants_of objects limit)
  pub are_counts : AreCounts objects limit counts
  pub is_mark : granted ≡ mark objects
  pub has_room : limit ≤ room

-- of the leaf tables below `leaf`, each has these pages more
pub record AreRaised (leaf first pages : ℕ) (old new : List ℕ) : Type 0 where
  pub size : length new ≡ length old
  pub each : (i : ℕ) → i < length old → slice_index_or new i 0
      ≡ slice_index_or old i 0 + (if nat_lt (first_leaf + i) leaf then pages_under (first_leaf + i) first pages else 0)

-- of the leaf tables below `leaf`, each has these pages less
pub record AreLowered (leaf first pages : ℕ) (old new : List ℕ) : Type 0 where
  pub size : length new ≡ length old
  pub each : (i : ℕ) → i < length old → slice_index_or new i 0
      ≡ slice_index_or old i 0 - (if nat_lt (first_leaf + i) leaf then pages_under (first_leaf + i) first pages else 0)
