-- What a flush looks for among the leaf tables, and when it can be made. This project's own.
use Rattle.std.specs.Prelude.{ℕ, ◌≡◌, ◌<◌, ◌≤◌, min, Bool, true, false, Option, Some, None, ◌&&◌, filter, List, ◌++◌}
use Rattle.std.specs.List.{list_any}
use Rattle.osc_word.specs.AddressMap.{is_shadow}
use Rattle.osc_paging.specs.KeptTables.{KeptTables, mapping_at}
use Rattle.osc_space.specs.declared.ObjectFact.{ObjectFact}
use Rattle.osc_space.specs.Objects.{is_in_leaf, is_live_page, leaf_dead}
use Rattle.osc_paging.specs.TableChanges.{Changed}
use Rattle.osc_space.specs.Free.{linked_leaves, reclaim_all, clear_jobs}

-- one of these objects has a page under the leaf table
abbrev pub is_over : List ObjectFact → ℕ → Bool
is_over gone leaf = list_any (is_in_leaf leaf) gone

-- the least number from one on that passes a test
pub record IsLeast (test : ℕ → Bool) (from number : ℕ) : Type 0 where
  pub above : from ≤ number
  pub passes : test number ≡ true
  pub least : (x : ℕ) → from ≤ x → x < number → test x ≡ false

abbrev pub NonePasses : (ℕ → Bool) → ℕ → Type 0
NonePasses test from = (x : ℕ) → from ≤ x → test x ≡ false

-- no shadow page is mapped but those of live objects
abbrev pub ShowsLive : KeptTables → List ObjectFact → Type 0
ShowsLive t objects = (page : ℕ) → is_shadow page ≡ true → is_live_page objects page ≡ false → mapping_at t.pages page ≡ None

-- the dead leaf tables over these objects
abbrev pub leaves_over : KeptTables → List ObjectFact → List ObjectFact → List ℕ
leaves_over t objects gone = filter (λ leaf. leaf_dead objects leaf && is_over gone leaf) (linked_leaves t)

-- the lesser of two numbers that there may be
abbrev pub lesser : Option ℕ → Option ℕ → Option ℕ
lesser None b = b
lesser (Some x) None = Some x
lesser (Some x) (Some y) = Some (min x y)

-- these leaf tables are given up, and every box is to be cleared
abbrev pub flushed : ℕ → List ℕ → Changed → Changed
flushed harts leaves c = record (reclaim_all leaves c) { jobs = (reclaim_all leaves c).jobs ++ clear_jobs harts }
