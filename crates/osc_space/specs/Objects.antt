-- The objects of a process in the order of their grants, with the shadow pages that were granted to
-- each. The mark is the number of pages granted so far: a grant takes the pages from the mark on,
-- and nothing lowers the mark. This project's own.
use Rattle.std.specs.Prelude.{ℕ, zero, suc, ◌+◌, ◌*◌, ◌%◌, ◌==◌, ◌≡◌, ◌<◌, Bool, true, false, not, ◌&&◌, nat_le, nat_lt, Option, option_map, option_and_then, List, [], ◌∷◌, ◌++◌, length, position, slice_get, sum_by, filter_map}
use Rattle.std.specs.List.{list_any}
use Rattle.osc_word.specs.AddressMap.{first_shadow_page}
use Rattle.osc_space.specs.declared.ObjectFact.{ObjectFact}
use Rattle.osc_space.specs.declared.ObjectState.{ObjectState}
use Rattle.osc_space.specs.declared.ObjectState.TheVariants.{Live, Dead}

-- ---- the mark
abbrev pub mark : List ObjectFact → ℕ
mark objects = sum_by (λ (o : ObjectFact). o.pages) objects

-- the page that the next grant begins with
abbrev pub next_page : List ObjectFact → ℕ
next_page objects = first_shadow_page + mark objects

-- the number of the next object
abbrev pub next_object : List ObjectFact → ℕ
next_object objects = length objects

-- a new object of so many pages and bytes; `canon` is its address in its block, and its own address
-- has the same offset in the first of its pages
abbrev pub granted_at : ℕ → ℕ → ℕ → ℕ → ObjectFact
granted_at first pages size canon =
    record { first = first; pages = pages; size = size; user = first * 4096 + canon % 4096; canon = canon; state = Live }

abbrev pub grant : ℕ → ℕ → ℕ → List ObjectFact → List ObjectFact
grant pages size canon objects = objects ++ granted_at (next_page objects) pages size canon ∷ []

-- the pages of each object begin where those of the one before end
abbrev pub GrantedFrom : ℕ → List ObjectFact → Type 0
GrantedFrom page [] = Unit {0}
GrantedFrom page (o ∷ objects) =
    (o.first ≡ page) × (0 < o.pages) × (o.user ≡ o.first * 4096 + o.canon % 4096) × GrantedFrom (page + o.pages) objects

abbrev pub AreGranted : List ObjectFact → Type 0
AreGranted objects = GrantedFrom first_shadow_page objects

-- ---- looks
-- what is kept of the object with this number
abbrev pub fact : List ObjectFact → ℕ → Option ObjectFact
fact objects object = slice_get objects object

abbrev pub facts : List ObjectFact → List ℕ → List ObjectFact
facts objects numbers = filter_map (fact objects) numbers

-- an object with its number
pub record Seen : Type 0 where
  pub number : ℕ
  pub fact : ObjectFact

abbrev pub seen_as : List ObjectFact → ℕ → Option Seen
seen_as objects number = option_map (λ (o : ObjectFact). record { number = number; fact = o }) (fact objects number)

-- the object that passes a test
abbrev pub object_seen : (ObjectFact → Bool) → List ObjectFact → Option Seen
object_seen test objects = option_and_then (seen_as objects) (position test objects)

-- the object with this address
abbrev pub object_at : List ObjectFact → ℕ → Option Seen
object_at objects user = object_seen (λ (o : ObjectFact). o.user == user) objects

abbrev pub has_page : ℕ → ObjectFact → Bool
has_page page o = nat_le o.first page && nat_lt page (o.first + o.pages)

-- the object that this page was granted to
abbrev pub object_on : List ObjectFact → ℕ → Option Seen
object_on objects page = object_seen (has_page page) objects

abbrev pub is_live_state : ObjectState → Bool
is_live_state Live = true
is_live_state (Dead call) = false

abbrev pub is_live : ObjectFact → Bool
is_live o = is_live_state o.state

-- a live object has this page
abbrev pub is_live_page : List ObjectFact → ℕ → Bool
is_live_page objects page = list_any (λ o. is_live o && has_page page o) objects

-- ---- death
abbrev pub killed : ℕ → ObjectFact → ObjectFact
killed call o = record o { state = Dead call }

-- the object with this number is dead by this call
abbrev pub kill : ℕ → ℕ → List ObjectFact → List ObjectFact
kill object call [] = []
kill zero call (o ∷ objects) = killed call o ∷ objects
kill (suc object) call (o ∷ objects) = o ∷ kill object call objects

-- ---- leaf tables: the leaf with this number stands over 512 pages
abbrev pub is_in_leaf : ℕ → ObjectFact → Bool
is_in_leaf leaf o = nat_lt o.first (512 * leaf + 512) && nat_lt (512 * leaf) (o.first + o.pages)

-- all its pages were granted
abbrev pub is_leaf_granted : List ObjectFact → ℕ → Bool
is_leaf_granted objects leaf = nat_le first_shadow_page (512 * leaf) && nat_le (512 * leaf + 512) (next_page objects)

-- all its pages were granted, and none belongs to a live object
abbrev pub leaf_dead : List ObjectFact → ℕ → Bool
leaf_dead objects leaf =
    is_leaf_granted objects leaf && not (list_any (λ o. is_live o && is_in_leaf leaf o) objects)

-- the leaf is dead, and no object that waits is on it: it was given up
abbrev pub leaf_given_up : List ObjectFact → List ℕ → ℕ → Bool
leaf_given_up objects waiting leaf =
    leaf_dead objects leaf && not (list_any (is_in_leaf leaf) (facts objects waiting))
