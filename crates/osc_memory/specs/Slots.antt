-- Where the pages of a memory are found: the place of each page stands in the slot of its number.
use Rattle.std.specs.Prelude.{ℕ, ◌≡◌, ◌≢◌, ◌<◌, ◌+◌, ◌-◌, ◌==◌, nat_le, if◌then◌else◌, Bool, false, List, slice_get, Option, Some, None}
use Rattle.osc_word.specs.AddressMap.{first_stack_page, stack_size}
use Rattle.osc_world.specs.World.{Page}

-- the stack comes first, and then all other pages by their numbers
abbrev pub slot : ℕ → ℕ
slot number = if nat_le first_stack_page number then number - first_stack_page else number + stack_size

abbrev pub is_page : ℕ → Option Page → Bool
is_page number None = false
is_page number (Some page) = page.number == number

-- no two pages have one slot
abbrev pub AreApart : List Page → Type 0
AreApart pages =
    (i j : ℕ) (a b : Page) → i < j → slice_get pages i ≡ Some a → slice_get pages j ≡ Some b → slot a.number ≢ slot b.number

-- the places of the pages in front of one stand in their slots
abbrev pub StandBelow : ℕ → List ℕ → List Page → Type 0
StandBelow count places pages =
    (i : ℕ) (page : Page) → i < count → slice_get pages i ≡ Some page → slice_get places (slot page.number) ≡ Some i

abbrev pub Stand : List ℕ → List Page → Type 0
Stand places pages = (i : ℕ) (page : Page) → slice_get pages i ≡ Some page → slice_get places (slot page.number) ≡ Some i
