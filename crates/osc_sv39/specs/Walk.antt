-- The walk from a virtual address to a frame, over the words of memory: RISC-V Privileged manual,
-- "Virtual Address Translation Process" and the sections on Sv39 and Sv48, for any number of levels.
-- A frame has 512 words, and the words of all frames stand one after another. A page is an address
-- divided by 4096.
use Rattle.std.specs.Prelude.{ℕ, zero, suc, ◌+◌, ◌-◌, ◌*◌, ◌/◌, ◌%◌, ◌^◌, ◌==◌, ◌≤◌, Bool, ◌||◌, Option, Some, None, List, [], ◌∷◌, slice_index, slice_set, if◌then◌else◌}
use Rattle.osc_sv39.specs.declared.entries.PteEntry.{PteEntry}
use Rattle.osc_sv39.specs.declared.entries.PteEntry.TheVariants.{Absent, Table, Leaf, Reserved}
use Rattle.osc_sv39.specs.declared.entries.Access.{Access}
use Rattle.osc_sv39.specs.declared.entries.Mapping.{Mapping}
use Rattle.osc_sv39.specs.Entries.{entry_of, is_allowed}

-- the numbers of levels that there are: three for Sv39, four for Sv48
abbrev pub IsLevels : ℕ → Type 0
IsLevels levels = (3 ≤ levels) × (levels ≤ 4)

-- the piece that holds a page: 512 pieces of a level are one of the next, and a page is one of level 0
abbrev pub piece : ℕ → ℕ → ℕ
piece zero page = page
piece (suc level) page = piece level page / 512

-- a page whose addresses are canonical: all bits from the top one of the page numbers on are equal
abbrev pub is_canonical : ℕ → ℕ → Bool
is_canonical levels page =
    (page / 2 ^ (9 * levels - 1) == 0) || (page / 2 ^ (9 * levels - 1) == 2 ^ (53 - 9 * levels) - 1)

-- the number of a page in the range of the tables: its numbers VPN, joined
abbrev pub number_of : ℕ → ℕ → ℕ
number_of levels page = page % 512 ^ levels

-- the numbers VPN of so many levels, from the topmost down
abbrev pub numbers_of : ℕ → ℕ → List ℕ
numbers_of zero number = []
numbers_of (suc level) number = piece level number % 512 ∷ numbers_of level number

-- VPN[3], VPN[2], VPN[1] and VPN[0] of an address; for three levels VPN[3] is 0
abbrev pub page_numbers : ℕ → ℕ → Option (List ℕ)
page_numbers levels address =
    if is_canonical levels (address / 4096) then Some (numbers_of 4 (number_of levels (address / 4096))) else None

abbrev pub word_at : List ℕ → ℕ → ℕ → ℕ
word_at words frame index = slice_index words (frame * 512 + index)

abbrev pub put_word : List ℕ → ℕ → ℕ → ℕ → List ℕ
put_word words frame index value = slice_set words (frame * 512 + index) value

-- the entry that stands in a table of this level for a page of this number
abbrev pub entry_at : ℕ → List ℕ → ℕ → ℕ → PteEntry
entry_at level words table number = entry_of (word_at words table (piece level number % 512))

-- what an entry of level 0 maps
abbrev pub leaf_of : PteEntry → Option Mapping
leaf_of Absent = None
leaf_of (Table frame) = None
leaf_of (Leaf frame bits) = Some (record { frame = frame; bits = bits })
leaf_of Reserved = None

-- on from an entry above level 0
abbrev pub through : PteEntry → (ℕ → Option Mapping) → Option Mapping
through Absent on = None
through (Table frame) on = on frame
through (Leaf frame bits) on = None
through Reserved on = None

-- the mapping of the page of this number, from a table of this level on
unfoldable pub walk_from : ℕ → List ℕ → ℕ → ℕ → Option Mapping
walk_from zero words table number = leaf_of (entry_at 0 words table number)
walk_from (suc level) words table number =
    through (entry_at (suc level) words table number) (λ frame. walk_from level words frame number)

-- the frame of a mapping, where it allows the access
abbrev pub frame_allowed : Access → Option Mapping → Option ℕ
frame_allowed access None = None
frame_allowed access (Some mapping) = if is_allowed mapping.bits.0 access then Some mapping.frame else None

-- the frame that an access to an address reaches
abbrev pub walk : List ℕ → ℕ → ℕ → ℕ → Access → Option ℕ
walk words root levels address access =
    if is_canonical levels (address / 4096)
    then frame_allowed access (walk_from (levels - 1) words root (number_of levels (address / 4096)))
    else None
