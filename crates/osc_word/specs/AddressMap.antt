-- The address map of every process, by pages: a page is an address divided by 4096. This project's own.
use Rattle.std.specs.Prelude.{ℕ, Bool, ◌&&◌, ◌||◌, nat_le, nat_lt}

-- a page has one of these numbers, the second not included
abbrev pub is_within : ℕ → ℕ → ℕ → Bool
is_within from to page = nat_le from page && nat_lt page to

-- the image, from 0x10000 to 0x1_0000_0000
abbrev pub is_image : ℕ → Bool
is_image page = is_within 0x10 0x100000 page

-- the main stack, 16 pages from 0x1_000F_0000 to 0x1_0010_0000
abbrev pub first_stack_page : ℕ
first_stack_page = 0x1000F0

abbrev pub stack_size : ℕ
stack_size = 16

-- the address after its last byte
abbrev pub stack_end : ℕ
stack_end = 0x100100000

abbrev pub is_stack : ℕ → Bool
is_stack page = is_within 0x1000F0 0x100100 page

abbrev pub is_image_or_stack : ℕ → Bool
is_image_or_stack page = is_image page || is_stack page

-- shared regions, from 0x2_0000_0000 to 0x10_0000_0000
abbrev pub first_shared_page : ℕ
first_shared_page = 0x200000

abbrev pub is_shared : ℕ → Bool
is_shared page = is_within 0x200000 0x1000000 page

-- shadows, from 0x10_0000_0000 to 0x20_0000_0000
abbrev pub first_shadow_page : ℕ
first_shadow_page = 0x1000000

abbrev pub is_shadow : ℕ → Bool
is_shadow page = is_within 0x1000000 0x2000000 page

-- canonical pages, from 0x20_0000_0000 to 0x40_0000_0000
abbrev pub is_canonical_page : ℕ → Bool
is_canonical_page page = is_within 0x2000000 0x4000000 page

-- a page of one of these ranges
abbrev pub is_in_map : ℕ → Bool
is_in_map page = is_image_or_stack page || is_shared page || is_shadow page || is_canonical_page page
