-- The room of a request: the size classes and whole pages. This project's own.
use Rattle.std.specs.Prelude.{ℕ, ◌+◌, ◌*◌, ◌/◌, ◌<◌, nat_le, List, [], ◌∷◌, Option, Some, None, position, slice_index}
use Rattle.osc_class.specs.declared.Room.{Room}
use Rattle.osc_class.specs.declared.Room.TheVariants.{Small, Pages}

-- the size classes, in bytes
abbrev pub sizes : List ℕ
sizes = 32 ∷ 48 ∷ 64 ∷ 96 ∷ 128 ∷ 192 ∷ 256 ∷ 384 ∷ 512 ∷ 768 ∷ 1024 ∷ 1536 ∷ 2048 ∷ []

abbrev pub size_of : ℕ → ℕ
size_of class = slice_index sizes class

-- the least class of at least this many bytes; None where all are smaller
abbrev pub class_of : ℕ → Option ℕ
class_of bytes = position (λ size. nat_le bytes size) sizes

-- a size class, and whole pages where all classes are smaller
abbrev pub class_or_pages : Option ℕ → ℕ → Room
class_or_pages (Some class) bytes = Small class
class_or_pages None bytes = Pages ((bytes + 4095) / 4096)

-- the room of a request of n bytes, which has a header of 16
unfoldable pub room_of : ℕ → Room
room_of n = class_or_pages (class_of (n + 16)) (n + 16)

-- a class number is below 13, and a block of pages has a page
abbrev pub IsRoom : Room → Type 0
IsRoom (Small class) = class < 13
IsRoom (Pages pages) = 0 < pages

abbrev pub block_bytes : Room → ℕ
block_bytes (Small class) = size_of class
block_bytes (Pages pages) = 4096 * pages

abbrev pub shadow_pages : Room → ℕ
shadow_pages (Small class) = 1
shadow_pages (Pages pages) = pages
