-- The page tables of a process as the kernel keeps them. That there is one table over each piece
-- with a mapped page follows the RISC-V Privileged manual's Sv39; how they are kept is this
-- project's own.
use Rattle.std.specs.Prelude.{ℕ, zero, suc, ◌+◌, ◌-◌, ◌*◌, ◌^◌, ◌==◌, nat_lt, Bool, ◌&&◌, Option, Some, None, List, [], ◌∷◌, if◌then◌else◌}
use Rattle.osc_sv39.specs.declared.entries.PteEntry.{PteEntry}
use Rattle.osc_sv39.specs.declared.entries.PteEntry.TheVariants.{Absent, Table, Leaf}
use Rattle.osc_sv39.specs.declared.entries.Mapping.{Mapping}
use Rattle.osc_sv39.specs.Entries.{word_of}
use Rattle.osc_sv39.specs.Walk.{piece, is_canonical, number_of}
use Rattle.osc_paging.specs.declared.Piece.{Piece}
use Rattle.osc_paging.specs.declared.TableFrame.{TableFrame}
use Rattle.osc_paging.specs.declared.Mapped.{Mapped}
use Rattle.osc_paging.specs.declared.TablePlace.{TablePlace}

-- the mapped pages ascend by their numbers, and the tables by level and number. A leaf table that
-- was given up stands aside until its frame is given back. `top` is the level of the topmost
-- table, one less than the number of levels; `room` is how many pages may be mapped, and `count`
-- how many frames the machine has.
pub record KeptTables : Type 0 where
  pub top : ℕ
  pub pages : List Mapped
  pub tables : List TableFrame
  pub aside : List TableFrame
  pub room : ℕ
  pub count : ℕ

-- no table, of so many levels
abbrev pub closed : ℕ → ℕ → ℕ → KeptTables
closed levels count room =
    record { top = levels - 1; pages = []; tables = []; aside = []; room = room; count = count }

-- the number of levels of tables
abbrev pub levels_of : KeptTables → ℕ
levels_of t = suc t.top

abbrev pub is_piece : Piece → ℕ → ℕ → Bool
is_piece p level number = (p.level == level) && (p.number == number)

-- ---- pages
abbrev pub mapping_at : List Mapped → ℕ → Option Mapping
mapping_at [] number = None
mapping_at (m ∷ ms) number = if m.number == number then Some m.mapping else mapping_at ms number

-- the mapping of a page
abbrev pub mapping_of : KeptTables → ℕ → Option Mapping
mapping_of t page =
    if is_canonical (levels_of t) page then mapping_at t.pages (number_of (levels_of t) page) else None

-- the canonical page of this number, in the range of so many levels
abbrev pub canonical_page : ℕ → ℕ → ℕ
canonical_page levels number =
    if nat_lt number (2 ^ (9 * levels - 1)) then number else 2 ^ 52 - 2 ^ (9 * levels) + number

abbrev pub page_numbered : KeptTables → ℕ → ℕ
page_numbered t number = canonical_page (levels_of t) number

-- ---- tables
abbrev pub frame_of : List TableFrame → ℕ → ℕ → Option ℕ
frame_of [] level number = None
frame_of (t ∷ ts) level number = if is_piece t.piece level number then Some t.frame else frame_of ts level number

abbrev pub piece_of : List TableFrame → ℕ → Option Piece
piece_of [] frame = None
piece_of (t ∷ ts) frame = if t.frame == frame then Some t.piece else piece_of ts frame

-- the frame of the topmost table
abbrev pub root_of : KeptTables → Option ℕ
root_of t = frame_of t.tables t.top 0

-- what stands in a table of this level for its piece of this number
abbrev pub page_entry : Option Mapping → PteEntry
page_entry None = Absent
page_entry (Some mapping) = Leaf mapping.frame mapping.bits

abbrev pub link_entry : Option ℕ → PteEntry
link_entry None = Absent
link_entry (Some frame) = Table frame

abbrev pub child : KeptTables → ℕ → ℕ → PteEntry
child t zero number = page_entry (mapping_at t.pages number)
child t (suc level) number = link_entry (frame_of t.tables level number)

abbrev pub word_in : KeptTables → Option Piece → ℕ → ℕ
word_in t None index = 0
word_in t (Some p) index = word_of (child t p.level (p.number * 512 + index))

-- the word that the kept tables have there; a leaf aside has only words 0
abbrev pub kept_word : KeptTables → ℕ → ℕ → ℕ
kept_word t frame index = word_in t (piece_of t.tables frame) index

-- the place of a table
abbrev pub place_of : KeptTables → Piece → TablePlace
place_of t p = record { level = p.level; first = page_numbered t (p.number * 512 ^ suc p.level) }

abbrev pub placed : KeptTables → Option Piece → Option Piece → Option TablePlace
placed t (Some p) _ = Some (place_of t p)
placed t None (Some p) = Some (place_of t p)
placed t None None = None

-- the place of the table in this frame, or of the leaf aside
abbrev pub table_at : KeptTables → ℕ → Option TablePlace
table_at t frame = placed t (piece_of t.tables frame) (piece_of t.aside frame)

-- ---- need
abbrev pub lack : Option ℕ → ℕ
lack None = 1
lack (Some frame) = 0

-- how many of the tables of this level are not there, over so many pieces
unfoldable pub missing : List TableFrame → ℕ → ℕ → ℕ → ℕ
missing ts level from zero = 0
missing ts level from (suc count) = lack (frame_of ts level from) + missing ts level (from + 1) count

-- over how many pieces of this level so many pages lie
abbrev pub pieces_over : ℕ → ℕ → ℕ → ℕ
pieces_over level first zero = 0
pieces_over level first (suc more) = piece level (first + more) - piece level first + 1

-- the tables below this level that are not there, over so many pages
unfoldable pub need_below : List TableFrame → ℕ → ℕ → ℕ → ℕ
need_below ts zero first count = 0
need_below ts (suc level) first count =
    missing ts level (piece (suc level) first) (pieces_over (suc level) first count) + need_below ts level first count

-- the table frames that mapping so many pages newly takes
abbrev pub need : KeptTables → ℕ → ℕ → ℕ
need t first count = need_below t.tables t.top first count
