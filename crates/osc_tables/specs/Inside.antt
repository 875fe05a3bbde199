-- What the lists of tables always are, inside.
use Rattle.std.specs.Prelude.{ℕ, suc, ◌+◌, ◌*◌, ◌^◌, ◌≡◌, ◌<◌, ◌≤◌, true, Some, None, List, [], ◌∷◌, length}
use Rattle.osc_paging.specs.declared.Piece.{Piece}
use Rattle.osc_paging.specs.declared.TableFrame.{TableFrame}
use Rattle.osc_paging.specs.declared.Mapped.{Mapped}
use Rattle.osc_paging.specs.KeptTables.{KeptTables, piece_of}
use Rattle.osc_paging.specs.TableChanges.{is_before}

-- the level of the topmost table, where there are three or four levels
abbrev pub IsTop : ℕ → Type 0
IsTop top = (2 ≤ top) × (top ≤ 3)

abbrev pub kept : ℕ → List Mapped → List TableFrame → List TableFrame → ℕ → ℕ → KeptTables
kept top pages tables aside room count =
    record { top = top; pages = pages; tables = tables; aside = aside; room = room; count = count }

-- the numbers ascend, from `low` on
abbrev pub AscendFrom : ℕ → List Mapped → Type 0
AscendFrom low [] = Unit {0}
AscendFrom low (m ∷ ms) = (low ≤ m.number) × AscendFrom (suc m.number) ms

-- each page has a number below this one
abbrev pub PagesBelow : ℕ → List Mapped → Type 0
PagesBelow high [] = Unit {0}
PagesBelow high (m ∷ ms) = (m.number < high) × PagesBelow high ms

-- the piece comes before each of these tables
abbrev pub ComesBefore : Piece → List TableFrame → Type 0
ComesBefore p [] = Unit {0}
ComesBefore p (t ∷ ts) = (is_before p t.piece ≡ true) × ComesBefore p ts

-- the tables stand in their order
abbrev pub InOrder : List TableFrame → Type 0
InOrder [] = Unit {0}
InOrder (t ∷ ts) = ComesBefore t.piece ts × InOrder ts

-- each table lies in the range of so many levels
abbrev pub LieWithin : ℕ → List TableFrame → Type 0
LieWithin levels [] = Unit {0}
LieWithin levels (t ∷ ts) =
    (t.piece.level < levels) × (t.piece.number * 512 ^ suc t.piece.level < 512 ^ levels) × LieWithin levels ts

-- no frame stands twice
abbrev pub Differ : List TableFrame → Type 0
Differ [] = Unit {0}
Differ (t ∷ ts) = (piece_of ts t.frame ≡ None) × Differ ts

pub record IsKept (top : ℕ) (pages : List Mapped) (tables aside : List TableFrame) (room count : ℕ) : Type 0 where
  pub range : IsTop top
  pub pages_fit : length pages ≤ room
  pub tables_fit : length tables + length aside ≤ count
  pub ascend : AscendFrom 0 pages
  pub pages_lie : PagesBelow (512 ^ suc top) pages
  pub tables_lie : LieWithin (suc top) tables
  pub tables_order : InOrder tables
  pub aside_lie : LieWithin (suc top) aside
  pub tables_differ : Differ tables
  pub aside_differ : Differ aside
  pub apart : (f : ℕ) (p : Piece) → piece_of aside f ≡ Some p → piece_of tables f ≡ None
