-- What was put into a builder. This project's own.
use Rattle.std.specs.Prelude.{ℕ, List, [], ◌∷◌, ◌++◌, length, slice_get, slice_set, Option, Some, None}
use Rattle.osc_asm.specs.declared.item.Item.{Item}

-- the instructions, for each label the index of the instruction at which it stands, once it is bound,
-- and the bytes
pub record Program : Type 0 where
  pub code : List Item
  pub labels : List (Option ℕ)
  pub bytes : List ℕ

abbrev pub empty : Program
empty = record { code = []; labels = []; bytes = [] }

-- a program with more instructions
abbrev pub with_code : Program → List Item → Program
with_code program items = record program { code = program.code ++ items }

-- a program with one more label
abbrev pub with_label : Program → Program
with_label program = record program { labels = program.labels ++ None ∷ [] }

-- a program whose label stands at the next instruction
abbrev pub with_bound : Program → ℕ → Program
with_bound program label = record program { labels = slice_set program.labels label (Some (length program.code)) }

-- a program with more bytes
abbrev pub with_bytes : Program → List ℕ → Program
with_bytes program piece = record program { bytes = program.bytes ++ piece }

abbrev pub joined : Option (Option ℕ) → Option ℕ
joined (Some place) = place
joined None = None

-- the index of the instruction at which a label stands, None where it is not bound
abbrev pub place_of : Program → ℕ → Option ℕ
place_of program label = joined (slice_get program.labels label)
