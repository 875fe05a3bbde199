-- What is written as an entry is read back.
use Rattle.std.specs.Prelude.{ℕ, ◌≡◌, ◌<◌, ◌^◌, Bool, ◌&&◌, not, IsTrue}
use Rattle.osc_sv39.specs.declared.flags.PteBits.{PteBits}
use Rattle.osc_sv39.specs.declared.entries.PteEntry.TheVariants.{Table, Leaf}
use Rattle.osc_sv39.specs.Entries.{word_of, entry_of, is_valid, is_pointer, is_reserved}

-- the flags are those of a leaf
abbrev pub is_leaf : PteBits → Bool
is_leaf bits = is_valid bits.0 && not (is_pointer bits.0) && not (is_reserved bits.0)

abbrev pub TablesReadBack : Type 0
TablesReadBack = (frame : ℕ) → frame < 2 ^ 32 → entry_of (word_of (Table frame)) ≡ Table frame

abbrev pub LeavesReadBack : Type 0
LeavesReadBack =
    (frame : ℕ) (bits : PteBits) → frame < 2 ^ 32 → bits.0 < 2 ^ 8 → IsTrue (is_leaf bits)
    → entry_of (word_of (Leaf frame bits)) ≡ Leaf frame bits
