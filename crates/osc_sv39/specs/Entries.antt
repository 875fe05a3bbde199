-- Entries of page tables: RISC-V Privileged manual, "Sv39: Page-Based 39-bit Virtual-Memory System".
-- Flags are numbered as there: V is bit 0, then R, W, X, U, G, A and D. Bits 9 and 8 are for
-- software, the number of a frame is in bits 53 to 10, and bits 63 to 54 are reserved. That G, a
-- frame's number of more than 32 bits, and a leaf without A or D are reserved too is this
-- project's own.
use Rattle.std.specs.Prelude.{ℕ, ◌+◌, ◌*◌, ◌/◌, ◌%◌, ◌^◌, ◌==◌, Bool, ◌&&◌, ◌||◌, not, if◌then◌else◌}
use Rattle.std.specs.Int.{bit_at}
use Rattle.osc_sv39.specs.declared.entries.PteEntry.{PteEntry}
use Rattle.osc_sv39.specs.declared.entries.PteEntry.TheVariants.{Absent, Table, Leaf, Reserved}
use Rattle.osc_sv39.specs.declared.entries.Access.{Access}
use Rattle.osc_sv39.specs.declared.entries.Access.TheVariants.{Fetch, Load, Store}

-- the word of an entry
abbrev pub word_of : PteEntry → ℕ
word_of Absent = 0
word_of (Table frame) = frame * 1024 + 1
word_of (Leaf frame bits) = frame * 1024 + bits.0
word_of Reserved = 0

abbrev pub is_valid : ℕ → Bool
is_valid word = bit_at word 0 == 1

abbrev pub is_readable : ℕ → Bool
is_readable word = bit_at word 1 == 1

abbrev pub is_writable : ℕ → Bool
is_writable word = bit_at word 2 == 1

abbrev pub is_executable : ℕ → Bool
is_executable word = bit_at word 3 == 1

abbrev pub is_user : ℕ → Bool
is_user word = bit_at word 4 == 1

abbrev pub is_global : ℕ → Bool
is_global word = bit_at word 5 == 1

abbrev pub is_accessed : ℕ → Bool
is_accessed word = bit_at word 6 == 1

abbrev pub is_dirty : ℕ → Bool
is_dirty word = bit_at word 7 == 1

-- R, W and X are 0: the entry points to a table
abbrev pub is_pointer : ℕ → Bool
is_pointer word = not (is_readable word || is_writable word || is_executable word)

-- a pointer has U, A and D clear, and a leaf has A and D set
abbrev pub is_odd_pointer : ℕ → Bool
is_odd_pointer word = is_pointer word && (is_user word || is_accessed word || is_dirty word)

abbrev pub is_odd_leaf : ℕ → Bool
is_odd_leaf word = not (is_pointer word) && not (is_accessed word && is_dirty word)

-- flags that no valid entry has
abbrev pub is_reserved : ℕ → Bool
is_reserved word =
    is_global word || (is_writable word && not (is_readable word)) || is_odd_pointer word || is_odd_leaf word

-- bits 63 to 54 are 0, and the frame's number is below 2 ^ 32
abbrev pub is_in_range : ℕ → Bool
is_in_range word = word / 2 ^ 42 == 0

-- what a word says
abbrev pub entry_of : ℕ → PteEntry
entry_of word =
    if not (is_valid word) then Absent
    else if not (is_in_range word) || is_reserved word then Reserved
    else if is_pointer word then Table (word / 1024)
    else Leaf (word / 1024) (record { 0 = word % 256 })

-- the flags let the guest make this access
abbrev pub is_allowed : ℕ → Access → Bool
is_allowed bits Fetch = is_user bits && is_executable bits
is_allowed bits Load = is_user bits && is_readable bits
is_allowed bits Store = is_user bits && is_writable bits
