-- Where what is shown of a process's tables leads: to what is kept, or to what was kept at the call's plan,
-- which is about to go while every cache is still to be cleared. This project's own.
use Rattle.std.specs.Prelude.{ℕ, suc, ◌+◌, ◌*◌, ◌≡◌, ◌<◌, ◌⊎◌, Bool, false, Some, List}
use Rattle.osc_word.specs.declared.job_list.Job.{Job}
use Rattle.osc_sv39.specs.declared.flags.PteBits.{PteBits}
use Rattle.osc_sv39.specs.declared.entries.PteEntry.TheVariants.{Table, Leaf}
use Rattle.osc_sv39.specs.declared.entries.Mapping.{Mapping}
use Rattle.osc_sv39.specs.Entries.{entry_of}
use Rattle.osc_sv39.specs.Walk.{word_at}
use Rattle.osc_paging.specs.declared.Piece.{Piece}
use Rattle.osc_paging.specs.KeptTables.{KeptTables, frame_of, piece_of, mapping_at}
use Rattle.osc_showing.specs.Showing.{is_closed, AllDue, Tidy, Shows}

abbrev pub piece_at : ℕ → ℕ → Piece
piece_at level number = record { level = level; number = number }

abbrev pub mapped_to : ℕ → PteBits → Mapping
mapped_to frame bits = record { frame = frame; bits = bits }

-- a link to the table of this level and number: it is kept and made, or a leaf table that stands aside
abbrev pub LinkLeads : ℕ → KeptTables → List Job → ℕ → ℕ → ℕ → Type 0
LinkLeads harts t js level number to =
    ((frame_of t.tables level number ≡ Some to) × (is_closed js to ≡ false))
    ⊎ ((level ≡ 0) × (piece_of t.aside to ≡ Some (piece_at 0 number)) × AllDue harts js)

-- the leaf of a page: it is mapped, or it was at the plan
abbrev pub LeafLeads : ℕ → KeptTables → KeptTables → List Job → ℕ → Mapping → Type 0
LeafLeads harts old t js number m =
    (mapping_at t.pages number ≡ Some m) ⊎ ((mapping_at old.pages number ≡ Some m) × AllDue harts js)

pub record Leads (harts : ℕ) (old t : KeptTables) (js : List Job) (words : List ℕ) : Type 0 where
  pub links : (f l n i to : ℕ) → i < 512 → piece_of t.tables f ≡ Some (piece_at (suc l) n) → is_closed js f ≡ false
      → entry_of (word_at words f i) ≡ Table to → LinkLeads harts t js l (n * 512 + i) to
  pub leaves : (f n i to : ℕ) (bits : PteBits) → i < 512 → piece_of t.tables f ≡ Some (piece_at 0 n) → is_closed js f ≡ false
      → entry_of (word_at words f i) ≡ Leaf to bits → LeafLeads harts old t js (n * 512 + i) (mapped_to to bits)
  -- a leaf table aside
  pub aside : (f n i to : ℕ) (bits : PteBits) → i < 512 → piece_of t.aside f ≡ Some (piece_at 0 n) → is_closed js f ≡ false
      → entry_of (word_at words f i) ≡ Leaf to bits → (mapping_at old.pages (n * 512 + i) ≡ Some (mapped_to to bits)) × AllDue harts js

-- the law
abbrev pub ShownLeads : Type 0
ShownLeads =
    (harts : ℕ) (old t : KeptTables) (before free : List Bool) (js : List Job) (words : List ℕ)
    → Tidy old before → Shows harts old t free js words → Leads harts old t js words
