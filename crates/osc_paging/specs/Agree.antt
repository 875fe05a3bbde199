-- The words of memory agree with the kept tables. It is this project's own.
use Rattle.std.specs.Prelude.{ℕ, ◌+◌, ◌*◌, ◌/◌, ◌≡◌, ◌≢◌, ◌<◌, ◌≤◌, Bool, false, Some, None, List, [], ◌∷◌, slice_get, length}
use Rattle.osc_sv39.specs.declared.entries.PteEntry.TheVariants.{Absent, Leaf}
use Rattle.osc_sv39.specs.declared.entries.Mapping.{Mapping}
use Rattle.osc_sv39.specs.Entries.{word_of, entry_of}
use Rattle.osc_sv39.specs.Walk.{word_at}
use Rattle.osc_paging.specs.declared.Piece.{Piece}
use Rattle.osc_paging.specs.declared.TableFrame.{TableFrame}
use Rattle.osc_paging.specs.JobWords.{words_after}
use Rattle.osc_paging.specs.KeptTables.{KeptTables, child, frame_of, piece_of, mapping_at}
use Rattle.osc_paging.specs.TableChanges.{Changed}

-- no two tables have one piece or one frame
abbrev pub Apart : List TableFrame → Type 0
Apart [] = Unit {0}
Apart (t ∷ ts) = (frame_of ts t.piece.level t.piece.number ≡ None) × (piece_of ts t.frame ≡ None) × Apart ts

-- the leaf of a mapping reads as what it is made of
abbrev pub ReadsAsLeaf : Mapping → Type 0
ReadsAsLeaf m = entry_of (word_of (Leaf m.frame m.bits)) ≡ Leaf m.frame m.bits

pub record Agrees (t : KeptTables) (free : List Bool) (words : List ℕ) : Type 0 where
  pub size : length words ≡ length free * 512
  pub small : length free ≤ 4096
  pub apart : Apart t.tables
  pub taken : (f : ℕ) (p : Piece) → piece_of t.tables f ≡ Some p → slice_get free f ≡ Some false
  pub parents : (l n : ℕ) → l ≤ t.top → child t l n ≢ Absent → frame_of t.tables l (n / 512) ≢ None
  pub leaves : (n : ℕ) (m : Mapping) → mapping_at t.pages n ≡ Some m → ReadsAsLeaf m
  pub agree : (f i : ℕ) (p : Piece) → i < 512 → piece_of t.tables f ≡ Some p → word_at words f i ≡ word_of (child t p.level (p.number * 512 + i))
  pub spare : (f : ℕ) (p : Piece) → piece_of t.aside f ≡ Some p → (piece_of t.tables f ≡ None) × (slice_get free f ≡ Some false)
  pub zeros : (f i : ℕ) (p : Piece) → i < 512 → piece_of t.aside f ≡ Some p → word_at words f i ≡ 0

-- the words agree once the jobs are done
abbrev pub AgreesAfter : (ℕ → ℕ → ℕ) → List ℕ → Changed → Type 0
AgreesAfter entries words c = Agrees c.tables c.free (words_after entries c.jobs words)
