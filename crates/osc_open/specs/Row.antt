-- Laying pages one after another, while the first frames are taken and the others are free. This
-- project's own.
use Rattle.std.specs.Prelude.{ℕ, zero, suc, ◌+◌, ◌-◌, ◌*◌, ◌≡◌, ◌<◌, ◌≤◌, Bool, true, false, None, List, [], ◌∷◌, length, map, filter, is_none, replicate, IsTrue}
use Rattle.osc_word.specs.JobList.{JobList, spare}
use Rattle.osc_frames.specs.Free.{free_count}
use Rattle.osc_sv39.specs.declared.flags.PteBits.{PteBits}
use Rattle.osc_sv39.specs.ReadBack.{is_leaf}
use Rattle.osc_sv39.specs.Walk.{piece}
use Rattle.osc_image.specs.Frames.{different}
use Rattle.osc_paging.specs.declared.TableFrame.{TableFrame}
use Rattle.osc_paging.specs.KeptTables.{KeptTables, mapping_at, frame_of}
use Rattle.osc_space.specs.LeafFlags.{leaf_of_page}
use Rattle.osc_calls.specs.Open.{OpenPage, open_page, all_pages}
use Rattle.osc_tables.specs.Inside.{IsTop}
use Rattle.osc_tables.specs.Calls.{HasTaken, IsOpen}
use Rattle.osc_open.specs.Laying.{number_of_page}

-- so many frames are taken, and as many as `left` are free after them
abbrev pub first_taken : ℕ → ℕ → List Bool
first_taken zero left = replicate left true
first_taken (suc taken) left = false ∷ first_taken taken left

-- there is no table over the piece
abbrev pub is_absent : List TableFrame → ℕ → ℕ → Bool
is_absent ts level number = is_none (frame_of ts level number)

-- the tables below a level that these pages lack
abbrev pub lacking : List TableFrame → ℕ → List ℕ → ℕ
lacking ts zero numbers = 0
lacking ts (suc l) numbers = different (filter (is_absent ts l) (map (piece (suc l)) numbers)) + lacking ts l numbers

-- pages ascend from a number on, below the pages that no process has, and what each permits makes a leaf
abbrev pub AreLow : ℕ → List OpenPage → Type 0
AreLow low [] = Unit {0}
AreLow low (p ∷ ps) =
    (low ≤ p.page) × (p.page < 67108864) × IsTrue (is_leaf (leaf_of_page p.bits)) × AreLow (suc p.page) ps

-- these pages can be laid one after another in a machine of so many frames
pub record CanLay (count : ℕ) (ps : List OpenPage) (t : KeptTables) (free : List Bool) (jobs : JobList) : Type 0 where
  pub low : ℕ
  pub pages : AreLow low ps
  pub unmapped : (q : ℕ) → low ≤ q → mapping_at t.pages q ≡ None
  pub opened : IsOpen t
  pub range : IsTop t.top
  pub left : length t.pages + length ps ≤ t.room
  pub taken : HasTaken t free
  pub few : free_count free ≤ count
  pub first : free ≡ first_taken (count - free_count free) (free_count free)
  pub enough : length ps + lacking t.tables t.top (map number_of_page ps) ≤ free_count free
  pub spare : 7 * length ps ≤ spare jobs

-- this page can be laid, before others
pub record CanLayFirst (count : ℕ) (p : OpenPage) (t : KeptTables) (free : List Bool) (jobs : JobList) : Type 0 where
  pub rest : List OpenPage
  pub can : CanLay count (p ∷ rest) t free jobs

-- so many pages from one on, which permit the same
unfoldable pub alike : ℕ → ℕ → PteBits → List OpenPage
alike first zero bits = []
alike first (suc n) bits = open_page first bits ∷ alike (suc first) n bits

-- these pages, and then those of the stack
unfoldable pub with_stack : List OpenPage → List OpenPage
with_stack pages = all_pages pages
