-- The words of memory while a machine is made.
use Rattle.std.specs.Prelude.{ℕ, ◌≡◌, ◌≢◌, ◌+◌, ◌*◌, ◌<◌, ◌≤◌, Bool, Some, None, List, [], ◌∷◌, length, drop, slice_get}
use Rattle.byteorder.specs.Endian.{little_number}
use Rattle.osc_word.specs.declared.job_list.Job.{Job}
use Rattle.osc_word.specs.declared.job_list.Job.TheVariants.{PutWord, ZeroWords}
use Rattle.osc_sv39.specs.Walk.{word_at}
use Rattle.osc_sv39.specs.declared.entries.Mapping.{Mapping}
use Rattle.osc_sv39.specs.declared.flags.PteBits.{PteBits}
use Rattle.osc_paging.specs.KeptTables.{KeptTables, levels_of, mapping_at, piece_of, root_of}
use Rattle.osc_paging.specs.Agree.{Agrees}
use Rattle.osc_image.specs.Image.{Image}
use Rattle.osc_word.specs.declared.settings.Config.{Config}
use Rattle.osc_calls.specs.Open.{OpenPage, image_word, open_page, opening}

-- ---- the jobs with which a kernel opens
-- each puts a word or zeros
abbrev pub Writes : Job → Type 0
Writes (PutWord at value) = Unit {0}
Writes (ZeroWords at count) = Unit {0}
Writes _ = ⊥

abbrev pub AllWrite : List Job → Type 0
AllWrite [] = Unit {0}
AllWrite (job ∷ jobs) = Writes job × AllWrite jobs

-- no table is copied
abbrev pub no_entry : ℕ → ℕ → ℕ
no_entry frame index = 0

-- ---- a page
-- the word at an index of a page's bytes
abbrev pub page_word : List ℕ → ℕ → ℕ
page_word bytes index = little_number 8 (drop (8 * index) bytes)

-- the bytes of a page stand in a frame, and all other words are as they were
pub record PutsPage (frame : ℕ) (bytes words next : List ℕ) : Type 0 where
  pub size : length next ≡ length words
  pub put : (i : ℕ) → i < 512 → frame * 512 + 512 ≤ length words → word_at next frame i ≡ page_word bytes i
  pub others : (f i : ℕ) → i < 512 → f ≢ frame → word_at next f i ≡ word_at words f i

-- the bytes of an image's page do
pub record LaysPage (image : Image) (page frame : ℕ) (words next : List ℕ) : Type 0 where
  pub size : length next ≡ length words
  pub put : (i : ℕ) → i < 512 → frame * 512 + 512 ≤ length words → word_at next frame i ≡ image_word image (4096 * page + 8 * i)
  pub others : (f i : ℕ) → i < 512 → f ≢ frame → word_at next f i ≡ word_at words f i

-- the jobs of an opening do
abbrev pub OpeningWrites : Type 0
OpeningWrites = (pages : List OpenPage) (config : Config) → AllWrite (opening pages config).jobs

-- ---- all pages of an image
-- the page is one of these
abbrev pub IsAmong : ℕ → List OpenPage → Type 0
IsAmong page pages = (place : ℕ) × (bits : PteBits) × (slice_get pages place ≡ Some (open_page page bits))

-- the words agree with tables from this topmost one on, by which no two pages have one frame, and no page
-- has that of a table
pub record CanLay (t : KeptTables) (free : List Bool) (root levels : ℕ) (pages : List OpenPage) (words : List ℕ) : Type 0 where
  pub agrees : Agrees t free words
  pub bare : t.aside ≡ []
  pub levels_in : levels ≡ levels_of t
  pub root_in : root_of t ≡ Some root
  pub low : (page : ℕ) → IsAmong page pages → page < 0x100000
  pub apart : (p q : ℕ) (m n : Mapping) → mapping_at t.pages p ≡ Some m → mapping_at t.pages q ≡ Some n → m.frame ≡ n.frame → p ≡ q
  pub no_table : (p : ℕ) (m : Mapping) → mapping_at t.pages p ≡ Some m → piece_of t.tables m.frame ≡ None
  pub within : (p : ℕ) (m : Mapping) → mapping_at t.pages p ≡ Some m → m.frame < length free

-- the bytes of each page stand in its frame, the tables are as they were, and so are all words of other frames
pub record LaysImage (image : Image) (t : KeptTables) (free : List Bool) (pages : List OpenPage) (words next : List ℕ) : Type 0 where
  pub agrees : Agrees t free next
  pub laid : (page i : ℕ) (m : Mapping) → IsAmong page pages → mapping_at t.pages page ≡ Some m → i < 512 → word_at next m.frame i ≡ image_word image (4096 * page + 8 * i)
  pub others : (f i : ℕ) → i < 512 → ((page : ℕ) (m : Mapping) → IsAmong page pages → mapping_at t.pages page ≡ Some m → f ≢ m.frame) → word_at next f i ≡ word_at words f i
