-- Each change of a process's tables, with the frames that it takes or gives and the jobs that it
-- leaves. It is this project's own. Rules are total: a rule whose condition fails changes nothing.
use Rattle.std.specs.Prelude.{ℕ, zero, suc, ◌+◌, ◌/◌, ◌%◌, ◌==◌, nat_lt, Bool, true, false, ◌&&◌, ◌||◌, Option, Some, None, List, [], ◌∷◌, ◌++◌, slice_set, slice_index, position, map, if◌then◌else◌}
use Rattle.osc_word.specs.declared.job_list.Job.{Job}
use Rattle.osc_word.specs.declared.job_list.Job.TheVariants.{PutWord, ZeroWords}
use Rattle.osc_sv39.specs.declared.entries.PteEntry.TheVariants.{Table, Leaf}
use Rattle.osc_sv39.specs.declared.entries.Mapping.{Mapping}
use Rattle.osc_sv39.specs.Entries.{word_of}
use Rattle.osc_sv39.specs.Walk.{piece}
use Rattle.osc_paging.specs.declared.Piece.{Piece}
use Rattle.osc_paging.specs.declared.TableFrame.{TableFrame}
use Rattle.osc_paging.specs.declared.Mapped.{Mapped}
use Rattle.osc_paging.specs.KeptTables.{KeptTables, is_piece, frame_of}

-- tables with the free frames, one truth value for each frame, and the jobs that were pushed
pub record Changed : Type 0 where
  pub tables : KeptTables
  pub free : List Bool
  pub jobs : List Job

abbrev pub put_job : ℕ → ℕ → ℕ → Job
put_job frame index value = PutWord (record { frame = frame; index = index }) value

abbrev pub zero_job : ℕ → Job
zero_job frame = ZeroWords (record { frame = frame; index = 0 }) 512

-- ---- lists in their order
abbrev pub table_frame : ℕ → ℕ → ℕ → TableFrame
table_frame level number frame = record { piece = record { level = level; number = number }; frame = frame }

-- a piece comes before another
abbrev pub is_before : Piece → Piece → Bool
is_before p q = nat_lt p.level q.level || ((p.level == q.level) && nat_lt p.number q.number)

abbrev pub with_table : TableFrame → List TableFrame → List TableFrame
with_table new [] = new ∷ []
with_table new (t ∷ ts) = if is_before t.piece new.piece then t ∷ with_table new ts else new ∷ t ∷ ts

abbrev pub without_table : ℕ → ℕ → List TableFrame → List TableFrame
without_table level number [] = []
without_table level number (t ∷ ts) =
    if is_piece t.piece level number then without_table level number ts else t ∷ without_table level number ts

abbrev pub with_page : ℕ → Mapping → List Mapped → List Mapped
with_page number mapping [] = (record { number = number; mapping = mapping }) ∷ []
with_page number mapping (m ∷ ms) =
    if nat_lt m.number number then m ∷ with_page number mapping ms
    else (record { number = number; mapping = mapping }) ∷ m ∷ ms

abbrev pub without_page : ℕ → List Mapped → List Mapped
without_page number [] = []
without_page number (m ∷ ms) = if m.number == number then without_page number ms else m ∷ without_page number ms

-- ---- map
-- the table of this level over the piece of this number, where it is missing: in the least free
-- frame, zeroed and then linked in its parent
abbrev pub linked : ℕ → ℕ → Option ℕ → Option ℕ → Option ℕ → Changed → Changed
linked level number None (Some parent) (Some frame) c = record {
  tables = record (c.tables) { tables = with_table (table_frame level number frame) c.tables.tables };
  free = slice_set c.free frame false;
  jobs = c.jobs ++ zero_job frame ∷ put_job parent (number % 512) (word_of (Table frame)) ∷ [];
}
linked level number (Some frame) _ _ c = c
linked level number None None _ c = c
linked level number None (Some parent) None c = c

abbrev pub link : ℕ → ℕ → Changed → Changed
link level number c =
    linked level number
    (frame_of c.tables.tables level number)
    (frame_of c.tables.tables (suc level) (number / 512))
    (position (λ b. b) c.free)
    c

-- the tables over a page below this level, from the top
unfoldable pub link_all : ℕ → ℕ → Changed → Changed
link_all zero number c = c
link_all (suc level) number c = link_all level number (link level (piece (suc level) number) c)

abbrev pub leaf_put : ℕ → Mapping → Option ℕ → Changed → Changed
leaf_put number mapping None c = c
leaf_put number mapping (Some table) c = record c {
  tables = record (c.tables) { pages = with_page number mapping c.tables.pages };
  jobs = c.jobs ++ put_job table (number % 512) (word_of (Leaf mapping.frame mapping.bits)) ∷ [];
}

abbrev pub put_leaf : ℕ → Mapping → Changed → Changed
put_leaf number mapping c = leaf_put number mapping (frame_of c.tables.tables 0 (number / 512)) c

-- the page of this number is mapped
abbrev pub map_page : ℕ → Mapping → Changed → Changed
map_page number mapping c = put_leaf number mapping (link_all c.tables.top number c)

-- pages from this one on, ascending
abbrev pub map_pages : ℕ → List Mapping → Changed → Changed
map_pages number [] c = c
map_pages number (mapping ∷ mappings) c = map_pages (number + 1) mappings (map_page number mapping c)

-- ---- unmap
-- the entry of the page of this number is cleared, where its leaf table is there
abbrev pub leaf_cleared : ℕ → Option ℕ → Changed → Changed
leaf_cleared number None c = c
leaf_cleared number (Some table) c = record c { jobs = c.jobs ++ put_job table (number % 512) 0 ∷ [] }

-- the page of this number is mapped no more
abbrev pub unmap_page : ℕ → Changed → Changed
unmap_page number c =
    leaf_cleared number (frame_of c.tables.tables 0 (number / 512))
    (record c { tables = record (c.tables) { pages = without_page number c.tables.pages } })

-- ---- leaf tables without an entry
abbrev pub unlinked : ℕ → Option ℕ → Option ℕ → Changed → Changed
unlinked leaf (Some frame) (Some parent) c = record c {
  tables = record (c.tables) {
    tables = without_table 0 leaf c.tables.tables;
    aside = c.tables.aside ++ table_frame 0 leaf frame ∷ [];
  };
  jobs = c.jobs ++ put_job parent (leaf % 512) 0 ∷ [];
}
unlinked leaf (Some frame) None c = c
unlinked leaf None _ c = c

-- the leaf table of this number is unlinked, and its frame stands aside
abbrev pub reclaim : ℕ → Changed → Changed
reclaim leaf c = unlinked leaf (frame_of c.tables.tables 0 leaf) (frame_of c.tables.tables 1 (leaf / 512)) c

abbrev pub frames_given : List TableFrame → List Bool → List Bool
frames_given [] free = free
frames_given (t ∷ ts) free = frames_given ts (slice_set free t.frame true)

-- the frames of the leaves aside are free
abbrev pub give_leaves : Changed → Changed
give_leaves c = record c {
  tables = record (c.tables) { aside = [] };
  free = frames_given c.tables.aside c.free;
}

-- ---- whole tables
-- the topmost table alone
abbrev pub opened : ℕ → KeptTables → KeptTables
opened root t = record t { tables = table_frame t.top 0 root ∷ [] }

-- no table any more
abbrev pub emptied : KeptTables → KeptTables
emptied t = record t { pages = []; tables = []; aside = [] }

abbrev pub renamed_page : List ℕ → Mapped → Mapped
renamed_page names m = record m { mapping = record (m.mapping) { frame = slice_index names m.mapping.frame } }

abbrev pub renamed_table : List ℕ → TableFrame → TableFrame
renamed_table names t = record t { frame = slice_index names t.frame }

-- the same pages and tables, with each frame under its new name
abbrev pub renamed : List ℕ → KeptTables → KeptTables
renamed names t = record t { pages = map (renamed_page names) t.pages; tables = map (renamed_table names) t.tables }
