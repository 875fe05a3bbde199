-- Where a block's pages and jobs are: its pages have frames of the heap, and its jobs write there.
use Rattle.std.proofs.Common.{ℕ, zero, suc, ◌+◌, ◌*◌, ◌/◌, ◌%◌, ◌≡◌, ◌≢◌, ◌<◌, ◌≤◌, ◌==◌, nat_le, Bool, true, false, cond, Option, Some, None, is_some, unwrap_or, List, [], ◌∷◌, ◌++◌, length, map, slice_get, arith, refl, ap, sym, ◌∙◌, subst, inl, inr}
use Rattle.std.proofs.lemmas.Bool.Decides.{nat_tests}
use Rattle.std.proofs.lemmas.List.Quantifiers.{position-Some}
use Rattle.osc_word.specs.declared.job_list.Job.{Job}
use Rattle.osc_word.specs.declared.job_list.Job.TheVariants.{PutWord, ZeroWords, CopyWords, CopyPart, CopyTable, ClearBox, Tell, ToOut}
use Rattle.osc_sv39.proofs.EntriesBack.{leaves_read_back}
use Rattle.osc_class.specs.declared.Room.{Room}
use Rattle.osc_class.specs.declared.Room.TheVariants.{Small, Pages}
use Rattle.osc_class.specs.Rooms.{room_of, class_of, class_or_pages, IsRoom, sizes, block_bytes, shadow_pages}
use Rattle.osc_slot.specs.declared.Block.{Block}
use Rattle.osc_slot.specs.declared.HeapPage.{HeapPage}
use Rattle.osc_slot.specs.Areas.{start_of, block_at_slot, offset_in}
use Rattle.osc_slot.specs.Slots.{is_on}
use Rattle.osc_slot.specs.Heap.{frame_of}
use Rattle.osc_slot.proofs.Bounds.{bytes_within}
use Rattle.osc_paging.specs.declared.TableFrame.{TableFrame}
use Rattle.osc_paging.specs.KeptTables.{KeptTables, piece_of}
use Rattle.osc_paging.specs.Agree.{ReadsAsLeaf}
use Rattle.osc_paging.specs.CopyLaws.{IsNoTable, WritesElsewhere, AllElsewhere}
use Rattle.osc_space.specs.LeafFlags.{read_write, read_write_at}
use Rattle.osc_space.specs.Fork.{table_frame_of, heap_frame_of}
use Rattle.osc_space.specs.BlockWords.{Stretch, stretches, words_in, block_word, frame_at, mappings_of, block_mappings, zero_jobs, zero_block, header_jobs, size_job, part_job, copy_jobs, trim_jobs, whole_end, words_end}
use Rattle.osc_space.specs.WordLaws.{AreCut, LiesInFrames, IsFrameOf, AllWriteIn, StayInFrames}
use Rattle.osc_space.proofs.WordLawProofs.{stretches_cut, block_jobs_stay, no_piece_crosses}
use Rattle.osc_parts.specs.Frames.{among}
use Rattle.osc_parts.specs.Jobs.{WritesWhere, AllWriteWhere}
use Rattle.osc_parts.proofs.Shapes.{AllRead}

-- ---- rooms
pub room_is_room : (n : ℕ) → IsRoom (room_of n)
unfolding room_of
room_is_room n = go (class_of (n + 16)) refl
  where
    go : (x : Option ℕ) → class_of (n + 16) ≡ x → IsRoom (class_or_pages x (n + 16))
    go (Some class) e = (position-Some (λ size. nat_le (n + 16) size) sizes class 0 e).0
    go None e = omega arith

pub room_bytes : (room : Room) → IsRoom room → 32 ≤ block_bytes room
room_bytes (Small class) r = grind arith
room_bytes (Pages pages) r = omega arith

-- ---- pages and frames
pub page_member : (pages : List HeapPage) (page f : ℕ) → frame_of pages page ≡ Some f → 0 < among f (map heap_frame_of pages)
page_member [] page f e = absurd (let z : ⊥ = grind (arith, e) in z)
page_member (p ∷ pages) page f e = go (p.page == page) refl (page_member pages page f)
  where
    go : (b : Bool) → (p.page == page) ≡ b → (frame_of pages page ≡ Some f → 0 < among f (map heap_frame_of pages)) → 0 < among f (map heap_frame_of (p ∷ pages))
    go true d later = let same : p.frame ≡ f = grind (arith, nat_tests, d, e) in grind (arith, nat_tests, same)
    go false d later = let rest : frame_of pages page ≡ Some f = grind (arith, nat_tests, d, e) in let m = later rest in omega (arith, m)

pub no_piece : (f : ℕ) (ts : List TableFrame) → among f (map table_frame_of ts) ≡ 0 → piece_of ts f ≡ None
no_piece f [] e = refl
no_piece f (t ∷ ts) e = go (t.frame == f) refl (no_piece f ts)
  where
    go : (b : Bool) → (t.frame == f) ≡ b → (among f (map table_frame_of ts) ≡ 0 → piece_of ts f ≡ None) → cond b (Some t.piece) (piece_of ts f) ≡ None
    go true d later = absurd (let z : ⊥ = grind (arith, nat_tests, d, e) in z)
    go false d later = later (grind (arith, nat_tests, d, e))

pub table_counts : (f : ℕ) (ts : List TableFrame) → piece_of ts f ≢ None → 0 < among f (map table_frame_of ts)
table_counts f [] h = absurd (h refl)
table_counts f (t ∷ ts) h = go (t.frame == f) refl (table_counts f ts)
  where
    go : (b : Bool) → (t.frame == f) ≡ b → (piece_of ts f ≢ None → 0 < among f (map table_frame_of ts)) → 0 < cond b 1 0 + among f (map table_frame_of ts)
    go true d later = omega arith
    go false d later = let more = later (λ e. h (grind (arith, nat_tests, d, e))) in omega (arith, more)

-- each page of a block has a frame
pub record HasFrames (pages : List HeapPage) (block : Block) : Type 0 where
  pub room : IsRoom block.room
  pub lies : LiesInFrames block
  pub ends : block.start % 4096 + block_bytes block.room ≤ 4096 * shadow_pages block.room
  pub framed : (page : ℕ) → is_on page block ≡ true → is_some (frame_of pages page) ≡ true

pub lies_at : (frames : ℕ) (room : Room) (slot : ℕ) → IsRoom room → LiesInFrames (block_at_slot frames room slot) × ((block_at_slot frames room slot).start % 4096 + block_bytes room ≤ 4096 * shadow_pages room)
lies_at frames (Small class) slot r =
    let b = bytes_within (Small class) slot r in
    let low : offset_in (Small class) slot < 4096 = (let p = room_bytes (Small class) r in omega (arith, b, p)) in
    let e : start_of frames (Small class) slot % 4096 ≡ offset_in (Small class) slot = omega (arith, low) in
    (inr (omega (arith, e, b)), omega (arith, e, b))
lies_at frames (Pages pages) slot r = (inl (omega arith), omega arith)

pub on_block : (pages : List HeapPage) (block : Block) (offset : ℕ) → HasFrames pages block → offset < block_bytes block.room → is_on ((block.start + offset) / 4096) block ≡ true
on_block pages block offset h l =
    let e = h.ends in
    let low : block.start / 4096 ≤ (block.start + offset) / 4096 = omega arith in
    let high : (block.start + offset) / 4096 < block.start / 4096 + shadow_pages block.room = omega (arith, e, l) in
    grind (arith, nat_tests, low, high)

pub frame_found : (pages : List HeapPage) (page : ℕ) → is_some (frame_of pages page) ≡ true → frame_of pages page ≡ Some (frame_at pages page)
frame_found pages page s = go (frame_of pages page) refl s
  where
    go : (x : Option ℕ) → frame_of pages page ≡ x → is_some x ≡ true → frame_of pages page ≡ Some (frame_at pages page)
    go None e t = absurd (let z : ⊥ = grind (arith, t) in z)
    go (Some f) e t = e ∙ sym (ap (λ y. Some (unwrap_or y 0)) e)

-- the frames of a block's words are the heap's
pub block_frame : (pages : List HeapPage) (block : Block) (frame : ℕ) → HasFrames pages block → IsFrameOf pages block frame → 0 < among frame (map heap_frame_of pages)
block_frame pages block frame h i =
    let on = on_block pages block i.offset h i.within in
    let found = frame_found pages ((block.start + i.offset) / 4096) (h.framed _ on) in
    subst (λ f. 0 < among f (map heap_frame_of pages)) i.is (page_member pages ((block.start + i.offset) / 4096) _ found)

-- ---- jobs
pub where_append : (own : ℕ → Type 0) (xs ys : List Job) → AllWriteWhere own xs → AllWriteWhere own ys → AllWriteWhere own (xs ++ ys)
where_append own [] ys h k = k
where_append own (x ∷ xs) ys h k = (h.0, where_append own xs ys h.1 k)

weaker : (own other : ℕ → Type 0) (job : Job) → ((f : ℕ) → own f → other f) → WritesWhere own job → WritesWhere other job
weaker own other (PutWord at value) h w = (w.0, h at.frame w.1)
weaker own other (ZeroWords at count) h w = (w.0, h at.frame w.1)
weaker own other (CopyWords from to count) h w = (w.0, w.1, h to.frame w.2)
weaker own other (CopyPart from to bytes) h w = (w.0, h to.frame w.1)
weaker own other (CopyTable from to) h w = h to w
weaker own other (ClearBox hart) h w = tt
weaker own other (Tell hart) h w = tt
weaker own other (ToOut at first count) h w = tt

pub all_weaker : (own other : ℕ → Type 0) (jobs : List Job) → ((f : ℕ) → own f → other f) → AllWriteWhere own jobs → AllWriteWhere other jobs
all_weaker own other [] h w = tt
all_weaker own other (job ∷ jobs) h w = (weaker own other job h w.0, all_weaker own other jobs h w.1)

elsewhere : (t : KeptTables) (job : Job) → WritesWhere (IsNoTable t) job → WritesElsewhere t job
elsewhere t (PutWord at value) w = w
elsewhere t (ZeroWords at count) w = w
elsewhere t (CopyWords from to count) w = (w.1, w.2)
elsewhere t (CopyPart from to bytes) w = w
elsewhere t (CopyTable from to) w = w
elsewhere t (ClearBox hart) w = tt
elsewhere t (Tell hart) w = tt
elsewhere t (ToOut at first count) w = tt

pub all_elsewhere : (t : KeptTables) (jobs : List Job) → AllWriteWhere (IsNoTable t) jobs → AllElsewhere t jobs
all_elsewhere t [] w = tt
all_elsewhere t (job ∷ jobs) w = (elsewhere t job w.0, all_elsewhere t jobs w.1)

-- the jobs on a block write in its frames
zeroes_where : (pages : List HeapPage) (block : Block) (ss : List Stretch) → AllWriteIn pages block (map (λ (s : Stretch). ZeroWords (block_word pages block s.from) (words_in s)) ss)
    → StayInFrames (map (λ (s : Stretch). ZeroWords (block_word pages block s.from) (words_in s)) ss)
    → AllWriteWhere (IsFrameOf pages block) (map (λ (s : Stretch). ZeroWords (block_word pages block s.from) (words_in s)) ss)
zeroes_where pages block [] w s = tt
zeroes_where pages block (x ∷ ss) w s = ((s.0, w.0), zeroes_where pages block ss w.1 s.1)

pub zero_where : (pages : List HeapPage) (block : Block) → LiesInFrames block → AllWriteWhere (IsFrameOf pages block) (zero_block pages block)
zero_where pages block l = zeroes_where pages block (stretches 16 (block_bytes block.room)) (block_jobs_stay pages block).zero (no_piece_crosses.zero pages block 16 (block_bytes block.room) l (omega arith))

pub header_where : (pages : List HeapPage) (block : Block) (size : ℕ) → 16 ≤ block_bytes block.room → AllWriteWhere (IsFrameOf pages block) (header_jobs pages block size)
header_where pages block size l =
    let w = (block_jobs_stay pages block).header size l in
    ((omega arith, w.0), ((omega arith, w.1.0), tt))

pub fill_where : (pages : List HeapPage) (block : Block) (size : ℕ) → HasFrames pages block → AllWriteWhere (IsFrameOf pages block) (zero_block pages block ++ header_jobs pages block size)
fill_where pages block size h =
    where_append (IsFrameOf pages block) (zero_block pages block) (header_jobs pages block size) (zero_where pages block h.lies)
    (header_where pages block size (let b = room_bytes block.room h.room in omega (arith, b)))

-- a request has room with its header
pub room_holds : (n : ℕ) → n + 16 ≤ block_bytes (room_of n)
unfolding room_of
room_holds n = go (class_of (n + 16)) refl
  where
    go : (x : Option ℕ) → class_of (n + 16) ≡ x → n + 16 ≤ block_bytes (class_or_pages x (n + 16))
    go (Some class) e = let p = (position-Some (λ size. nat_le (n + 16) size) sizes class 0 e).1 in grind (arith, nat_tests, p)
    go None e = omega arith

-- the jobs of bytes that are kept
zeroes_at : (pages : List HeapPage) (block : Block) (from to : ℕ) (ss : List Stretch) → AreCut from to ss → to ≤ block_bytes block.room
    → StayInFrames (map (λ (s : Stretch). ZeroWords (block_word pages block s.from) (words_in s)) ss)
    → AllWriteWhere (IsFrameOf pages block) (map (λ (s : Stretch). ZeroWords (block_word pages block s.from) (words_in s)) ss)
zeroes_at pages block from to [] c l s = tt
zeroes_at pages block from to (x ∷ ss) c l s =
    ((s.0, record { offset = x.from; within = (let a = c.1 in let b = c.2 in omega (arith, a, b, l)); is = refl }), zeroes_at pages block from to ss c.4 l s.1)

copies_at : (pages : List HeapPage) (old block : Block) (from to : ℕ) (ss : List Stretch) (rest : List Job) → AreCut from to ss → to ≤ block_bytes block.room
    → StayInFrames (map (λ (s : Stretch). CopyWords (block_word pages old s.from) (block_word pages block s.from) (words_in s)) ss ++ rest)
    → AllWriteWhere (IsFrameOf pages block) (map (λ (s : Stretch). CopyWords (block_word pages old s.from) (block_word pages block s.from) (words_in s)) ss)
copies_at pages old block from to [] rest c l s = tt
copies_at pages old block from to (x ∷ ss) rest c l s =
    ((s.0.0, s.0.1, record { offset = x.from; within = (let a = c.1 in let b = c.2 in omega (arith, a, b, l)); is = refl }), copies_at pages old block from to ss rest c.4 l s.1)

part_where : (pages : List HeapPage) (old block : Block) (bytes : ℕ) → 16 + bytes ≤ block_bytes block.room → AllWriteWhere (IsFrameOf pages block) (part_job pages old block bytes)
part_where pages old block bytes l = go (bytes % 8 == 0) refl
  where
    go : (b : Bool) → (bytes % 8 == 0) ≡ b → AllWriteWhere (IsFrameOf pages block) (cond b [] (CopyPart (block_word pages old (whole_end bytes)) (block_word pages block (whole_end bytes)) (bytes % 8) ∷ []))
    go true e = tt
    go false e = ((omega arith, record { offset = whole_end bytes; within = (let n : bytes % 8 ≢ 0 = grind (arith, nat_tests, e) in omega (arith, l, n)); is = refl }), tt)

pub part_few : (pages : List HeapPage) (old block : Block) (bytes : ℕ) → length (part_job pages old block bytes) ≤ 1
part_few pages old block bytes = go (bytes % 8 == 0)
  where
    go : (b : Bool) → length {A = Job} (cond b [] (CopyPart (block_word pages old (whole_end bytes)) (block_word pages block (whole_end bytes)) (bytes % 8) ∷ [])) ≤ 1
    go true = omega arith
    go false = omega arith

pub copy_where : (pages : List HeapPage) (old block : Block) (bytes : ℕ) → LiesInFrames old → LiesInFrames block → 16 + bytes ≤ block_bytes old.room → 16 + bytes ≤ block_bytes block.room → AllWriteWhere (IsFrameOf pages block) (copy_jobs pages old block bytes)
copy_where pages old block bytes j k l m =
    where_append (IsFrameOf pages block) (map (λ (s : Stretch). CopyWords (block_word pages old s.from) (block_word pages block s.from) (words_in s)) (stretches 16 (whole_end bytes))) (part_job pages old block bytes)
    (copies_at pages old block 16 (whole_end bytes) (stretches 16 (whole_end bytes)) (part_job pages old block bytes) (stretches_cut 16 (whole_end bytes)).cut (omega (arith, m))
    (no_piece_crosses.copy pages old block bytes j k (omega (arith, l)) (omega (arith, m))))
    (part_where pages old block bytes m)

pub trim_where : (pages : List HeapPage) (block : Block) (bytes size : ℕ) → LiesInFrames block → 16 + bytes ≤ block_bytes block.room → AllWriteWhere (IsFrameOf pages block) (trim_jobs pages block bytes size)
trim_where pages block bytes size k l =
    where_append (IsFrameOf pages block) (part_job pages block block bytes ++ zero_jobs pages block (words_end bytes) (block_bytes block.room)) (size_job pages block size ∷ [])
    (where_append (IsFrameOf pages block) (part_job pages block block bytes) (zero_jobs pages block (words_end bytes) (block_bytes block.room))
    (part_where pages block block bytes l)
    (zeroes_at pages block (words_end bytes) (block_bytes block.room) (stretches (words_end bytes) (block_bytes block.room)) (stretches_cut (words_end bytes) (block_bytes block.room)).cut (omega arith)
    (no_piece_crosses.zero pages block (words_end bytes) (block_bytes block.room) k (omega arith))))
    ((omega arith, record { offset = 8; within = omega (arith, l); is = refl }), tt)

-- ---- the mappings of a block's pages
pub reads : (f : ℕ) → f < 4096 → ReadsAsLeaf (read_write_at f)
reads f l = leaves_read_back f read_write (omega (arith, l)) (omega arith) refl

pub all_read : (pages : List HeapPage) (count first : ℕ) → ((page : ℕ) → first ≤ page → page < first + count → frame_at pages page < 4096) → AllRead (mappings_of pages first count)
all_read pages zero first h = tt
all_read pages (suc count) first h = (reads (frame_at pages first) (h first (omega arith) (omega arith)), all_read pages count (first + 1) (λ page l u. h page (omega (arith, l)) (omega (arith, u))))

pub taken_small : (free : List Bool) (f : ℕ) → slice_get free f ≡ Some false → f < length free
taken_small [] f e = absurd (let z : ⊥ = grind (arith, e) in z)
taken_small (x ∷ free) zero e = omega arith
taken_small (x ∷ free) (suc f) e = let l = taken_small free f e in omega (arith, l)

pub block_reads : (pages : List HeapPage) (block : Block) (free : List Bool) → HasFrames pages block → length free ≤ 4096 → ((f : ℕ) → 0 < among f (map heap_frame_of pages) → slice_get free f ≡ Some false) → AllRead (block_mappings pages block)
block_reads pages block free h small taken = all_read pages (shadow_pages block.room) (block.start / 4096) (λ page l u. by page l u)
  where
    by : (page : ℕ) → block.start / 4096 ≤ page → page < block.start / 4096 + shadow_pages block.room → frame_at pages page < 4096
    by page l u =
        let on : is_on page block ≡ true = grind (arith, nat_tests, l, u) in
        let found = frame_found pages page (h.framed page on) in
        let less = taken_small free (frame_at pages page) (taken (frame_at pages page) (page_member pages page (frame_at pages page) found)) in
        omega (arith, less, small)
