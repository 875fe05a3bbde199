-- How many jobs each change pushes, and where they write.
use Rattle.std.proofs.Common.{ℕ, zero, suc, ◌+◌, ◌*◌, ◌/◌, ◌%◌, ◌≡◌, ◌<◌, ◌≤◌, nat_lt, min, max, Bool, true, false, cond, Option, Some, None, List, [], ◌∷◌, ◌++◌, length, map, position, arith, refl, ap, ◌∙◌, subst}
use Rattle.std.specs.List.{range_with_len}
use Rattle.std.proofs.lemmas.Bool.Decides.{nat_tests}
use Rattle.std.proofs.lemmas.List.{length-append, append_assoc}
use Rattle.osc_word.specs.declared.job_list.Job.{Job}
use Rattle.osc_word.specs.declared.job_list.Job.TheVariants.{ZeroWords, CopyWords}
use Rattle.osc_sv39.specs.declared.entries.Mapping.{Mapping}
use Rattle.osc_sv39.specs.declared.entries.PteEntry.TheVariants.{Table, Leaf}
use Rattle.osc_sv39.specs.Entries.{word_of}
use Rattle.osc_sv39.specs.Walk.{piece}
use Rattle.osc_slot.proofs.Backing.{free_count-take}
use Rattle.osc_slot.specs.Heap.{free_count}
use Rattle.osc_paging.specs.declared.TableFrame.{TableFrame}
use Rattle.osc_paging.specs.KeptTables.{frame_of, is_piece}
use Rattle.osc_paging.specs.TableChanges.{Changed, put_job, zero_job, linked, link, link_all, leaf_put, map_page, map_pages, leaf_cleared, unmap_page, table_frame, without_page}
use Rattle.osc_paging.proofs.Kept.{position_passes}
use Rattle.osc_class.specs.declared.Room.{Room}
use Rattle.osc_class.specs.Rooms.{IsRoom, block_bytes, shadow_pages}
use Rattle.osc_slot.specs.declared.Block.{Block}
use Rattle.osc_slot.specs.declared.HeapPage.{HeapPage}
use Rattle.osc_slot.proofs.Bounds.{bytes_within}
use Rattle.osc_space.specs.BlockWords.{Stretch, stretch, cut, stretches, words_in, block_word, zero_jobs, size_job, part_job, copy_jobs, trim_jobs, whole_end, words_end}
use Rattle.osc_space.specs.Fork.{table_frame_of}
use Rattle.osc_space.specs.Free.{unmap_all}
use Rattle.osc_parts.specs.Frames.{among}
use Rattle.osc_parts.specs.Jobs.{Pushed}
use Rattle.osc_parts.proofs.Counts.{table_more}
use Rattle.osc_parts.proofs.Blocks.{where_append, all_weaker, part_few}

pub pushed_none : (own : ℕ → Type 0) (jobs : List Job) (most : ℕ) → Pushed own jobs jobs most
pushed_none own jobs most = record { more = []; is = at_end jobs; few = omega arith; within = tt }
  where
    at_end : (xs : List Job) → xs ≡ xs ++ []
    at_end [] = refl
    at_end (x ∷ xs) = ap (λ ys. x ∷ ys) (at_end xs)

pub pushed_both : (own : ℕ → Type 0) (a b c : List Job) (m k : ℕ) → Pushed own a b m → Pushed own b c k → Pushed own a c (m + k)
pushed_both own a b c m k p q = record {
  more = p.more ++ q.more;
  is = q.is ∙ ap (λ xs. xs ++ q.more) p.is ∙ append_assoc a p.more q.more;
  few = (let e = length-append p.more q.more in let x = p.few in let y = q.few in omega (arith, e, x, y));
  within = where_append own p.more q.more p.within q.within;
}

pub pushed_weaker : (own other : ℕ → Type 0) (a b : List Job) (m k : ℕ) → ((f : ℕ) → own f → other f) → m ≤ k → Pushed own a b m → Pushed other a b k
pushed_weaker own other a b m k h l p = record { more = p.more; is = p.is; few = (let x = p.few in omega (arith, l, x)); within = all_weaker own other p.more h p.within }

-- ---- tables
abbrev pub IsOf : List TableFrame → ℕ → Type 0
IsOf ts f = 0 < among f (map table_frame_of ts)

pub found_counts : (l n f : ℕ) (ts : List TableFrame) → frame_of ts l n ≡ Some f → IsOf ts f
found_counts l n f [] e = absurd (let z : ⊥ = grind (arith, e) in z)
found_counts l n f (t ∷ ts) e = go (is_piece t.piece l n) refl (found_counts l n f ts)
  where
    go : (b : Bool) → is_piece t.piece l n ≡ b → (frame_of ts l n ≡ Some f → IsOf ts f) → IsOf (t ∷ ts) f
    go true d later = let same : t.frame ≡ f = grind (arith, d, e) in grind (arith, nat_tests, same)
    go false d later = let rest : frame_of ts l n ≡ Some f = grind (arith, d, e) in let m = later rest in omega (arith, m)

-- each table that is linked takes a frame and two jobs
pub record Links (c d : Changed) (most : ℕ) : Type 0 where
  pub grows : (f : ℕ) → among f (map table_frame_of c.tables.tables) ≤ among f (map table_frame_of d.tables.tables)
  pub count : ℕ
  pub pushed : Pushed (IsOf d.tables.tables) c.jobs d.jobs count
  pub few : count + 2 * free_count d.free ≤ most + 2 * free_count c.free

links_none : (c : Changed) → Links c c 0
links_none c = record { grows = λ f. omega arith; count = 0; pushed = pushed_none (IsOf c.tables.tables) c.jobs 0; few = omega arith }

links_both : (c d e : Changed) (m k : ℕ) → Links c d m → Links d e k → Links c e (m + k)
links_both c d e m k a b = record {
  grows = λ f. (let x = a.grows f in let y = b.grows f in omega (arith, x, y));
  count = a.count + b.count;
  pushed = pushed_both (IsOf e.tables.tables) c.jobs d.jobs e.jobs a.count b.count
      (pushed_weaker (IsOf d.tables.tables) (IsOf e.tables.tables) c.jobs d.jobs a.count a.count (λ f l. (let y = b.grows f in omega (arith, l, y))) (omega arith) a.pushed) b.pushed;
  few = (let x = a.few in let y = b.few in omega (arith, x, y));
}

linked-links : (l n : ℕ) (a b p : Option ℕ) (c : Changed) → frame_of c.tables.tables (suc l) (n / 512) ≡ b → position (λ x. x) c.free ≡ p → Links c (linked l n a b p c) 0
linked-links l n (Some g) b p c e q = links_none c
linked-links l n None None p c e q = links_none c
linked-links l n None (Some parent) None c e q = links_none c
linked-links l n None (Some parent) (Some g) c e q = record {
  grows = λ f. (let m = table_more f (table_frame l n g) c.tables.tables in omega (arith, m));
  count = 2;
  pushed = record {
    more = zero_job g ∷ put_job parent (n % 512) (word_of (Table g)) ∷ [];
    is = refl;
    few = omega arith;
    within = ((omega arith, own), ((omega arith, above), tt));
  };
  few = (let t = free_count-take c.free g (position_passes c.free g q) in omega (arith, t));
}
  where
    own : 0 < among g (map table_frame_of (linked l n None (Some parent) (Some g) c).tables.tables)
    own = let m = table_more g (table_frame l n g) c.tables.tables in grind (arith, nat_tests, m)

    above : 0 < among parent (map table_frame_of (linked l n None (Some parent) (Some g) c).tables.tables)
    above = let m = table_more parent (table_frame l n g) c.tables.tables in let f = found_counts (suc l) (n / 512) parent c.tables.tables e in omega (arith, m, f)

link_all-links : (l n : ℕ) (c : Changed) → Links c (link_all l n c) 0
unfolding link_all
link_all-links zero n c = links_none c
link_all-links (suc l) n c =
    let m = piece (suc l) n in
    links_both c (link l m c) (link_all l n (link l m c)) 0 0
    (linked-links l m (frame_of c.tables.tables l m) (frame_of c.tables.tables (suc l) (m / 512)) (position (λ x. x) c.free) c refl refl) (link_all-links l n (link l m c))

put-links : (n : ℕ) (m : Mapping) (x : Option ℕ) (c : Changed) → frame_of c.tables.tables 0 (n / 512) ≡ x → Links c (leaf_put n m x c) 1
put-links n m None c e = record { grows = λ f. omega arith; count = 0; pushed = pushed_none (IsOf c.tables.tables) c.jobs 0; few = omega arith }
put-links n m (Some t) c e = record {
  grows = λ f. omega arith;
  count = 1;
  pushed = record { more = put_job t (n % 512) (word_of (Leaf m.frame m.bits)) ∷ []; is = refl; few = omega arith; within = ((omega arith, found_counts 0 (n / 512) t c.tables.tables e), tt) };
  few = omega arith;
}

pub map_pages-links : (ms : List Mapping) (n : ℕ) (c : Changed) → Links c (map_pages n ms c) (length ms)
map_pages-links [] n c = links_none c
map_pages-links (m ∷ ms) n c =
    let d = link_all c.tables.top n c in
    let e = map_page n m c in
    let x = links_both c d e 0 1 (link_all-links c.tables.top n c) (put-links n m (frame_of d.tables.tables 0 (n / 512)) d refl) in
    let all = links_both c e (map_pages (n + 1) ms e) 1 (length ms) x (map_pages-links ms (n + 1) e) in
    record { grows = all.grows; count = all.count; pushed = all.pushed; few = (let f = all.few in omega (arith, f)) }

-- ---- blocks
stretch-few : (from to : ℕ) → length (stretch from to) ≤ 1
stretch-few from to = go (nat_lt from to)
  where
    go : (b : Bool) → length {A = Stretch} (cond b (record { from = from; to = to } ∷ []) []) ≤ 1
    go true = omega arith
    go false = omega arith

pub cut-few : (count piece from to : ℕ) → length (cut count piece from to) ≤ count
unfolding cut
cut-few zero piece from to = omega arith
cut-few (suc count) piece from to =
    let a = length-append (stretch (max from (4096 * piece)) (min to (4096 * piece + 4096))) (cut count (piece + 1) from to) in
    let b = stretch-few (max from (4096 * piece)) (min to (4096 * piece + 4096)) in
    let c = cut-few count (piece + 1) from to in
    omega (arith, a, b, c)

pub length-mapped : {X Y : Type 0} (f : X → Y) (xs : List X) → length (map f xs) ≡ length xs
length-mapped f [] = refl
length-mapped f (x ∷ xs) = ap suc (length-mapped f xs)

pub run_few : (from to pages : ℕ) → to ≤ 4096 * pages → length (stretches from to) ≤ pages
run_few from to pages l = let c = cut-few ((to + 4095) / 4096) 0 from to in omega (arith, c, l)

pub room_pages : (room : Room) → IsRoom room → block_bytes room ≤ 4096 * shadow_pages room
room_pages room r = let a = bytes_within room 0 r in omega (arith, a)

pub zeroes_few : (pages : List HeapPage) (block : Block) (from : ℕ) → IsRoom block.room → length (zero_jobs pages block from (block_bytes block.room)) ≤ shadow_pages block.room
zeroes_few pages block from r =
    let a = length-mapped (λ (x : Stretch). ZeroWords (block_word pages block x.from) (words_in x)) (stretches from (block_bytes block.room)) in
    let b = run_few from (block_bytes block.room) (shadow_pages block.room) (room_pages block.room r) in
    omega (arith, a, b)

pub copies_few : (pages : List HeapPage) (old block : Block) (bytes : ℕ) → IsRoom block.room → 16 + bytes ≤ block_bytes block.room → length (copy_jobs pages old block bytes) ≤ shadow_pages block.room + 1
copies_few pages old block bytes r l =
    let e = length-append (map (λ (s : Stretch). CopyWords (block_word pages old s.from) (block_word pages block s.from) (words_in s)) (stretches 16 (whole_end bytes))) (part_job pages old block bytes) in
    let a = length-mapped (λ (s : Stretch). CopyWords (block_word pages old s.from) (block_word pages block s.from) (words_in s)) (stretches 16 (whole_end bytes)) in
    let b = run_few 16 (whole_end bytes) (shadow_pages block.room) (let p = room_pages block.room r in omega (arith, p, l)) in
    let c = part_few pages old block bytes in
    omega (arith, e, a, b, c)

pub trims_few : (pages : List HeapPage) (block : Block) (bytes size : ℕ) → IsRoom block.room → length (trim_jobs pages block bytes size) ≤ shadow_pages block.room + 2
trims_few pages block bytes size r =
    let e = length-append (part_job pages block block bytes ++ zero_jobs pages block (words_end bytes) (block_bytes block.room)) (size_job pages block size ∷ []) in
    let f = length-append (part_job pages block block bytes) (zero_jobs pages block (words_end bytes) (block_bytes block.room)) in
    let a = part_few pages block block bytes in
    let b = zeroes_few pages block (words_end bytes) r in
    omega (arith, e, f, a, b)

-- ---- pages less
cleared-pushes : (n : ℕ) (x : Option ℕ) (c : Changed) → frame_of c.tables.tables 0 (n / 512) ≡ x → Pushed (IsOf c.tables.tables) c.jobs (leaf_cleared n x c).jobs 1
cleared-pushes n None c e = pushed_none (IsOf c.tables.tables) c.jobs 1
cleared-pushes n (Some t) c e = record { more = put_job t (n % 512) 0 ∷ []; is = refl; few = omega arith; within = ((omega arith, found_counts 0 (n / 512) t c.tables.tables e), tt) }

cleared-tables : (n : ℕ) (x : Option ℕ) (c : Changed) → (leaf_cleared n x c).tables.tables ≡ c.tables.tables
cleared-tables n None c = refl
cleared-tables n (Some t) c = refl

pub unmap_page-pushes : (n : ℕ) (c : Changed) → Pushed (IsOf c.tables.tables) c.jobs (unmap_page n c).jobs 1
unmap_page-pushes n c =
    cleared-pushes n (frame_of c.tables.tables 0 (n / 512)) (record c { tables = record (c.tables) { pages = without_page n c.tables.pages } }) refl

pub unmap_all-pushes : (count first : ℕ) (c : Changed) → Pushed (IsOf c.tables.tables) c.jobs (unmap_all (range_with_len first count) c).jobs count
unmap_all-pushes zero first c = pushed_none (IsOf c.tables.tables) c.jobs 0
unmap_all-pushes (suc count) first c =
    let d : Changed = record c { tables = record (c.tables) { pages = without_page first c.tables.pages } } in
    let x = frame_of c.tables.tables 0 (first / 512) in
    let a = cleared-pushes first x d refl in
    let b = unmap_all-pushes count (first + 1) (unmap_page first c) in
    let same : (unmap_page first c).tables.tables ≡ c.tables.tables = cleared-tables first x d in
    let all = pushed_both (IsOf c.tables.tables) c.jobs (unmap_page first c).jobs (unmap_all (range_with_len (first + 1) count) (unmap_page first c)).jobs 1 count a
    (subst (λ ts. Pushed (IsOf ts) (unmap_page first c).jobs (unmap_all (range_with_len (first + 1) count) (unmap_page first c)).jobs count) same b) in
    record { more = all.more; is = all.is; few = (let f = all.few in omega (arith, f)); within = all.within }
