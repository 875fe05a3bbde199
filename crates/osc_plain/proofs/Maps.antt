-- The next block is placed and its new pages are mapped: that they can be, what it makes, and how many
-- jobs it leaves.
use Rattle.std.proofs.Common.{ℕ, zero, suc, ◌+◌, ◌-◌, ◌*◌, ◌/◌, ◌^◌, ◌≡◌, ◌<◌, ◌≤◌, ◌==◌, ◌++◌, Bool, true, false, cond, List, [], ◌∷◌, Option, Some, None, arith, refl, ap, sym, subst, ◌∙◌, length, position}
use Rattle.std.specs.Prelude.{is_some, nat_lt}
use Rattle.std.proofs.lemmas.Bool.Decides.{nat_tests}
use Rattle.std.proofs.lemmas.List.{length-append}
use Rattle.osc_word.specs.JobList.{JobList}
use Rattle.osc_word.specs.declared.job_list.Job.{Job}
use Rattle.osc_word.specs.declared.settings.HeapKind.TheVariants.{Plain}
use Rattle.osc_sv39.specs.declared.entries.Mapping.{Mapping}
use Rattle.osc_sv39.specs.Walk.{piece, number_of}
use Rattle.osc_frames.specs.Free.{IsTaken}
use Rattle.osc_frames.proofs.FreeCount.{free_count-set}
use Rattle.osc_class.specs.declared.Room.{Room}
use Rattle.osc_class.specs.Rooms.{IsRoom, block_bytes, shadow_pages}
use Rattle.osc_slot.specs.declared.Block.{Block}
use Rattle.osc_slot.specs.declared.HeapPage.{HeapPage}
use Rattle.osc_slot.specs.Slots.{need as block_need}
use Rattle.osc_slot.specs.Heap.{Heap, HeapAndFree, IsHeap, free_count, next_block, place}
use Rattle.osc_slot.proofs.Backing.{free_count-le}
use Rattle.osc_paging.specs.KeptTables.{KeptTables, levels_of, mapping_at, frame_of, need as table_need}
use Rattle.osc_paging.specs.TableChanges.{Changed, linked, link, link_all, leaf_put, map_page, map_pages}
use Rattle.osc_paging.specs.TableLaws.{free_frames}
use Rattle.osc_paging.proofs.Kept.{position_passes}
use Rattle.osc_paging.proofs.Needed.{link_all-pages}
use Rattle.osc_paging.proofs.TableLists.{mapping_at-with_page}
use Rattle.osc_tables.specs.Calls.{changed, AllCanonical, IsOrdered}
use Rattle.osc_tables.specs.Inside.{IsTop}
use Rattle.osc_space.specs.Space.{with_changed}
use Rattle.osc_space.specs.BlockWords.{block_mappings, mappings_of, zero_block, header_jobs}
use Rattle.osc_space.specs.Malloc.{fill_block}
use Rattle.osc_space.specs.PlainHeap.{map_blocks, place_plain}
use Rattle.osc_space.specs.Agree.{HasSpare}
use Rattle.osc_share.proofs.Room.{has_room, has_taken}
use Rattle.osc_shadow.specs.Mapping.{CanMap}
use Rattle.osc_shadow.specs.Pieces.{pieces}
use Rattle.osc_shadow.proofs.Agreed.{place_takes, place_keeps_taken}
use Rattle.osc_shadow.proofs.Granted.{few_pieces, few_block_pages}
use Rattle.osc_shadow.proofs.LowPages.{is_low}
use Rattle.osc_plain.specs.Plan.{space_of, draft, lacks, PartsAgree}
use Rattle.osc_plain.proofs.Lying.{frames_agree, need_whole, next_bytes, next_lies, next_unmapped}

-- ---- the need over the pages of a block
pub all_low : (t : KeptTables) (first count : ℕ) → IsTop t.top → first + count ≤ 2 ^ 26 → AllCanonical (levels_of t) first count
all_low t first count top low = λ k l. (is_low t.top (first + k) top (omega arith)).0

pub need_lacks : (t : KeptTables) (heap : Heap) (free : List Bool) (room : Room) (first pages x : ℕ) → IsTop t.top → first ≡ (next_block heap room).start / 4096 → first < 2 ^ 26
    → pages ≡ block_need heap.frames heap.held room → pages ≤ free_count free → x ≡ table_need t (number_of (levels_of t) first) pages
    → nat_lt (free_count free - pages) x ≡ lacks t heap free room
need_lacks t heap free room first pages x top a low b l e =
    let number = (is_low t.top first top low).1 in
    let is : x ≡ table_need t ((next_block heap room).start / 4096) (block_need heap.frames heap.held room) = e ∙ ap (λ n. table_need t n pages) (number ∙ a) ∙ ap (λ n. table_need t ((next_block heap room).start / 4096) n) b in
    moves (free_count free) pages x l ∙ ap (λ n. nat_lt (free_count free) (pages + n)) is ∙ ap (λ n. nat_lt (free_count free) (n + table_need t ((next_block heap room).start / 4096) (block_need heap.frames heap.held room))) b
  where
    moves : (f p x : ℕ) → p ≤ f → nat_lt (f - p) x ≡ nat_lt f (p + x)
    moves f p x l = grind (arith, nat_tests)

pub more_lacks : (t : KeptTables) (heap : Heap) (free : List Bool) (room : Room) (pages : ℕ) → pages ≡ block_need heap.frames heap.held room → free_count free < pages → lacks t heap free room ≡ true
more_lacks t heap free room pages b l = go (free_count free) (block_need heap.frames heap.held room) (table_need t ((next_block heap room).start / 4096) (block_need heap.frames heap.held room)) (omega (arith, b, l))
  where
    go : (f p x : ℕ) → f < p → nat_lt f (p + x) ≡ true
    go f p x l = grind (arith, nat_tests)

-- ---- what is not refused
pub enough : (t : KeptTables) (heap : Heap) (free : List Bool) (room : Room) → lacks t heap free room ≡ false
    → block_need heap.frames heap.held room + table_need t ((next_block heap room).start / 4096) (block_need heap.frames heap.held room) ≤ free_count free
enough t heap free room e = go (block_need heap.frames heap.held room + table_need t ((next_block heap room).start / 4096) (block_need heap.frames heap.held room)) e
  where
    go : (n : ℕ) → nat_lt (free_count free) n ≡ false → n ≤ free_count free
    go n e = grind (arith, nat_tests, e)

pub can_map : (t : KeptTables) (heap : Heap) (free now : List Bool) (jobs after : JobList) (room : Room) (first : ℕ)
    → PartsAgree t heap free → IsOrdered t → IsHeap heap → IsRoom room → lacks t heap free room ≡ false → 0 < block_need heap.frames heap.held room
    → HasSpare jobs (length free)
    → first ≡ (next_block heap room).start / 4096
    → now ≡ (place heap room free).free → length now ≡ length free
    → length after.pushed ≤ length jobs.pushed + (pieces (block_bytes room) + 2) → after.room ≡ jobs.room
    → CanMap t now after first (shadow_pages room)
can_map t heap free now jobs after room first p order h r lack some has_spare first_is now_is count few same =
    let has = enough t heap free room lack in
    let whole = need_whole heap room some in
    let l = next_lies heap room free h (frames_agree t heap free p) r p.few (omega (arith, has)) in
    let low = l.low in
    let taken = has_taken Plain (space_of p.shadows t heap) p.regions free p.agrees in
    let room_left = has_room Plain (space_of p.shadows t heap) p.regions free p.agrees order.ascend in
    let takes = place_takes heap room free (omega (arith, has)) in
    let now_free : free_count now ≡ free_count (place heap room free).free = ap free_count now_is in
    let few_pieces_here = few_pieces room r in
    let most = free_count-le free in
    record {
      top = order.range;
      opened = p.agrees.root;
      low = omega (arith, low, first_is);
      unmapped = λ page from to. next_unmapped t heap free room p h r (omega (arith, has)) page (omega (arith, first_is, from)) (omega (arith, first_is, whole, to));
      left = omega (arith, room_left, has, whole);
      taken = record {
        count = count ∙ taken.count;
        tables = λ f q e. subst (λ (x : List Bool). IsTaken x f) (sym now_is) (place_keeps_taken heap room free f (taken.tables f q e));
        aside = λ f q e. subst (λ (x : List Bool). IsTaken x f) (sym now_is) (place_keeps_taken heap room free f (taken.aside f q e));
      };
      need = (let n : table_need t ((next_block heap room).start / 4096) (shadow_pages room) ≤ free_count now = subst (λ k. table_need t ((next_block heap room).start / 4096) k ≤ free_count now) whole (omega (arith, has, takes, now_free)) in
          subst (λ k. table_need t k (shadow_pages room) ≤ free_count now) (sym first_is) n);
      spare = omega (arith, few, same, has_spare, now_free, takes, few_pieces_here, most, whole, has);
    }

-- ---- what it makes
made : (shadows n count first : ℕ) (t u : KeptTables) (h : HeapAndFree) (block : Block) (jobs pushed : List Job) (after : List Bool)
    → changed u after pushed ≡ map_pages first (mappings_of h.heap.pages first count) (changed t h.free (jobs ++ (zero_block h.heap.pages block ++ header_jobs h.heap.pages block n)))
    → draft shadows u h.heap after pushed ≡ map_blocks first count (fill_block block n (draft shadows t h.heap h.free jobs))
made shadows n count first t u h block jobs pushed after e =
    ap (λ c. with_changed c (draft shadows t h.heap h.free (jobs ++ (zero_block h.heap.pages block ++ header_jobs h.heap.pages block n)))) e

pub plan_is : (shadows n : ℕ) (t u : KeptTables) (heap now : Heap) (room : Room) (block : Block) (free frames after : List Bool) (jobs filled pushed : List Job)
    → block ≡ next_block heap room → now ≡ (place heap room free).heap → frames ≡ (place heap room free).free
    → filled ≡ jobs ++ (zero_block now.pages block ++ header_jobs now.pages block n)
    → changed u after pushed ≡ map_pages (block.start / 4096) (mappings_of now.pages (block.start / 4096) (block_need heap.frames heap.held room)) (changed t frames filled)
    → draft shadows u now after pushed ≡ place_plain n (next_block heap room) (draft shadows t heap free jobs)
plan_is shadows n t u heap now room block free frames after jobs filled pushed b a f j e =
    let count = block_need heap.frames heap.held room in
    let P : List Job → Type 0 = λ x. changed u after pushed ≡ map_pages (block.start / 4096) (mappings_of now.pages (block.start / 4096) (block_need heap.frames heap.held room)) (changed t frames x) in
    let Q : Heap → Type 0 = λ x. changed u after pushed ≡ map_pages (block.start / 4096) (mappings_of x.pages (block.start / 4096) (block_need heap.frames heap.held room)) (changed t frames (jobs ++ (zero_block x.pages block ++ header_jobs x.pages block n))) in
    let R : List Bool → Type 0 = λ x. changed u after pushed ≡ map_pages (block.start / 4096) (mappings_of (place heap room free).heap.pages (block.start / 4096) (block_need heap.frames heap.held room)) (changed t x (jobs ++ (zero_block (place heap room free).heap.pages block ++ header_jobs (place heap room free).heap.pages block n))) in
    let S : Block → Type 0 = λ x. draft shadows u (place heap room free).heap after pushed ≡ map_blocks (x.start / 4096) (block_need heap.frames heap.held room) (fill_block x n (draft shadows t (place heap room free).heap (place heap room free).free jobs)) in
    ap (λ x. draft shadows u x after pushed) a
    ∙ subst S b (made shadows n count (block.start / 4096) t u (place heap room free) block jobs pushed after (subst R f (subst Q a (subst P j e))))

pub plan_none : (shadows n : ℕ) (t : KeptTables) (heap now : Heap) (room : Room) (block : Block) (free frames : List Bool) (jobs filled : List Job)
    → block ≡ next_block heap room → now ≡ (place heap room free).heap → frames ≡ (place heap room free).free
    → filled ≡ jobs ++ (zero_block now.pages block ++ header_jobs now.pages block n)
    → block_need heap.frames heap.held room ≡ 0
    → draft shadows t now frames filled ≡ place_plain n (next_block heap room) (draft shadows t heap free jobs)
plan_none shadows n t heap now room block free frames jobs filled b a f j z =
    plan_is shadows n t t heap now room block free frames frames jobs filled filled b a f j
    (ap (λ k. map_pages (block.start / 4096) (mappings_of now.pages (block.start / 4096) k) (changed t frames filled)) (sym z))

pub plan_some : (shadows n : ℕ) (t u : KeptTables) (heap now : Heap) (room : Room) (block : Block) (free frames after : List Bool) (jobs filled pushed : List Job)
    → block ≡ next_block heap room → now ≡ (place heap room free).heap → frames ≡ (place heap room free).free
    → filled ≡ jobs ++ (zero_block now.pages block ++ header_jobs now.pages block n)
    → 0 < block_need heap.frames heap.held room
    → changed u after pushed ≡ map_pages (block.start / 4096) (block_mappings now.pages block) (changed t frames filled)
    → draft shadows u now after pushed ≡ place_plain n (next_block heap room) (draft shadows t heap free jobs)
plan_some shadows n t u heap now room block free frames after jobs filled pushed b a f j some e =
    let count : shadow_pages block.room ≡ block_need heap.frames heap.held room = ap (λ (x : Block). shadow_pages x.room) b ∙ sym (need_whole heap room some) in
    plan_is shadows n t u heap now room block free frames after jobs filled pushed b a f j
    (e ∙ ap (λ k. map_pages (block.start / 4096) (mappings_of now.pages (block.start / 4096) k) (changed t frames filled)) count)

-- ---- what the words of the next block need
pub record Fills (block : Block) (room : Room) (frames : ℕ) : Type 0 where
  pub room_is : block.room ≡ room
  pub is_room : IsRoom block.room
  pub bytes : block_bytes block.room < 2 ^ 39
  pub start : block.start + 16 < 2 ^ 40
  pub pieces_few : pieces (block_bytes block.room) ≤ frames + 1

pub fills : (t : KeptTables) (heap : Heap) (free : List Bool) (room : Room) (block : Block) → PartsAgree t heap free → IsHeap heap → IsRoom room → lacks t heap free room ≡ false → block ≡ next_block heap room → Fills block room (length free)
fills t heap free room block p h r lack b =
    let has = enough t heap free room lack in
    let f = frames_agree t heap free p in
    let l = next_lies heap room free h f r p.few (omega (arith, has)) in
    let below = l.below in
    let many = few_pieces room r in
    let most = few_block_pages heap room free (omega (arith, has)) in
    let P : Block → Type 0 = λ x. Fills x room (length free) in
    subst P (sym b) (record {
      room_is = refl;
      is_room = r;
      bytes = next_bytes heap free room f r p.few (omega (arith, has));
      start = omega (arith, below);
      pieces_few = omega (arith, many, most);
    })

-- ---- jobs: two for each frame that a table takes, and one for the page
weight : Changed → ℕ
weight c = length c.jobs + 2 * free_frames c.free

link_weighs : (c : Changed) (l n : ℕ) (a b p : Option ℕ) → position (λ (x : Bool). x) c.free ≡ p → weight (linked l n a b p c) ≡ weight c
unfolding weight
link_weighs c l n (Some f) b p e = refl
link_weighs c l n None None p e = refl
link_weighs c l n None (Some b) None e = refl
link_weighs c l n None (Some b) (Some p) e =
    let count = free_count-set c.free p true false (position_passes c.free p e) in
    rw (length-append c.jobs) (omega arith)

link_all_weighs : (l n : ℕ) (c : Changed) → weight (link_all l n c) ≡ weight c
unfolding link_all
link_all_weighs zero n c = refl
link_all_weighs (suc l) n c = link_all_weighs l n (link l (piece (suc l) n) c) ∙ link_weighs c l (piece (suc l) n) _ _ _ refl

put_weighs : (n : ℕ) (m : Mapping) (x : Option ℕ) (c : Changed) → weight (leaf_put n m x c) ≤ weight c + 1
unfolding weight
put_weighs n m None c = omega arith
put_weighs n m (Some t) c = rw (length-append c.jobs) (omega arith)

map_weighs : (n : ℕ) (m : Mapping) (c : Changed) → weight (map_page n m c) ≤ weight c + 1
map_weighs n m c =
    let a = put_weighs n m (frame_of (link_all c.tables.top n c).tables.tables 0 (n / 512)) (link_all c.tables.top n c) in
    let b = link_all_weighs c.tables.top n c in
    omega arith

maps_weigh : (ms : List Mapping) (n : ℕ) (c : Changed) → weight (map_pages n ms c) ≤ weight c + length ms
maps_weigh [] n c = omega arith
maps_weigh (m ∷ ms) n c =
    let one = map_weighs n m c in
    let rest = maps_weigh ms (n + 1) (map_page n m c) in
    omega (arith, one, rest)

length-mappings : (pages : List HeapPage) (first count : ℕ) → length (mappings_of pages first count) ≡ count
length-mappings pages first zero = refl
length-mappings pages first (suc count) = ap suc (length-mappings pages (first + 1) count)

pub few_jobs : (c d : Changed) (pages : List HeapPage) (first count n : ℕ) → d ≡ map_pages n (mappings_of pages first count) c → length d.jobs ≤ length c.jobs + 2 * free_count c.free + count
unfolding weight
few_jobs c d pages first count n e =
    let w = maps_weigh (mappings_of pages first count) n c in
    let l = length-mappings pages first count in
    let same : length d.jobs ≡ length (map_pages n (mappings_of pages first count) c).jobs = ap (λ (x : Changed). length x.jobs) e in
    omega (arith, w, l, same)

-- ---- a page that was mapped still is
put_keeps : (n q : ℕ) (m : Mapping) (x : Option ℕ) (c : Changed) → is_some (mapping_at c.tables.pages q) ≡ true → is_some (mapping_at (leaf_put n m x c).tables.pages q) ≡ true
put_keeps n q m None c e = e
put_keeps n q m (Some t) c e = rw (mapping_at-with_page c.tables.pages n q m) (go (n == q))
  where
    go : (b : Bool) → is_some (cond b (Some m) (mapping_at c.tables.pages q)) ≡ true
    go true = refl
    go false = e

map_keeps : (n q : ℕ) (m : Mapping) (c : Changed) → is_some (mapping_at c.tables.pages q) ≡ true → is_some (mapping_at (map_page n m c).tables.pages q) ≡ true
map_keeps n q m c e =
    put_keeps n q m (frame_of (link_all c.tables.top n c).tables.tables 0 (n / 512)) (link_all c.tables.top n c)
    (ap (λ ms. is_some (mapping_at ms q)) (link_all-pages c.tables.top n c) ∙ e)

maps_keep : (ms : List Mapping) (n q : ℕ) (c : Changed) → is_some (mapping_at c.tables.pages q) ≡ true → is_some (mapping_at (map_pages n ms c).tables.pages q) ≡ true
maps_keep [] n q c e = e
maps_keep (m ∷ ms) n q c e = maps_keep ms (n + 1) q (map_page n m c) (map_keeps n q m c e)

pub still_mapped : (ms : List Mapping) (n q : ℕ) (c d : Changed) → d ≡ map_pages n ms c → is_some (mapping_at c.tables.pages q) ≡ true → is_some (mapping_at d.tables.pages q) ≡ true
still_mapped ms n q c d e h = ap (λ (x : Changed). is_some (mapping_at x.tables.pages q)) e ∙ maps_keep ms n q c h
