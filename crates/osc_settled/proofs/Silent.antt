-- Plans on one process's memory answer no end, and write nothing out.
use Rattle.std.proofs.Common.{ℕ, zero, suc, ◌+◌, ◌/◌, ◌%◌, min, ◌≡◌, ◌==◌, Bool, true, false, cond, Option, Some, None, List, [], ◌∷◌, ◌++◌, map, position, arith, refl, ap, sym, ◌∙◌}
use Rattle.std.specs.List.{sum_by, range_with_len}
use Rattle.std.proofs.lemmas.List.Sums.{sum_by-cons, sum_by-append}
use Rattle.osc_word.specs.declared.settings.HeapKind.{HeapKind}
use Rattle.osc_word.specs.declared.settings.HeapKind.TheVariants.{Oscar, Plain}
use Rattle.osc_word.specs.declared.job_list.Job.{Job}
use Rattle.osc_word.specs.declared.job_list.Job.TheVariants.{ZeroWords, CopyWords, CopyPart, ClearBox}
use Rattle.osc_word.specs.declared.calls.Answer.{Answer}
use Rattle.osc_word.specs.declared.calls.Answer.TheVariants as answers
use Rattle.osc_sv39.specs.declared.entries.Mapping.{Mapping}
use Rattle.osc_sv39.specs.declared.entries.PteEntry.TheVariants.{Table, Leaf}
use Rattle.osc_sv39.specs.Entries.{word_of}
use Rattle.osc_sv39.specs.Walk.{piece}
use Rattle.osc_class.specs.Rooms.{room_of, block_bytes, shadow_pages}
use Rattle.osc_slot.specs.declared.Block.{Block}
use Rattle.osc_slot.specs.declared.HeapPage.{HeapPage}
use Rattle.osc_slot.specs.Slots.{is_room}
use Rattle.osc_slot.specs.Heap.{block_of_user, next_block}
use Rattle.osc_paging.specs.KeptTables.{frame_of}
use Rattle.osc_paging.specs.TableChanges.{put_job, zero_job, Changed, linked, link, link_all, leaf_put, map_page, map_pages, leaf_cleared, unmap_page, unlinked, reclaim, without_page}
use Rattle.osc_space.specs.declared.ObjectFact.{ObjectFact}
use Rattle.osc_space.specs.declared.ObjectState.{ObjectState}
use Rattle.osc_space.specs.declared.ObjectState.TheVariants.{Live, Dead}
use Rattle.osc_space.specs.Objects.{Seen, object_at, next_page}
use Rattle.osc_space.specs.Space.{Draft, Outcome, Reason, Terms, first_reason, unless, unchanged, push, change}
use Rattle.osc_space.specs.BlockWords.{block_mappings, mappings_of, size_job, Stretch, stretches, zero_jobs, zero_block, header_jobs, part_job, copy_jobs, trim_jobs, block_word, words_in, whole_end, words_end}
use Rattle.osc_space.specs.Header.{block_of, Found, death_reasons, damage_reason, object_reasons}
use Rattle.osc_space.specs.Malloc.{memory_reasons, malloc_reasons, grant_object, place_block, map_shadows, block_need, fill_block, malloc_in, malloc_plan}
use Rattle.osc_space.specs.Free.{kill_object, await, unmap_all, unmap_object, reclaim_all, clear_jobs, flush, let_wait, flush_where, freed, free_seen, free_plan, is_full, dead_leaves, waiting_facts}
use Rattle.osc_space.specs.Realloc.{keep_bytes, stays, realloc_plan, realloc_seen, realloc_made, realloc_in, realloc_reasons, bytes_jobs, place_where, block_for, frames_for}
use Rattle.osc_space.specs.PlainHeap.{plain_malloc_plan, plain_free_plan, plain_free_of, plain_realloc_plan, plain_realloc_of, plain_realloc_reasons, plain_resize, plain_reasons, plain_malloc_in, kept_bytes, unmap_emptied, emptied_pages, copy_block, place_plain, map_blocks}
use Rattle.osc_calls.specs.Labels.{out_count}
use Rattle.osc_calls.specs.HeapPlans.{malloc_by, free_by, free_of, realloc_by}
use Rattle.osc_settled.specs.UnderWay.{is_end}

-- ---- bytes that jobs write out
abbrev pub outs : List Job → ℕ
outs jobs = sum_by out_count jobs

pub outs-none : (job : Job) (jobs : List Job) → out_count job ≡ 0 → outs jobs ≡ 0 → outs (job ∷ jobs) ≡ 0
outs-none job jobs e f = let a = sum_by-cons out_count job jobs in omega (arith, a, e, f)

pub outs-push : (xs ys : List Job) → outs ys ≡ 0 → outs (xs ++ ys) ≡ outs xs
outs-push xs ys e = let a = sum_by-append out_count xs ys in omega (arith, a, e)

pub outs-map : {X : Type 0} (f : X → Job) (xs : List X) → ((x : X) → out_count (f x) ≡ 0) → outs (map f xs) ≡ 0
outs-map f [] h = refl
outs-map f (x ∷ xs) h = outs-none (f x) (map f xs) (h x) (outs-map f xs h)

-- ---- tables
linked-outs : (l n : ℕ) (a b p : Option ℕ) (c : Changed) → outs (linked l n a b p c).jobs ≡ outs c.jobs
linked-outs l n (Some g) b p c = refl
linked-outs l n None None p c = refl
linked-outs l n None (Some parent) None c = refl
linked-outs l n None (Some parent) (Some g) c = outs-push c.jobs (zero_job g ∷ put_job parent (n % 512) (word_of (Table g)) ∷ []) refl

link_all-outs : (l n : ℕ) (c : Changed) → outs (link_all l n c).jobs ≡ outs c.jobs
unfolding link_all
link_all-outs zero n c = refl
link_all-outs (suc l) n c =
    let m = piece (suc l) n in
    link_all-outs l n (link l m c) ∙ linked-outs l m (frame_of c.tables.tables l m) (frame_of c.tables.tables (suc l) (m / 512)) (position (λ x. x) c.free) c

put-outs : (n : ℕ) (m : Mapping) (x : Option ℕ) (c : Changed) → outs (leaf_put n m x c).jobs ≡ outs c.jobs
put-outs n m None c = refl
put-outs n m (Some t) c = outs-push c.jobs (put_job t (n % 512) (word_of (Leaf m.frame m.bits)) ∷ []) refl

pub map_pages-outs : (n : ℕ) (ms : List Mapping) (c : Changed) → outs (map_pages n ms c).jobs ≡ outs c.jobs
map_pages-outs n [] c = refl
map_pages-outs n (m ∷ ms) c =
    let d = link_all c.tables.top n c in
    map_pages-outs (n + 1) ms (map_page n m c) ∙ put-outs n m (frame_of d.tables.tables 0 (n / 512)) d ∙ link_all-outs c.tables.top n c

cleared-outs : (n : ℕ) (x : Option ℕ) (c : Changed) → outs (leaf_cleared n x c).jobs ≡ outs c.jobs
cleared-outs n None c = refl
cleared-outs n (Some t) c = outs-push c.jobs (put_job t (n % 512) 0 ∷ []) refl

unmap_all-outs : (pages : List ℕ) (c : Changed) → outs (unmap_all pages c).jobs ≡ outs c.jobs
unmap_all-outs [] c = refl
unmap_all-outs (n ∷ pages) c =
    let d : Changed = record c { tables = record (c.tables) { pages = without_page n c.tables.pages } } in
    unmap_all-outs pages (unmap_page n c) ∙ cleared-outs n (frame_of c.tables.tables 0 (n / 512)) d

unlinked-outs : (leaf : ℕ) (x y : Option ℕ) (c : Changed) → outs (unlinked leaf x y c).jobs ≡ outs c.jobs
unlinked-outs leaf None y c = refl
unlinked-outs leaf (Some f) None c = refl
unlinked-outs leaf (Some f) (Some parent) c = outs-push c.jobs (put_job parent (leaf % 512) 0 ∷ []) refl

reclaim_all-outs : (leaves : List ℕ) (c : Changed) → outs (reclaim_all leaves c).jobs ≡ outs c.jobs
reclaim_all-outs [] c = refl
reclaim_all-outs (leaf ∷ leaves) c =
    reclaim_all-outs leaves (reclaim leaf c) ∙ unlinked-outs leaf (frame_of c.tables.tables 0 leaf) (frame_of c.tables.tables 1 (leaf / 512)) c

-- ---- blocks and boxes
zero-outs : (pages : List HeapPage) (block : Block) (from to : ℕ) → outs (zero_jobs pages block from to) ≡ 0
zero-outs pages block from to = outs-map (λ (s : Stretch). ZeroWords (block_word pages block s.from) (words_in s)) (stretches from to) (λ s. refl)

fill-outs : (pages : List HeapPage) (block : Block) (from to size : ℕ) → outs (zero_jobs pages block from to ++ header_jobs pages block size) ≡ 0
fill-outs pages block from to size = outs-push (zero_jobs pages block from to) (header_jobs pages block size) refl ∙ zero-outs pages block from to

part-outs : (pages : List HeapPage) (from to : Block) (bytes : ℕ) → outs (part_job pages from to bytes) ≡ 0
part-outs pages from to bytes = go (bytes % 8 == 0)
  where
    go : (b : Bool) → outs (cond b [] (CopyPart (block_word pages from (whole_end bytes)) (block_word pages to (whole_end bytes)) (bytes % 8) ∷ [])) ≡ 0
    go true = refl
    go false = refl

copy-outs : (pages : List HeapPage) (from to : Block) (bytes : ℕ) → outs (copy_jobs pages from to bytes) ≡ 0
copy-outs pages from to bytes =
    let copy = λ (s : Stretch). CopyWords (block_word pages from s.from) (block_word pages to s.from) (words_in s) in
    outs-push (map copy (stretches 16 (whole_end bytes))) (part_job pages from to bytes) (part-outs pages from to bytes) ∙ outs-map copy (stretches 16 (whole_end bytes)) (λ s. refl)

both-none : (xs ys : List Job) → outs xs ≡ 0 → outs ys ≡ 0 → outs (xs ++ ys) ≡ 0
both-none xs ys e f = outs-push xs ys f ∙ e

trim-outs : (pages : List HeapPage) (block : Block) (bytes size : ℕ) → outs (trim_jobs pages block bytes size) ≡ 0
trim-outs pages block bytes size =
    let zeros = zero_jobs pages block (words_end bytes) (block_bytes block.room) in
    both-none (part_job pages block block bytes ++ zeros) (size_job pages block size ∷ [])
    (both-none (part_job pages block block bytes) zeros (part-outs pages block block bytes) (zero-outs pages block (words_end bytes) (block_bytes block.room))) refl

bytes-outs : (stay : Bool) (pages : List HeapPage) (o : ObjectFact) (block : Block) (n : ℕ) → outs (bytes_jobs stay pages o block n) ≡ 0
bytes-outs true pages o block n = trim-outs pages block (min o.size n) n
bytes-outs false pages o block n =
    both-none (zero_block pages block ++ header_jobs pages block n) (copy_jobs pages (block_of o) block (min o.size n))
    (fill-outs pages block 16 (block_bytes block.room) n) (copy-outs pages (block_of o) block (min o.size n))

clear-outs : (harts : ℕ) → outs (clear_jobs harts) ≡ 0
clear-outs harts = outs-map (λ hart. ClearBox hart) (range_with_len 0 harts) (λ hart. refl)

-- ---- answers
abbrev pub NoEnd : List Reason → Type 0
NoEnd [] = Unit {0}
NoEnd (r ∷ rs) = (is_end r.answer ≡ false) × NoEnd rs

pub first_no_end : (rs : List Reason) (a : Answer) → NoEnd rs → first_reason rs ≡ Some a → is_end a ≡ false
first_no_end [] a h e = absurd (let z : ⊥ = grind (arith, e) in z)
first_no_end (r ∷ rs) a h e = go r.holds refl (first_no_end rs a h.1)
  where
    go : (b : Bool) → r.holds ≡ b → (first_reason rs ≡ Some a → is_end a ≡ false) → is_end a ≡ false
    go true d later = let same : r.answer ≡ a = grind (arith, e, d) in sym (ap is_end same) ∙ h.0
    go false d later = later (grind (arith, e, d))

both-no_end : (xs ys : List Reason) → NoEnd xs → NoEnd ys → NoEnd (xs ++ ys)
both-no_end [] ys h g = g
both-no_end (x ∷ xs) ys h g = (h.0, both-no_end xs ys h.1 g)

death-no_end : (object : ℕ) (s : ObjectState) → NoEnd (death_reasons object s)
death-no_end object Live = tt
death-no_end object (Dead call) = (refl, tt)

object-no_end : (s : Option Seen) (found : Found) → NoEnd (object_reasons s found)
object-no_end None found = (refl, tt)
object-no_end (Some s) found = both-no_end (death_reasons s.number s.fact.state) (damage_reason s.fact.canon found.first ∷ damage_reason s.fact.size found.second ∷ []) (death-no_end s.number s.fact.state) (refl, (refl, tt))

-- ---- the plans
pub record Silent (d : Draft) (o : Outcome) : Type 0 where
  pub answer : is_end o.answer ≡ false
  pub writes : outs o.draft.jobs ≡ outs d.jobs

unchanged-silent : (a : Answer) (d : Draft) → is_end a ≡ false → Silent d (unchanged a d)
unchanged-silent a d e = record { answer = e; writes = refl }

unless-silent : (rs : List Reason) (d : Draft) (o : Outcome) → NoEnd rs → Silent d o → Silent d (unless (first_reason rs) d o)
unless-silent rs d o h s = go (first_reason rs) refl
  where
    go : (r : Option Answer) → first_reason rs ≡ r → Silent d (unless r d o)
    go None e = s
    go (Some a) e = unchanged-silent a d (first_no_end rs a h e)

-- parts of plans
abbrev as_changed : Draft → Changed
as_changed d = record { tables = d.space.tables; free = d.free; jobs = d.jobs }

map_shadows-outs : (first : ℕ) (block : Block) (d : Draft) → outs (map_shadows first block d).jobs ≡ outs d.jobs
map_shadows-outs first block d = map_pages-outs first (block_mappings d.space.heap.pages block) (as_changed d)

map_blocks-outs : (first count : ℕ) (d : Draft) → outs (map_blocks first count d).jobs ≡ outs d.jobs
map_blocks-outs first count d = map_pages-outs first (mappings_of d.space.heap.pages first count) (as_changed d)

unmap_object-outs : (o : ObjectFact) (d : Draft) → outs (unmap_object o d).jobs ≡ outs d.jobs
unmap_object-outs o d = unmap_all-outs (range_with_len o.first o.pages) (as_changed d)

push-outs : (jobs : List Job) (d : Draft) → outs jobs ≡ 0 → outs (push jobs d).jobs ≡ outs d.jobs
push-outs jobs d e = outs-push d.jobs jobs e

-- the jobs of a new block
fill-silent : (block : Block) (size : ℕ) (d : Draft) → outs (fill_block block size d).jobs ≡ outs d.jobs
fill-silent block size d = push-outs (zero_block d.space.heap.pages block ++ header_jobs d.space.heap.pages block size) d (fill-outs d.space.heap.pages block 16 (block_bytes block.room) size)

malloc-silent : (n : ℕ) (d : Draft) → Silent d (malloc_plan n d)
unfolding malloc_plan
malloc-silent n d =
    let block = next_block d.space.heap (room_of n) in
    let a = grant_object block n (place_block block.room d) in
    unless-silent (malloc_reasons n d) d (malloc_in n block d) (refl, (refl, tt)) (record {
      answer = refl;
      writes = map_shadows-outs (next_page d.space.objects) block (fill_block block n a) ∙ fill-silent block n a;
    })

flush-outs : (harts : ℕ) (gone : List ObjectFact) (d : Draft) → outs (flush harts gone d).jobs ≡ outs d.jobs
flush-outs harts gone d =
    push-outs (clear_jobs harts) (change (reclaim_all (dead_leaves gone d.space)) d) (clear-outs harts) ∙ reclaim_all-outs (dead_leaves gone d.space) (as_changed d)

flush_where-outs : (b : Bool) (harts : ℕ) (d : Draft) → outs (flush_where b harts d).jobs ≡ outs d.jobs
flush_where-outs true harts d = flush-outs harts (waiting_facts d.space) d
flush_where-outs false harts d = refl

freed-silent : (s : Seen) (terms : Terms) (d : Draft) → Silent d (freed s.number terms (let_wait terms s d))
freed-silent s terms d = record {
  answer = refl;
  writes = flush_where-outs (is_full terms (let_wait terms s d).space) terms.harts (let_wait terms s d) ∙ unmap_object-outs s.fact (await s.number (kill_object s.number terms.call d));
}

free_seen-silent : (s : Option Seen) (terms : Terms) (found : Found) (d : Draft) → Silent d (free_seen s terms found d)
free_seen-silent None terms found d = unchanged-silent answers.NotAnObject d refl
free_seen-silent (Some s) terms found d =
    unless-silent (object_reasons (Some s) found) d (freed s.number terms (let_wait terms s d)) (object-no_end (Some s) found) (freed-silent s terms d)

free-silent : (terms : Terms) (pointer : ℕ) (found : Found) (d : Draft) → Silent d (free_plan terms pointer found d)
unfolding free_plan
free-silent terms pointer found d = free_seen-silent (object_at d.space.objects pointer) terms found d

place-outs : (stay : Bool) (n : ℕ) (d : Draft) → (place_where stay n d).jobs ≡ d.jobs
place-outs true n d = refl
place-outs false n d = refl

realloc_in-silent : (stay : Bool) (terms : Terms) (s : Seen) (n : ℕ) (block : Block) (d : Draft) → Silent d (realloc_in stay terms s n block d)
realloc_in-silent stay terms s n block d =
    let a = kill_object s.number terms.call (grant_object block n (place_where stay n d)) in
    let b = unmap_object s.fact a in
    let c = flush terms.harts (waiting_facts a.space ++ s.fact ∷ []) b in
    record {
      answer = refl;
      writes = map_shadows-outs (next_page d.space.objects) block (keep_bytes stay s.fact block n c)
          ∙ push-outs (bytes_jobs stay c.space.heap.pages s.fact block n) c (bytes-outs stay c.space.heap.pages s.fact block n)
          ∙ flush-outs terms.harts (waiting_facts a.space ++ s.fact ∷ []) b ∙ unmap_object-outs s.fact a ∙ ap outs (place-outs stay n d);
    }

realloc_seen-silent : (s : Option Seen) (terms : Terms) (n : ℕ) (found : Found) (d : Draft) → Silent d (realloc_seen s terms n found d)
realloc_seen-silent None terms n found d = unchanged-silent answers.NotAnObject d refl
realloc_seen-silent (Some s) terms n found d =
    unless-silent (realloc_reasons (Some s) n found d) d (realloc_made (stays s.fact n) terms s n d)
    (both-no_end (object_reasons (Some s) found) (memory_reasons (frames_for (stays s.fact n) n d) (shadow_pages (room_of n)) d) (object-no_end (Some s) found) (refl, (refl, tt)))
    (realloc_in-silent (stays s.fact n) terms s n (block_for (stays s.fact n) s.fact n d) d)

realloc-silent : (terms : Terms) (pointer n : ℕ) (found : Found) (d : Draft) → Silent d (realloc_plan terms pointer n found d)
unfolding realloc_plan
realloc-silent terms pointer n found d = realloc_seen-silent (object_at d.space.objects pointer) terms n found d

-- ---- on the plain heap
place_plain-outs : (n : ℕ) (block : Block) (d : Draft) → outs (place_plain n block d).jobs ≡ outs d.jobs
place_plain-outs n block d =
    map_blocks-outs (block.start / 4096) (block_need d block.room) (fill_block block n (place_block block.room d)) ∙ fill-silent block n (place_block block.room d)

plain_malloc-silent : (n : ℕ) (d : Draft) → Silent d (plain_malloc_plan n d)
unfolding plain_malloc_plan
plain_malloc-silent n d = unless-silent (plain_reasons (room_of n) d) d (plain_malloc_in n (next_block d.space.heap (room_of n)) d) (refl, tt)
    (record { answer = refl; writes = place_plain-outs n (next_block d.space.heap (room_of n)) d })

unmap_emptied-outs : (pages : List ℕ) (harts : ℕ) (d : Draft) → outs (unmap_emptied pages harts d).jobs ≡ outs d.jobs
unmap_emptied-outs [] harts d = refl
unmap_emptied-outs (page ∷ pages) harts d =
    push-outs (clear_jobs harts) (change (unmap_all (page ∷ pages)) d) (clear-outs harts) ∙ unmap_all-outs (page ∷ pages) (as_changed d)

plain_free-silent : (b : Option Block) (harts : ℕ) (d : Draft) → Silent d (plain_free_of b harts d)
plain_free-silent None harts d = unchanged-silent answers.NotAnObject d refl
plain_free-silent (Some block) harts d = record { answer = refl; writes = unmap_emptied-outs (emptied_pages d.space.heap.held block) harts d }

plain_resize-silent : (stay : Bool) (harts : ℕ) (block : Block) (n bytes : ℕ) (d : Draft) → Silent d (plain_resize stay harts block n bytes d)
plain_resize-silent true harts block n bytes d = record { answer = refl; writes = push-outs (trim_jobs d.space.heap.pages block bytes n) d (trim-outs d.space.heap.pages block bytes n) }
plain_resize-silent false harts block n bytes d =
    let new = next_block d.space.heap (room_of n) in
    let e = copy_block block new bytes (place_plain n new d) in
    record {
      answer = refl;
      writes = unmap_emptied-outs (emptied_pages e.space.heap.held block) harts e
          ∙ push-outs (copy_jobs (place_plain n new d).space.heap.pages block new bytes) (place_plain n new d) (copy-outs (place_plain n new d).space.heap.pages block new bytes)
          ∙ place_plain-outs n new d;
    }

plain_reasons-no_end : (b : Bool) (rs : List Reason) → NoEnd rs → NoEnd (cond b [] rs)
plain_reasons-no_end true rs h = tt
plain_reasons-no_end false rs h = h

plain_realloc-silent : (b : Option Block) (harts n size : ℕ) (d : Draft) → Silent d (plain_realloc_of b harts n size d)
plain_realloc-silent None harts n size d = unchanged-silent answers.NotAnObject d refl
plain_realloc-silent (Some block) harts n size d =
    unless-silent (plain_realloc_reasons (Some block) n d) d (plain_resize (is_room (room_of n) block.room) harts block n (kept_bytes block size n) d)
    (plain_reasons-no_end (is_room (room_of n) block.room) (plain_reasons (room_of n) d) (refl, tt))
    (plain_resize-silent (is_room (room_of n) block.room) harts block n (kept_bytes block size n) d)

-- ---- by the kind of heap
pub malloc_by-silent : (kind : HeapKind) (n : ℕ) (d : Draft) → Silent d (malloc_by kind n d)
malloc_by-silent Oscar n d = malloc-silent n d
malloc_by-silent Plain n d = plain_malloc-silent n d

free_by-silent : (kind : HeapKind) (terms : Terms) (pointer : ℕ) (found : Found) (d : Draft) → Silent d (free_by kind terms pointer found d)
unfolding plain_free_plan
free_by-silent Oscar terms pointer found d = free-silent terms pointer found d
free_by-silent Plain terms pointer found d = plain_free-silent (block_of_user d.space.heap.held pointer) terms.harts d

pub free_of-silent : (kind : HeapKind) (terms : Terms) (pointer : ℕ) (found : Found) (d : Draft) → Silent d (free_of kind terms pointer found d)
free_of-silent kind terms pointer found d = go (pointer == 0)
  where
    go : (b : Bool) → Silent d (cond b (unchanged answers.Nothing d) (free_by kind terms pointer found d))
    go true = unchanged-silent answers.Nothing d refl
    go false = free_by-silent kind terms pointer found d

pub realloc_by-silent : (kind : HeapKind) (terms : Terms) (pointer n : ℕ) (found : Found) (d : Draft) → Silent d (realloc_by kind terms pointer n found d)
unfolding plain_realloc_plan
realloc_by-silent Oscar terms pointer n found d = realloc-silent terms pointer n found d
realloc_by-silent Plain terms pointer n found d = plain_realloc-silent (block_of_user d.space.heap.held pointer) terms.harts n found.second d
