-- A realloc that is not refused: what both kinds of it have in common.
use Rattle.std.proofs.Common.{ℕ, zero, suc, ◌+◌, ◌-◌, ◌*◌, ◌/◌, ◌^◌, ◌≡◌, ◌<◌, ◌≤◌, nat_lt, nat_le, ◌&&◌, ◌||◌, Bool, true, false, cond, Option, Some, None, is_some, List, [], ◌∷◌, ◌++◌, length, map, slice_get, arith, refl, ap, sym, ◌∙◌, subst}
use Rattle.std.specs.List.{list_any}
use Rattle.std.proofs.lemmas.Bool.Decides.{nat_tests}
use Rattle.std.proofs.lemmas.List.Folds.{list_any-append}
use Rattle.std.proofs.lemmas.List.FromFn.{length-map-range_with_len}
use Rattle.osc_word.specs.declared.calls.Answer.{Answer}
use Rattle.osc_word.specs.declared.job_list.Job.{Job}
use Rattle.osc_word.specs.declared.settings.HeapKind.TheVariants.{Oscar}
use Rattle.osc_word.specs.AddressMap.{first_shadow_page, is_shadow, is_in_map}
use Rattle.osc_sv39.specs.declared.entries.Mapping.{Mapping}
use Rattle.osc_sv39.specs.Walk.{piece}
use Rattle.osc_class.specs.Rooms.{shadow_pages}
use Rattle.osc_slot.specs.declared.Block.{Block}
use Rattle.osc_slot.specs.Slots.{is_held}
use Rattle.osc_slot.specs.Heap.{Heap, IsHeap, free_count}
use Rattle.osc_slot.proofs.Backing.{free_count-le}
use Rattle.osc_slot.proofs.Bounds.{pages_positive}
use Rattle.osc_paging.specs.declared.TableFrame.{TableFrame}
use Rattle.osc_paging.specs.KeptTables.{mapping_at, root_of, levels_of, need, need_below, missing, pieces_over}
use Rattle.osc_paging.specs.KeptTables.{frame_of as table_over}
use Rattle.osc_paging.specs.TableChanges.{map_pages}
use Rattle.osc_paging.specs.TableLaws.{MapsPages}
use Rattle.osc_paging.specs.Agree.{AgreesAfter}
use Rattle.osc_paging.specs.CopyLaws.{IsNoTable, KeepsTaken}
use Rattle.osc_paging.proofs.TableLawProofs.{mappings_map_pages, mappings_take_need, tables_stand_above}
use Rattle.osc_paging.proofs.Elsewhere.{taking_keeps}
use Rattle.osc_paging.proofs.Others.{work_elsewhere_keeps}
use Rattle.osc_space.specs.declared.ObjectFact.{ObjectFact}
use Rattle.osc_space.specs.LeafFlags.{read_write_at}
use Rattle.osc_space.specs.Objects.{Seen, mark, next_page, is_live, has_page, is_live_page, is_in_leaf, leaf_dead, fact, grant, granted_at, AreGranted}
use Rattle.osc_space.specs.Space.{Space, Draft, Terms, GivesBack, push}
use Rattle.osc_space.specs.BlockWords.{block_mappings, frame_at}
use Rattle.osc_space.specs.Fork.{table_frame_of, heap_frame_of}
use Rattle.osc_space.specs.Share.{Regions}
use Rattle.osc_space.specs.Malloc.{grant_object, map_shadows}
use Rattle.osc_space.specs.Free.{unmap_object, kill_object, waiting_facts}
use Rattle.osc_space.specs.Realloc.{replace_object}
use Rattle.osc_space.specs.Finish.{finished, give_blocks}
use Rattle.osc_space.specs.Agree.{ObjectsAgree}
use Rattle.osc_space.specs.WordLaws.{IsFrameOf}
use Rattle.osc_space.specs.PlanLaws.{is_given_up, table_after}
use Rattle.osc_space.proofs.PlanLawProofs.{flush_gives_up}
use Rattle.osc_space.proofs.ObjectLawProofs.{pages_are_granted_once, mark-grant, mark-kill, grants_keep}
use Rattle.osc_parts.specs.Frames.{among, vacant, one_where, FramesFit, Trades}
use Rattle.osc_parts.specs.Settled.{tables_of, PartsFit, Settled}
use Rattle.osc_parts.specs.Jobs.{AllWriteWhere, Pushed, IsOwn, PushesOwn}
use Rattle.osc_parts.specs.PlanFits.{PlanFits}
use Rattle.osc_parts.specs.FreeLaws.{HasTerms}
use Rattle.osc_parts.proofs.Lists.{get_append, get_end, get_within, any_at}
use Rattle.osc_parts.proofs.Killing.{killed_other, kill_other}
use Rattle.osc_parts.proofs.Trading.{held_is, held_once, held_taken, fit_after, trades_both, unmap_all-trades, map_pages-trades}
use Rattle.osc_parts.proofs.Shapes.{Unmaps, unmap_all-shape, unmap_all-free, unmap_all-pages, unmap_all-agrees, map_pages-adds, map_pages-agrees, map_pages-taken}
use Rattle.osc_parts.proofs.JobCounts.{IsOf, pushed_both, pushed_weaker, unmap_all-pushes, map_pages-links}
use Rattle.osc_parts.proofs.Settling.{settled_frames, parts_after}
use Rattle.osc_parts.proofs.Blocks.{no_piece, HasFrames, block_frame, all_weaker, all_elsewhere, block_reads}
use Rattle.osc_parts.proofs.Flushing.{Flushed, flushes}
use Rattle.osc_parts.proofs.Giving.{Finishes, finishes}
use Rattle.osc_parts.proofs.Waiting.{Different, AllHeld}
use Rattle.osc_parts.proofs.MallocParts.{one_mapping, high_enough, some_root}

-- ---- tables that stay where they are needed
missing_same : (ts us : List TableFrame) (l from count : ℕ) → ((n : ℕ) → from ≤ n → n < from + count → table_over us l n ≡ table_over ts l n) → missing us l from count ≡ missing ts l from count
unfolding missing
missing_same ts us l from zero h = refl
missing_same ts us l from (suc count) h =
    let e = h from (omega arith) (omega arith) in
    let on = missing_same ts us l (from + 1) count (λ n s t. h n (omega (arith, s)) (omega (arith, t))) in
    rw (e, on) refl

need_same : (ts us : List TableFrame) (l first count : ℕ) → ((k n : ℕ) → k < l → piece (suc k) first ≤ n → n < piece (suc k) first + pieces_over (suc k) first count → table_over us k n ≡ table_over ts k n) → need_below us l first count ≡ need_below ts l first count
unfolding need_below
need_same ts us zero first count h = refl
need_same ts us (suc l) first count h =
    let here = missing_same ts us l (piece (suc l) first) (pieces_over (suc l) first count) (λ n s t. h l n (omega arith) s t) in
    let on = need_same ts us l first count (λ k n s. h k n (omega (arith, s))) in
    rw (here, on) refl

-- the pieces that so many pages lie over
last_piece : (first count n : ℕ) → 0 < count → n < piece 1 first + pieces_over 1 first count → n ≤ (first + count - 1) / 512
last_piece first zero n p l = absurd (omega arith)
last_piece first (suc more) n p l = omega (arith, l)

none : {X : Type 0} (x : Option X) → is_some x ≡ false → x ≡ None
none None e = refl
none (Some y) e = absurd (let z : ⊥ = grind (arith, e) in z)

not_given : (a b c : Bool) → b ≡ false → (a && (b && c)) ≡ false
not_given a b c e = grind (arith, nat_tests, e)

-- ---- what both kinds stand on
abbrev pub at_place : Draft → Heap → List Bool → Draft
at_place d heap free = record d { space = record (d.space) { heap = heap }; free = free }

pub record Reallocs (batch : ℕ) (entries : ℕ → ℕ → ℕ) (words : List ℕ) (regions : Regions) (terms : Terms) (d : Draft) (s : Seen) (block : Block) (heap : Heap) (free : List Bool) (jobs : List Job) : Type 0 where
  pub settled : Settled Oscar batch entries words regions d
  pub has_terms : HasTerms batch terms
  pub is_fact : fact d.space.objects s.number ≡ Some s.fact
  pub live : is_live s.fact ≡ true
  pub trades : Trades d.space d.free (record (d.space) { heap = heap }) free
  pub takes : KeepsTaken d.free free
  pub has : HasFrames heap.pages block
  pub is_heap : IsHeap heap
  pub frames : heap.frames ≡ d.space.heap.frames
  pub needs : need d.space.tables (next_page d.space.objects) (shadow_pages block.room) ≤ free_count free
  pub marked : mark d.space.objects + shadow_pages block.room ≤ d.space.shadows
  pub small : shadow_pages block.room ≤ d.space.heap.frames
  pub within : AllWriteWhere (IsFrameOf heap.pages block) jobs
  pub few : length jobs ≤ 2 * length d.free + 4

module _ (batch : ℕ) (entries : ℕ → ℕ → ℕ) (words : List ℕ) (regions : Regions) (terms : Terms) (n : ℕ) (d : Draft) (s : Seen) (block : Block) (heap : Heap) (free : List Bool) (jobs : List Job) (m : Reallocs batch entries words regions terms d s block heap free jobs) where
  abbrev o : ObjectFact
  o = s.fact

  abbrev first : ℕ
  first = next_page d.space.objects

  abbrev granted : List ObjectFact
  granted = grant (shadow_pages block.room) n (block.start + 16) d.space.objects

  abbrev pub new : ObjectFact
  new = granted_at (next_page d.space.objects) (shadow_pages block.room) n (block.start + 16)

  abbrev pub died : Draft
  died = kill_object s.number terms.call (grant_object block n (at_place d heap free))

  abbrev unmapped : Draft
  unmapped = unmap_object o died

  abbrev replaced : Draft
  replaced = replace_object terms s block n (at_place d heap free)

  abbrev filled : Draft
  filled = push jobs replaced

  abbrev mappings : List Mapping
  mappings = block_mappings heap.pages block

  abbrev pub after : Draft
  after = map_shadows first block filled

  objects : ObjectsAgree d.space
  objects = m.settled.parts.agrees.heap

  pub is_granted : AreGranted (grant (shadow_pages block.room) n (block.start + 16) d.space.objects)
  is_granted = grants_keep.granted (shadow_pages block.room) n (block.start + 16) d.space.objects (pages_positive block.room m.has.room) objects.granted

  pub old_now : fact (grant (shadow_pages block.room) n (block.start + 16) d.space.objects) s.number ≡ Some o
  old_now = get_append d.space.objects (new ∷ []) s.number o m.is_fact

  old_below : s.number < length d.space.objects
  old_below = get_within d.space.objects s.number o m.is_fact

  pub new_now : fact died.space.objects (length d.space.objects) ≡ Some new
  new_now = killed_other granted s.number terms.call (length d.space.objects) new (λ e. (let l = old_below in let z : ⊥ = omega (arith, e, l) in z)) (get_end d.space.objects new)

  -- ---- pages
  abbrev is_new : ℕ → Bool
  is_new q = nat_le first q && nat_lt q (first + shadow_pages block.room)

  unmapped_now : (q : ℕ) → mapping_at unmapped.space.tables.pages q ≡ cond (has_page q o) None (mapping_at d.space.tables.pages q)
  unmapped_now q = unmap_all-pages o.pages o.first (tables_of died) q

  first_high : first_shadow_page ≤ o.first
  first_high = ((pages_are_granted_once d.space.objects objects.granted).within s.number o m.is_fact).0

  -- a page of another object
  pub live_other : (q : ℕ) → has_page q o ≡ false → is_live_page died.space.objects q ≡ (is_live_page d.space.objects q || (is_new q || false))
  live_other q h =
      kill_other granted s.number terms.call q o old_now h
      ∙ list_any-append (λ x. is_live x && has_page q x) d.space.objects (granted_at (next_page d.space.objects) (shadow_pages block.room) n (block.start + 16) ∷ [])

  dead_unmapped : (q : ℕ) → is_shadow q ≡ true → is_live_page died.space.objects q ≡ false → mapping_at unmapped.space.tables.pages q ≡ None
  dead_unmapped q c e = go (has_page q o) refl
    where
      go : (b : Bool) → has_page q o ≡ b → mapping_at unmapped.space.tables.pages q ≡ None
      go true h = unmapped_now q ∙ ap (λ t. cond t None (mapping_at d.space.tables.pages q)) h
      go false h =
          let l = live_other q h in
          let was : is_live_page d.space.objects q ≡ false = grind (arith, nat_tests, l, e) in
          unmapped_now q ∙ ap (λ t. cond t None (mapping_at d.space.tables.pages q)) h ∙ none (mapping_at d.space.tables.pages q) (objects.shadows q c ∙ was)

  -- ---- the old object's pages, and the flush
  start_frames : FramesFit d.space d.free
  start_frames = settled_frames Oscar d.space regions d.free m.settled.parts.agrees

  placed_frames : FramesFit (record (d.space) { heap = heap }) free
  placed_frames = fit_after d.space (record (d.space) { heap = heap }) d.free free start_frames m.trades

  shape : Unmaps d.space.tables unmapped.space.tables
  shape = unmap_all-shape o.pages o.first (tables_of died)

  unmapped_trades : Trades d.space d.free unmapped.space unmapped.free
  unmapped_trades =
      let t = unmap_all-trades (record (d.space) { heap = heap }) o.pages o.first (tables_of died) first_high in
      trades_both d.space (record (d.space) { heap = heap }) unmapped.space d.free free unmapped.free m.trades (record { count = t.count; each = t.each; shared = t.shared })

  unmapped_free : unmapped.free ≡ free
  unmapped_free = unmap_all-free o.pages o.first (tables_of died)

  unmapped_frames : FramesFit unmapped.space unmapped.free
  unmapped_frames = fit_after d.space unmapped.space d.free unmapped.free start_frames unmapped_trades

  unmapped_agrees : AgreesAfter entries words (tables_of unmapped)
  unmapped_agrees = unmap_all-agrees entries words o.pages o.first (tables_of died) (taking_keeps d.space.tables d.free free _ m.settled.tables m.takes)

  does : Flushed entries words terms.harts unmapped replaced
  does = flushes entries words terms.harts (waiting_facts died.space ++ o ∷ []) unmapped (record {
    granted = grants_keep.killed s.number terms.call granted is_granted;
    limit = (let a = mark-kill s.number terms.call granted in let b = mark-grant (shadow_pages block.room) n (block.start + 16) d.space.objects in let c = m.marked in let e = m.settled.parts.shadows in omega (arith, a, b, c, e));
    dead = dead_unmapped;
    top = (let a = m.settled.parts.levels in let b = shape.shape.top in omega (arith, a, b));
    frames = unmapped_frames;
    tables = unmapped_agrees;
  })

  replaced_trades : Trades d.space d.free replaced.space replaced.free
  replaced_trades = trades_both d.space unmapped.space replaced.space d.free unmapped.free replaced.free unmapped_trades does.trades

  replaced_free : replaced.free ≡ free
  replaced_free = does.free ∙ unmapped_free

  replaced_frames : FramesFit replaced.space replaced.free
  replaced_frames = fit_after d.space replaced.space d.free replaced.free start_frames replaced_trades

  -- ---- the bytes
  heap_taken : (f : ℕ) → 0 < among f (map heap_frame_of heap.pages) → slice_get replaced.free f ≡ Some false
  heap_taken f l = held_taken replaced.space replaced.free f replaced_frames (let a = held_is f replaced.space in omega (arith, a, l))

  no_table : (f : ℕ) → IsFrameOf heap.pages block f → IsNoTable replaced.space.tables f
  no_table f i =
      let l = block_frame heap.pages block f m.has i in
      let once = held_once replaced.space replaced.free f replaced_frames in
      let a = held_is f replaced.space in
      (no_piece f replaced.space.tables.tables (omega (arith, l, once, a)), no_piece f replaced.space.tables.aside (omega (arith, l, once, a)))

  filled_agrees : AgreesAfter entries words (tables_of filled)
  filled_agrees =
      work_elsewhere_keeps entries words (tables_of replaced) jobs does.tables
      (all_elsewhere replaced.space.tables jobs (all_weaker (IsFrameOf heap.pages block) (IsNoTable replaced.space.tables) jobs no_table m.within))

  after_agrees : AgreesAfter entries words (tables_of after)
  after_agrees =
      map_pages-agrees entries words mappings first (tables_of filled)
      (block_reads heap.pages block replaced.free m.has (let a = m.settled.tables.small in let b = replaced_trades.count in omega (arith, a, b)) heap_taken)
      filled_agrees

  -- ---- the new pages
  size : length mappings ≡ shadow_pages block.room
  size = length-map-range_with_len _ _ _

  -- a leaf over the new pages has a live object
  not_dead : (leaf : ℕ) → first / 512 ≤ leaf → leaf ≤ (first + shadow_pages block.room - 1) / 512 → leaf_dead died.space.objects leaf ≡ false
  not_dead leaf l u =
      let p = pages_positive block.room m.has.room in
      let in_leaf : is_in_leaf leaf new ≡ true = grind (arith, nat_tests, l, u, p) in
      let any = any_at (λ x. is_live x && is_in_leaf leaf x) died.space.objects (length d.space.objects) new new_now in_leaf in
      grind (arith, nat_tests, any)

  stays_linked : (leaf : ℕ) → first / 512 ≤ leaf → leaf ≤ (first + shadow_pages block.room - 1) / 512 → table_over replaced.space.tables.tables 0 leaf ≡ table_over d.space.tables.tables 0 leaf
  stays_linked leaf l u =
      let gone = waiting_facts died.space ++ o ∷ [] in
      let g = flush_gives_up terms.harts gone unmapped in
      let above = tables_stand_above unmapped.space.tables unmapped.free _ unmapped_agrees in
      let top : 0 < unmapped.space.tables.top = (let a = m.settled.parts.levels in let b = shape.shape.top in omega (arith, a, b)) in
      let dead = not_dead leaf l u in
      let none_given : is_given_up gone unmapped leaf ≡ false = not_given (is_some (table_over unmapped.space.tables.tables 0 leaf)) (leaf_dead died.space.objects leaf) (list_any (is_in_leaf leaf) gone) dead in
      g.leaves (λ x. above.tables 0 x top) leaf
      ∙ ap (λ b. table_after b (table_over unmapped.space.tables.tables 0 leaf)) none_given
      ∙ ap (λ ts. table_over ts 0 leaf) shape.tables

  need_stays : need replaced.space.tables first (length mappings) ≡ need d.space.tables first (shadow_pages block.room)
  need_stays =
      ap (λ c. need replaced.space.tables first c) size
      ∙ ap (λ l. need_below replaced.space.tables.tables l first (shadow_pages block.room)) (does.shape.top ∙ shape.shape.top)
      ∙ need_same d.space.tables.tables replaced.space.tables.tables d.space.tables.top first (shadow_pages block.room) same
    where
      same : (k x : ℕ) → k < d.space.tables.top → piece (suc k) first ≤ x → x < piece (suc k) first + pieces_over (suc k) first (shadow_pages block.room) → table_over replaced.space.tables.tables k x ≡ table_over d.space.tables.tables k x
      same zero x t l u = stays_linked x l (last_piece first (shadow_pages block.room) x (pages_positive block.room m.has.room) u)
      same (suc k) x t l u = does.above k x ∙ ap (λ ts. table_over ts (suc k) x) shape.tables

  root_at : (l : ℕ) → 2 ≤ l → d.space.tables.top ≡ l → is_some (table_over replaced.space.tables.tables l 0) ≡ true
  root_at zero h e = absurd (omega arith)
  root_at (suc l) h e = ap is_some (does.above l 0) ∙ ap (λ ts. is_some (table_over ts (suc l) 0)) shape.tables ∙ ap (λ k. is_some (table_over d.space.tables.tables k 0)) (sym e) ∙ m.settled.parts.agrees.root

  has_root : is_some (root_of replaced.space.tables) ≡ true
  has_root = ap (λ l. is_some (table_over replaced.space.tables.tables l 0)) (does.shape.top ∙ shape.shape.top) ∙ root_at d.space.tables.top m.settled.parts.levels refl

  within_tables : first + length mappings ≤ 512 ^ levels_of replaced.space.tables
  within_tables =
      let a = m.marked in
      let b = m.settled.parts.shadows in
      let c = high_enough replaced.space.tables.top (let x = m.settled.parts.levels in let y = does.shape.top in let z = shape.shape.top in omega (arith, x, y, z)) in
      let e = size in
      omega (arith, a, b, c, e)

  as_free : free_count replaced.free ≡ free_count free
  as_free = ap (λ x. free_count x) replaced_free

  enough : need replaced.space.tables first (length mappings) ≤ free_count replaced.free
  enough = let a = m.needs in let e = need_stays in let f = as_free in omega (arith, a, e, f)

  maps : MapsPages first mappings (tables_of filled) (map_pages first mappings (tables_of filled))
  maps =
      let r = some_root (root_of replaced.space.tables) has_root in
      mappings_map_pages first r.0 mappings (tables_of filled) r.1 within_tables enough

  -- the flush frees no frame, and those of the leaf tables that it gives up stay aside: the new pages
  -- alone take frames
  pub pages_take : free_count after.free + need d.space.tables first (shadow_pages block.room) ≡ free_count free
  pages_take =
      let r = some_root (root_of replaced.space.tables) has_root in
      let t = mappings_take_need first r.0 mappings (tables_of filled) r.1 within_tables enough in
      let e = need_stays in
      let f = as_free in
      omega (arith, t, e, f)

  pub mapped_now : (q : ℕ) → mapping_at after.space.tables.pages q ≡ cond (is_new q) (slice_get mappings (q - first)) (cond (has_page q o) None (mapping_at d.space.tables.pages q))
  mapped_now q =
      subst (λ len. mapping_at after.space.tables.pages q ≡ cond (nat_le first q && nat_lt q (first + len)) (slice_get mappings (q - first)) (cond (has_page q o) None (mapping_at d.space.tables.pages q))) size
      (maps.pages q ∙ ap (λ x. cond (nat_le first q && nat_lt q (first + length mappings)) (slice_get mappings (q - first)) x) (ap (λ ps. mapping_at ps q) does.pages ∙ unmapped_now q))

  pub new_mapped : (i : ℕ) → i < shadow_pages block.room → mapping_at after.space.tables.pages (first + i) ≡ Some (read_write_at (frame_at heap.pages (block.start / 4096 + i)))
  new_mapped i l =
      let t : is_new (first + i) ≡ true = grind (arith, nat_tests, l) in
      let z : first + i - first ≡ i = omega arith in
      mapped_now (first + i) ∙ ap (λ b. cond b (slice_get mappings (first + i - first)) (cond (has_page (first + i) o) None (mapping_at d.space.tables.pages (first + i)))) t ∙ ap (slice_get mappings) z ∙ one_mapping heap.pages block i l

  ranges : (q : ℕ) → is_some (mapping_at after.space.tables.pages q) ≡ true → is_in_map q ≡ true
  ranges q e = go (is_new q) refl
    where
      old : (b : Bool) → has_page q o ≡ b → is_some (cond b None (mapping_at d.space.tables.pages q)) ≡ true → is_in_map q ≡ true
      old true h f = absurd (let z : ⊥ = grind (arith, f) in z)
      old false h f = m.settled.parts.agrees.ranges q f

      go : (b : Bool) → is_new q ≡ b → is_in_map q ≡ true
      go true h = let a = m.marked in let b = m.settled.parts.shadows in grind (arith, nat_tests, a, b, h)
      go false h = old (has_page q o) refl (sym (ap is_some (mapped_now q ∙ ap (λ b. cond b (slice_get mappings (q - first)) (cond (has_page q o) None (mapping_at d.space.tables.pages q))) h)) ∙ e)

  -- ---- frames and jobs of the whole
  after_trades : Trades d.space d.free after.space after.free
  after_trades =
      let u = map_pages-trades filled.space mappings first (tables_of filled) (omega arith) in
      trades_both d.space replaced.space after.space d.free replaced.free after.free replaced_trades (record { count = u.count; each = u.each; shared = u.shared })

  replaced_takes : (f : ℕ) → slice_get d.free f ≡ Some false → slice_get replaced.free f ≡ Some false
  replaced_takes f e = ap (λ x. slice_get x f) replaced_free ∙ m.takes.taken f e

  after_takes : KeepsTaken d.free after.free
  after_takes = record { size = after_trades.count; taken = λ f e. map_pages-taken mappings first (tables_of filled) f (replaced_takes f e) }

  after_frames : FramesFit after.space after.free
  after_frames = fit_after d.space after.space d.free after.free start_frames after_trades

  -- what was held before the new pages were mapped still is
  owned : (f : ℕ) → IsOwn replaced.space f → IsOwn after.space f
  owned f l =
      let u = (map_pages-trades filled.space mappings first (tables_of filled) (omega arith)).each f in
      let t = held_taken replaced.space replaced.free f replaced_frames (omega (arith, l)) in
      let v : vacant after.free f ≡ 0 = ap one_where (map_pages-taken mappings first (tables_of filled) f t) in
      omega (arith, u, v, l)

  unmap_owned : (f : ℕ) → IsOwn unmapped.space f → IsOwn replaced.space f
  unmap_owned f l = let t = does.trades.each f in let v = ap (λ x. vacant x f) does.free in omega (arith, t, v, l)

  unmaps : Pushed (IsOwn unmapped.space) d.jobs unmapped.jobs o.pages
  unmaps =
      pushed_weaker (IsOf d.space.tables.tables) (IsOwn unmapped.space) d.jobs unmapped.jobs o.pages o.pages
      (λ f l. (let a = held_is f unmapped.space in let e = ap (λ ts. among f (map table_frame_of ts)) shape.tables in omega (arith, a, e, l))) (omega arith)
      (unmap_all-pushes o.pages o.first (tables_of died))

  bytes : Pushed (IsOwn replaced.space) replaced.jobs filled.jobs (2 * length d.free + 4)
  bytes = record {
    more = jobs;
    is = refl;
    few = m.few;
    within = all_weaker (IsFrameOf heap.pages block) (IsOwn replaced.space) jobs (λ f i. (let l = block_frame heap.pages block f m.has i in let a = held_is f replaced.space in omega (arith, l, a))) m.within;
  }

  after_pushes : PushesOwn d after
  after_pushes =
      let l = map_pages-links mappings first (tables_of filled) in
      let last = pushed_weaker (IsOf after.space.tables.tables) (IsOwn after.space) filled.jobs after.jobs l.count l.count (λ f g. (let a = held_is f after.space in omega (arith, g, a))) (omega arith) l.pushed in
      let two = pushed_both (IsOwn unmapped.space) d.jobs unmapped.jobs replaced.jobs o.pages (length unmapped.free + terms.harts) unmaps does.pushes in
      let three = pushed_both (IsOwn replaced.space) d.jobs replaced.jobs filled.jobs (o.pages + (length unmapped.free + terms.harts)) (2 * length d.free + 4)
      (pushed_weaker (IsOwn unmapped.space) (IsOwn replaced.space) d.jobs replaced.jobs (o.pages + (length unmapped.free + terms.harts)) (o.pages + (length unmapped.free + terms.harts)) unmap_owned (omega arith) two) bytes in
      let all = pushed_both (IsOwn after.space) d.jobs filled.jobs after.jobs (o.pages + (length unmapped.free + terms.harts) + (2 * length d.free + 4)) l.count
      (pushed_weaker (IsOwn replaced.space) (IsOwn after.space) d.jobs filled.jobs (o.pages + (length unmapped.free + terms.harts) + (2 * length d.free + 4)) (o.pages + (length unmapped.free + terms.harts) + (2 * length d.free + 4)) owned (omega arith) three) last in
      let old = objects.small s.number o (m.is_fact, m.live) in
      let new_pages = m.small in
      let frames_are = m.settled.parts.agrees.frames in
      let harts = m.has_terms.harts in
      let most = l.few in
      let some = free_count-le filled.free in
      let count = replaced_trades.count in
      let early = unmapped_trades.count in
      let len = size in
      pushed_weaker (IsOwn after.space) (IsOwn after.space) d.jobs after.jobs (o.pages + (length unmapped.free + terms.harts) + (2 * length d.free + 4) + l.count) (8 * length d.free + 64) (λ f g. g)
      (omega (arith, old, new_pages, frames_are, harts, most, some, count, early, len)) all

  -- ---- the return
  pub ends : (blocks : List Block) → AllHeld heap.held blocks → Different blocks → Finishes blocks after
  ends blocks h k = finishes blocks after m.is_heap (m.frames ∙ m.settled.parts.agrees.frames ∙ sym after_trades.count) after_frames h k

  abbrev pub last : List Block → Space
  last blocks = record (after.space) { waiting = []; tables = record (after.space.tables) { aside = [] }; heap = (give_blocks blocks after).space.heap }

  last_parts : (blocks : List Block) → Finishes blocks after → ObjectsAgree (last blocks) → PartsFit Oscar batch regions (last blocks) (finished (GivesBack blocks) after).free
  last_parts blocks f g =
      let adds = map_pages-adds mappings first (tables_of filled) in
      parts_after Oscar batch regions d.space (last blocks) d.free (finished (GivesBack blocks) after).free m.settled.parts
      (subst (λ (x : Space). Trades d.space d.free x (finished (GivesBack blocks) after).free) f.space
      (trades_both d.space after.space (finished (GivesBack blocks) after).space d.free after.free (finished (GivesBack blocks) after).free after_trades f.trades))
      (record {
        frames = f.given.frames ∙ m.frames;
        shadows = refl;
        count = adds.shape.count ∙ does.shape.count ∙ shape.shape.count;
        room = adds.shape.room ∙ does.shape.room ∙ shape.shape.room;
        top = adds.shape.top ∙ does.shape.top ∙ shape.shape.top;
        root = ap is_some maps.root ∙ has_root;
        aside = refl;
        heap = f.given.is_heap;
        objects = g;
        ranges = ranges;
        waits = (let b = m.settled.parts.waits in omega (arith, b));
      })

  pub realloc_fits : (answer : Answer) (blocks : List Block) → AllHeld heap.held blocks → Different blocks → ((block : Block) → is_held blocks block ≡ true → is_held heap.held block ≡ true)
      → ObjectsAgree (last blocks) → PlanFits Oscar batch entries words regions d (record { answer = answer; draft = after; closing = GivesBack blocks })
  realloc_fits answer blocks h k w g =
      let f = ends blocks h k in
      record {
        takes = after_takes;
        trades = after_trades;
        frames = after_frames;
        tables = after_agrees;
        pushes = after_pushes;
        held = w;
        same = f.same;
        gives = f.trades;
        parts = subst (λ (x : Space). PartsFit Oscar batch regions x (finished (GivesBack blocks) after).free) (sym f.space) (last_parts blocks f g);
        agrees = λ now js x. f.agrees entries now js x;
      }
