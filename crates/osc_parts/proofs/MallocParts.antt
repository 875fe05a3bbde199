-- A malloc that is not refused: what it makes of a process's parts.
use Rattle.std.proofs.Common.{ℕ, zero, suc, ◌+◌, ◌-◌, ◌*◌, ◌/◌, ◌^◌, ◌≡◌, ◌<◌, ◌≤◌, ◌==◌, nat_lt, nat_le, ◌&&◌, ◌||◌, Bool, true, false, cond, Option, Some, None, is_some, option_map, List, [], ◌∷◌, length, map, slice_get, arith, refl, ap, sym, ◌∙◌, subst, ◌⊎◌, inl, inr, ⊎_elim}
use Rattle.std.specs.List.{list_any, range_with_len}
use Rattle.std.proofs.lemmas.Bool.Decides.{nat_tests}
use Rattle.std.proofs.lemmas.List.Folds.{list_any-append}
use Rattle.std.proofs.lemmas.Option.{slice_get-map}
use Rattle.std.proofs.lemmas.List.FromFn.{length-map-range_with_len}
use Rattle.std.proofs.Math.Nat.{pow-succ'}
use Rattle.osc_word.specs.declared.settings.HeapKind.TheVariants.{Oscar}
use Rattle.osc_word.specs.declared.calls.Answer.{Answer}
use Rattle.osc_word.specs.declared.calls.Answer.TheVariants as answer
use Rattle.osc_word.specs.AddressMap.{is_shadow, is_canonical_page, is_in_map}
use Rattle.osc_sv39.specs.declared.entries.Mapping.{Mapping}
use Rattle.osc_class.specs.Rooms.{room_of, shadow_pages, IsRoom}
use Rattle.osc_slot.specs.declared.Block.{Block}
use Rattle.osc_slot.specs.declared.HeapPage.{HeapPage}
use Rattle.osc_slot.specs.Slots.{is_held, is_covered, is_on, is_block}
use Rattle.osc_slot.specs.Areas.{start_of}
use Rattle.osc_slot.specs.Heap.{HeapAndFree, place, next_block, with_block, frame_of, free_count, FramesAgree, Keeps}
use Rattle.osc_slot.proofs.Backing.{free_count-le}
use Rattle.osc_slot.proofs.Bounds.{pages_within, pages_positive}
use Rattle.osc_slot.proofs.HeldBlocks.{is_block_self, same_block, any_weaker}
use Rattle.osc_slot.proofs.InOrder.{any-insert}
use Rattle.osc_slot.proofs.Placing.{Next}
use Rattle.osc_paging.specs.KeptTables.{mapping_at, need, root_of, levels_of}
use Rattle.osc_paging.specs.TableChanges.{map_pages}
use Rattle.osc_paging.specs.TableLaws.{MapsPages}
use Rattle.osc_paging.specs.Agree.{AgreesAfter}
use Rattle.osc_paging.specs.CopyLaws.{IsNoTable, KeepsTaken}
use Rattle.osc_paging.proofs.TableLawProofs.{mappings_map_pages, mappings_take_need}
use Rattle.osc_space.specs.declared.ObjectFact.{ObjectFact}
use Rattle.osc_space.specs.LeafFlags.{read_write_at}
use Rattle.osc_space.specs.Objects.{mark, next_page, is_live, has_page, is_live_page, fact, granted_at}
use Rattle.osc_space.specs.Header.{block_of}
use Rattle.osc_space.specs.Space.{Draft, first_reason, reason, unless, Keeps as GivesNothing}
use Rattle.osc_space.specs.BlockWords.{block_mappings, frame_at}
use Rattle.osc_space.specs.Fork.{heap_frame_of}
use Rattle.osc_space.specs.Share.{Regions}
use Rattle.osc_space.specs.Malloc.{malloc_in, malloc_plan, malloc_reasons, block_need, fill_block, grant_object, place_block}
use Rattle.osc_space.specs.Agree.{is_waiting, IsLive, IsKept, IsBlockOf, ObjectsAgree}
use Rattle.osc_space.specs.WordLaws.{IsFrameOf}
use Rattle.osc_space.proofs.PlanLawProofs.{range_at}
use Rattle.osc_space.proofs.ObjectLawProofs.{pages_are_granted_once, mark-grant, grants_keep}
use Rattle.osc_parts.specs.Frames.{among, FramesFit, Trades}
use Rattle.osc_parts.specs.Settled.{tables_of, PartsFit, Settled}
use Rattle.osc_parts.specs.Jobs.{Pushed, IsOwn, PushesOwn}
use Rattle.osc_parts.specs.MallocLaws.{MallocsFit, MallocsTakeNeed, MallocsGiveNothing}
use Rattle.osc_parts.specs.PlanFits.{PlanFits}
use Rattle.osc_parts.proofs.JobCounts.{pushed_both, pushed_weaker, IsOf, map_pages-links}
use Rattle.osc_parts.proofs.Lists.{grown, get_append, get_end, get_within, any_at}
use Rattle.osc_parts.proofs.Waiting.{header_page}
use Rattle.osc_parts.proofs.PlacingParts as placing
use Rattle.osc_parts.proofs.Trading.{held_is, trades_both, map_pages-trades}
use Rattle.osc_parts.proofs.Shapes.{map_pages-adds, map_pages-agrees, map_pages-taken}
use Rattle.osc_parts.proofs.Settling.{parts_after, keeps_fits, unchanged_fits}
use Rattle.osc_parts.proofs.Blocks.{HasFrames, frame_found, block_reads}

-- ---- what a malloc that is not refused stands on
pub record Mallocs (batch : ℕ) (entries : ℕ → ℕ → ℕ) (words : List ℕ) (regions : Regions) (n : ℕ) (d : Draft) : Type 0 where
  pub settled : Settled Oscar batch entries words regions d
  pub needs : block_need d (room_of n) + need d.space.tables (next_page d.space.objects) (shadow_pages (room_of n)) ≤ free_count d.free
  pub marked : mark d.space.objects + shadow_pages (room_of n) ≤ d.space.shadows

pub no_want : (b c : Bool) (x y : Answer) → first_reason (reason b x ∷ reason c y ∷ []) ≡ None → (b ≡ false) × (c ≡ false)
no_want true c x y e = absurd (let z : ⊥ = grind (arith, e) in z)
no_want false true x y e = absurd (let z : ⊥ = grind (arith, e) in z)
no_want false false x y e = (refl, refl)

module _ (batch : ℕ) (entries : ℕ → ℕ → ℕ) (words : List ℕ) (regions : Regions) (n : ℕ) (d : Draft) where
  pub mallocs : Settled Oscar batch entries words regions d → first_reason (malloc_reasons n d) ≡ None → Mallocs batch entries words regions n d
  mallocs s e =
      let f = no_want (nat_lt d.space.shadows (mark d.space.objects + shadow_pages (room_of n)))
      (nat_lt (free_count d.free) (block_need d (room_of n) + need d.space.tables (next_page d.space.objects) (shadow_pages (room_of n)))) answer.NoShadow answer.NoFrames e in
      let a = f.0 in
      let b = f.1 in
      record { settled = s; needs = grind (arith, nat_tests, b); marked = grind (arith, nat_tests, a) }

some_of : (o : Option ℕ) → is_some (option_map read_write_at o) ≡ is_some o
some_of None = refl
some_of (Some f) = refl

pub one_mapping : (pages : List HeapPage) (block : Block) (i : ℕ) → i < shadow_pages block.room → slice_get (block_mappings pages block) i ≡ Some (read_write_at (frame_at pages (block.start / 4096 + i)))
one_mapping pages block i l =
    rw (slice_get-map (λ page. read_write_at (frame_at pages page)) (range_with_len (block.start / 4096) (shadow_pages block.room)) i)
    (rw (range_at (block.start / 4096) (shadow_pages block.room) i (block.start / 4096 + i) l refl) refl)

-- the shadow pages have numbers that three levels of tables have
pub high_enough : (l : ℕ) → 2 ≤ l → 0x4000000 ≤ 512 ^ suc l
high_enough zero h = absurd (omega arith)
high_enough (suc zero) h = absurd (omega arith)
high_enough (suc (suc zero)) h = omega arith
high_enough (suc (suc (suc l))) h = let low = high_enough (suc (suc l)) (omega arith) in rw pow-succ' (omega (arith, low))

pub some_root : (x : Option ℕ) → is_some x ≡ true → (r : ℕ) × (x ≡ Some r)
some_root None e = absurd (let z : ⊥ = grind (arith, e) in z)
some_root (Some r) e = (r, refl)

module _ (batch : ℕ) (entries : ℕ → ℕ → ℕ) (words : List ℕ) (regions : Regions) (n : ℕ) (d : Draft) (m : Mallocs batch entries words regions n d) where
  abbrev the_block : Block
  the_block = next_block d.space.heap (room_of n)

  abbrev placed : HeapAndFree
  placed = place d.space.heap (room_of n) d.free

  abbrev first : ℕ
  first = next_page d.space.objects

  abbrev mappings : List Mapping
  mappings = block_mappings placed.heap.pages the_block

  abbrev filled : Draft
  filled = fill_block the_block n (grant_object the_block n (place_block (room_of n) d))

  abbrev after : Draft
  after = (malloc_in n the_block d).draft

  needs_block : block_need d (room_of n) ≤ free_count d.free
  needs_block = let q = m.needs in omega (arith, q)

  frames : FramesFit d.space d.free
  frames = placing.frames Oscar batch entries words regions n d m.settled needs_block

  agree : FramesAgree d.space.heap d.free
  agree = placing.agree Oscar batch entries words regions n d m.settled needs_block

  pub room : IsRoom (room_of n)
  room = placing.room Oscar batch entries words regions n d m.settled needs_block

  pub keeps : Keeps d.space.heap d.free placed
  keeps = placing.keeps Oscar batch entries words regions n d m.settled needs_block

  pub goes : Next d.space.heap (room_of n) d.free
  goes = placing.goes Oscar batch entries words regions n d m.settled needs_block

  held_now : placed.heap.held ≡ with_block the_block d.space.heap.held
  held_now = placing.held_now Oscar batch entries words regions n d m.settled needs_block

  pub left : free_count placed.free + block_need d (room_of n) ≡ free_count d.free
  left = placing.left Oscar batch entries words regions n d m.settled needs_block

  pub place_trades : Trades d.space d.free (record (d.space) { heap = placed.heap }) placed.free
  place_trades = placing.place_trades Oscar batch entries words regions n d m.settled needs_block

  pub takes_only : KeepsTaken d.free placed.free
  takes_only = placing.takes_only Oscar batch entries words regions n d m.settled needs_block

  fit_placed : FramesFit (record (d.space) { heap = placed.heap }) placed.free
  fit_placed = placing.fit_placed Oscar batch entries words regions n d m.settled needs_block

  filled_trades : Trades d.space d.free filled.space filled.free
  filled_trades = let t = place_trades in record { count = t.count; each = t.each; shared = t.shared }

  pub malloc_trades : Trades d.space d.free after.space after.free
  malloc_trades =
      let u = map_pages-trades filled.space mappings first (tables_of filled) (omega arith) in
      trades_both d.space filled.space after.space d.free filled.free after.free filled_trades
      (record { count = u.count; each = u.each; shared = u.shared })

  -- ---- the block
  covered_now : (q : ℕ) → is_covered placed.heap.held q ≡ (is_on q the_block || is_covered d.space.heap.held q)
  covered_now = placing.covered_now Oscar batch entries words regions n d m.settled needs_block

  pub has_frames : HasFrames placed.heap.pages the_block
  has_frames = placing.has_frames Oscar batch entries words regions n d m.settled needs_block

  heap_taken_now : (f : ℕ) → 0 < among f (map heap_frame_of placed.heap.pages) → slice_get placed.free f ≡ Some false
  heap_taken_now = placing.heap_taken_now Oscar batch entries words regions n d m.settled needs_block

  no_table : (f : ℕ) → IsFrameOf placed.heap.pages the_block f → IsNoTable d.space.tables f
  no_table = placing.no_table Oscar batch entries words regions n d m.settled needs_block

  filled_agrees : AgreesAfter entries words (tables_of filled)
  filled_agrees = placing.filled_agrees Oscar batch entries words regions n d m.settled needs_block

  pub malloc_agrees : AgreesAfter entries words (tables_of after)
  malloc_agrees =
      map_pages-agrees entries words mappings first (tables_of filled)
      (block_reads placed.heap.pages the_block placed.free has_frames (let a = m.settled.tables.small in let b = place_trades.count in omega (arith, a, b)) heap_taken_now)
      filled_agrees

  -- ---- the mapped pages
  size : length mappings ≡ shadow_pages (room_of n)
  size = length-map-range_with_len _ _ _

  need_size : need d.space.tables first (length mappings) ≡ need d.space.tables first (shadow_pages (room_of n))
  need_size = ap (need d.space.tables first) size

  within_tables : first + length mappings ≤ 512 ^ levels_of d.space.tables
  within_tables =
      let a = m.marked in
      let b = m.settled.parts.shadows in
      let c = high_enough d.space.tables.top m.settled.parts.levels in
      let e = size in
      omega (arith, a, b, c, e)

  enough : need d.space.tables first (length mappings) ≤ free_count placed.free
  enough = let a = m.needs in let b = left in let e = need_size in omega (arith, a, b, e)

  maps : MapsPages first mappings (tables_of filled) (map_pages first mappings (tables_of filled))
  maps =
      let r = some_root (root_of d.space.tables) m.settled.parts.agrees.root in
      mappings_map_pages first r.0 mappings (tables_of filled) r.1 within_tables enough

  pub malloc_takes : free_count after.free + (block_need d (room_of n) + need d.space.tables first (shadow_pages (room_of n))) ≡ free_count d.free
  malloc_takes =
      let r = some_root (root_of d.space.tables) m.settled.parts.agrees.root in
      let t = mappings_take_need first r.0 mappings (tables_of filled) r.1 within_tables enough in
      let a = left in
      let e = need_size in
      omega (arith, t, a, e)

  -- a page of the new object
  abbrev is_new : ℕ → Bool
  is_new q = nat_le first q && nat_lt q (first + shadow_pages (room_of n))

  pub mapped_now : (q : ℕ) → mapping_at after.space.tables.pages q ≡ cond (is_new q) (slice_get mappings (q - first)) (mapping_at d.space.tables.pages q)
  mapped_now q =
      subst (λ len. mapping_at after.space.tables.pages q ≡ cond (nat_le first q && nat_lt q (first + len)) (slice_get mappings (q - first)) (mapping_at d.space.tables.pages q)) size
      (maps.pages q)

  old_page : (q : ℕ) → is_new q ≡ false → mapping_at after.space.tables.pages q ≡ mapping_at d.space.tables.pages q
  old_page q e = mapped_now q ∙ ap (λ b. cond b (slice_get mappings (q - first)) (mapping_at d.space.tables.pages q)) e

  new_page : (i : ℕ) → i < shadow_pages (room_of n) → mapping_at after.space.tables.pages (first + i) ≡ Some (read_write_at (frame_at placed.heap.pages (the_block.start / 4096 + i)))
  new_page i l =
      let t : is_new (first + i) ≡ true = grind (arith, nat_tests, l) in
      let z : first + i - first ≡ i = omega arith in
      mapped_now (first + i) ∙ ap (λ b. cond b (slice_get mappings (first + i - first)) (mapping_at d.space.tables.pages (first + i))) t ∙ ap (slice_get mappings) z ∙ one_mapping placed.heap.pages the_block i l

  -- ---- part by part
  objects : ObjectsAgree d.space
  objects = m.settled.parts.agrees.heap

  abbrev new : ObjectFact
  new = granted_at (next_page d.space.objects) (shadow_pages (room_of n)) n (the_block.start + 16)

  canonical_kept : (q : ℕ) → is_canonical_page q ≡ true → mapping_at after.space.tables.pages q ≡ None
  canonical_kept q c =
      let a = m.marked in let b = m.settled.parts.shadows in
      old_page q (grind (arith, nat_tests, a, b, c)) ∙ objects.canonical q c

  live_now : (q : ℕ) → is_live_page after.space.objects q ≡ (is_live_page d.space.objects q || (is_new q || false))
  live_now q = list_any-append (λ o. is_live o && has_page q o) d.space.objects (granted_at (next_page d.space.objects) (shadow_pages (room_of n)) n (the_block.start + 16) ∷ [])

  is_mapped : (q : ℕ) → is_new q ≡ true → is_some (mapping_at after.space.tables.pages q) ≡ true
  is_mapped q e =
      let l : first ≤ q = grind (arith, nat_tests, e) in
      let u : q < first + shadow_pages (room_of n) = grind (arith, nat_tests, e) in
      let z : first + (q - first) ≡ q = omega (arith, l) in
      let p = new_page (q - first) (omega (arith, l, u)) in
      subst (λ x. is_some (mapping_at after.space.tables.pages x) ≡ true) z (ap is_some p)

  shadows_kept : (q : ℕ) → is_shadow q ≡ true → is_some (mapping_at after.space.tables.pages q) ≡ is_live_page after.space.objects q
  shadows_kept q c = go (is_new q) refl
    where
      go : (b : Bool) → is_new q ≡ b → is_some (mapping_at after.space.tables.pages q) ≡ is_live_page after.space.objects q
      go true e = is_mapped q e ∙ sym (live_now q ∙ (grind (arith, nat_tests, e)))
      go false e = ap is_some (old_page q e) ∙ objects.shadows q c ∙ sym (live_now q ∙ (grind (arith, nat_tests, e)))

  -- the pages of an object that was there
  old_object : (a : ℕ) (o : ObjectFact) (k : ℕ) → fact d.space.objects a ≡ Some o → k < o.pages → is_new (o.first + k) ≡ false
  old_object a o k e l = let w = (pages_are_granted_once d.space.objects objects.granted).within a o e in let u = w.1 in grind (arith, nat_tests, u, l)

  -- ---- blocks
  holds_now : (block : Block) → is_held placed.heap.held block ≡ (is_block block the_block || is_held d.space.heap.held block)
  holds_now block = ap (λ held. is_held held block) held_now ∙ any-insert (λ (b : Block). b.start) (λ b. is_block block b) the_block d.space.heap.held

  new_block_is : block_of new ≡ the_block
  new_block_is = let z : the_block.start + 16 - 16 ≡ the_block.start = omega arith in ap (λ s. record { start = s; room = room_of n }) z

  was_kept : (a : ℕ) (o : ObjectFact) → IsKept after.space a o → fact d.space.objects a ≡ Some o → IsKept d.space a o
  was_kept a o k e = (e, k.1)

  still_kept : (a : ℕ) (o : ObjectFact) → IsKept d.space a o → IsKept after.space a o
  still_kept a o k = (get_append d.space.objects (new ∷ []) a o k.0, k.1)

  new_kept : IsKept after.space (length d.space.objects) new
  new_kept = (get_end d.space.objects new, refl)

  held_kept : (a : ℕ) (o : ObjectFact) → IsKept after.space a o → is_held placed.heap.held (block_of o) ≡ true
  held_kept a o k = ⊎_elim
      (λ (e : fact d.space.objects a ≡ Some o). holds_now (block_of o) ∙ (let h = objects.held a o (was_kept a o k e) in grind (arith, nat_tests, h)))
      (λ (e : (a ≡ length d.space.objects) × (o ≡ new)). holds_now (block_of o) ∙ (let h : is_block (block_of o) the_block ≡ true = ap (λ b. is_block b the_block) (ap block_of e.1 ∙ new_block_is) ∙ is_block_self the_block in grind (arith, nat_tests, h)))
      (grown d.space.objects new o a k.0)

  -- no object has the new block
  apart_from : (a : ℕ) (o : ObjectFact) → IsKept d.space a o → o.canon ≡ the_block.start + 16 → ⊥
  apart_from a o k e =
      let x = goes in
      let was = objects.held a o k in
      let start : o.canon - 16 ≡ start_of d.space.heap.frames (room_of n) x.slot = (let z : o.canon - 16 ≡ the_block.start = omega (arith, e) in z ∙ ap (λ (b : Block). b.start) x.block) in
      let has : list_any (λ (b : Block). b.start == start_of d.space.heap.frames (room_of n) x.slot) d.space.heap.held ≡ true =
      any_weaker (λ b. is_block (block_of o) b) (λ (b : Block). b.start == start_of d.space.heap.frames (room_of n) x.slot) (λ b t. grind (arith, nat_tests, t, start)) d.space.heap.held was in
      let none = x.fresh.absent in
      grind (arith, nat_tests, has, none)

  own_kept : (a b : ℕ) (o p : ObjectFact) → IsKept after.space a o → IsKept after.space b p → o.canon ≡ p.canon → a ≡ b
  own_kept a b o p x y e = go (grown d.space.objects new o a x.0) (grown d.space.objects new p b y.0)
    where
      go : (fact d.space.objects a ≡ Some o) ⊎ ((a ≡ length d.space.objects) × (o ≡ new)) → (fact d.space.objects b ≡ Some p) ⊎ ((b ≡ length d.space.objects) × (p ≡ new)) → a ≡ b
      go (inl u) (inl v) = objects.own a b o p (was_kept a o x u) (was_kept b p y v) e
      go (inl u) (inr v) = absurd (apart_from a o (was_kept a o x u) (e ∙ ap (λ (z : ObjectFact). z.canon) v.1))
      go (inr u) (inl v) = absurd (apart_from b p (was_kept b p y v) (sym e ∙ ap (λ (z : ObjectFact). z.canon) u.1))
      go (inr u) (inr v) = u.0 ∙ sym v.0

  backed_kept : (block : Block) → is_held placed.heap.held block ≡ true → IsBlockOf after.space block
  backed_kept block h = go (is_block block the_block) refl
    where
      go : (b : Bool) → is_block block the_block ≡ b → IsBlockOf after.space block
      go true e = record { object = length d.space.objects; of = new; kept = new_kept; is = new_block_is ∙ sym (same_block block the_block e) }
      go false e = let was = objects.backed block (let w = holds_now block in grind (arith, nat_tests, w, h, e)) in record { object = was.object; of = was.of; kept = still_kept was.object was.of was.kept; is = was.is }

  pages_kept : (a : ℕ) (o : ObjectFact) → IsKept after.space a o → o.pages ≡ shadow_pages (room_of o.size)
  pages_kept a o k = ⊎_elim
      (λ (e : fact d.space.objects a ≡ Some o). objects.pages a o (was_kept a o k e))
      (λ (e : (a ≡ length d.space.objects) × (o ≡ new)). subst (λ (x : ObjectFact). x.pages ≡ shadow_pages (room_of x.size)) (sym e.1) refl)
      (grown d.space.objects new o a k.0)

  -- ---- what is mapped
  frames_stay : (a k : ℕ) (o : ObjectFact) → IsLive d.space a o → k < o.pages → frame_of placed.heap.pages (o.canon / 4096 + k) ≡ frame_of d.space.heap.pages (o.canon / 4096 + k)
  frames_stay a k o live l =
      let w = (pages_are_granted_once d.space.objects objects.granted).within a o live.0 in
      let lo = w.0 in let hi = w.1 in let mk = m.marked in let few = m.settled.parts.shadows in
      let shadow : is_shadow (o.first + k) ≡ true = grind (arith, nat_tests, lo, hi, mk, few, l) in
      let live_page : is_live_page d.space.objects (o.first + k) ≡ true = any_at (λ x. is_live x && has_page (o.first + k) x) d.space.objects a o live.0 (let v = live.1 in grind (arith, nat_tests, v, l)) in
      let there : is_covered d.space.heap.held (o.canon / 4096 + k) ≡ true = sym (m.settled.parts.heap.covered (o.canon / 4096 + k)) ∙ sym (some_of _) ∙ sym (ap is_some (objects.mapped a k o live l)) ∙ objects.shadows (o.first + k) shadow ∙ live_page in
      keeps.stays (o.canon / 4096 + k) there (covered_now (o.canon / 4096 + k) ∙ (grind (arith, nat_tests, there)))

  first_page_is : (the_block.start + 16) / 4096 ≡ the_block.start / 4096
  first_page_is = subst (λ (b : Block). (b.start + 16) / 4096 ≡ b.start / 4096) (sym goes.block) (header_page d.space.heap.frames (room_of n) goes.slot room)

  new_mapped : (k : ℕ) → k < shadow_pages (room_of n) → mapping_at after.space.tables.pages (first + k) ≡ option_map read_write_at (frame_of placed.heap.pages ((the_block.start + 16) / 4096 + k))
  new_mapped k l =
      let on : is_on (the_block.start / 4096 + k) the_block ≡ true = grind (arith, nat_tests, l) in
      let f = frame_found placed.heap.pages (the_block.start / 4096 + k) (has_frames.framed (the_block.start / 4096 + k) on) in
      new_page k l ∙ sym (ap (λ p. option_map read_write_at (frame_of placed.heap.pages (p + k))) first_page_is ∙ ap (option_map read_write_at) f)

  mapped_kept : (a k : ℕ) (o : ObjectFact) → IsLive after.space a o → k < o.pages
      → mapping_at after.space.tables.pages (o.first + k) ≡ option_map read_write_at (frame_of placed.heap.pages (o.canon / 4096 + k))
  mapped_kept a k o live l = go (grown d.space.objects new o a live.0)
    where
      go : (fact d.space.objects a ≡ Some o) ⊎ ((a ≡ length d.space.objects) × (o ≡ new)) → mapping_at after.space.tables.pages (o.first + k) ≡ option_map read_write_at (frame_of placed.heap.pages (o.canon / 4096 + k))
      go (inl e) = old_page (o.first + k) (old_object a o k e l) ∙ objects.mapped a k o (e, live.1) l ∙ sym (ap (option_map read_write_at) (frames_stay a k o (e, live.1) l))
      go (inr e) = subst (λ (x : ObjectFact). k < x.pages → mapping_at after.space.tables.pages (x.first + k) ≡ option_map read_write_at (frame_of placed.heap.pages (x.canon / 4096 + k))) (sym e.1) (λ less. new_mapped k less) l

  small_kept : (a : ℕ) (o : ObjectFact) → IsLive after.space a o → o.pages ≤ placed.heap.frames
  small_kept a o live =
      subst (λ f. o.pages ≤ f) (sym keeps.same_frames)
      (⊎_elim (λ (e : fact d.space.objects a ≡ Some o). objects.small a o (e, live.1))
      (λ (e : (a ≡ length d.space.objects) × (o ≡ new)). (let w = pages_within d.space.heap.frames (room_of n) goes.slot room goes.found.within in let q : o.pages ≡ shadow_pages (room_of n) = ap (λ (y : ObjectFact). y.pages) e.1 in omega (arith, w, q)))
      (grown d.space.objects new o a live.0))

  -- an object that waits was there
  waited : (a : ℕ) (o : ObjectFact) → is_waiting d.space a ≡ true → fact after.space.objects a ≡ Some o → fact d.space.objects a ≡ Some o
  waited a o w e = ⊎_elim
      (λ (x : fact d.space.objects a ≡ Some o). x)
      (λ (x : (a ≡ length d.space.objects) × (o ≡ new)). absurd (let k = objects.waiting.known a w in let q = x.0 in omega (arith, k, q)))
      (grown d.space.objects new o a e)

  pub malloc_objects : ObjectsAgree after.space
  malloc_objects = record {
    granted = grants_keep.granted (shadow_pages (room_of n)) n (the_block.start + 16) d.space.objects (pages_positive (room_of n) room) objects.granted;
    limit = (let e = mark-grant (shadow_pages (room_of n)) n (the_block.start + 16) d.space.objects in let a = m.marked in omega (arith, e, a));
    canonical = canonical_kept;
    shadows = shadows_kept;
    held = held_kept;
    own = own_kept;
    backed = backed_kept;
    pages = pages_kept;
    mapped = mapped_kept;
    small = small_kept;
    waiting = record {
      few = objects.waiting.few;
      apart = objects.waiting.apart;
      known = λ a w. (let k = objects.waiting.known a w in let l = get_within after.space.objects (length d.space.objects) new (get_end d.space.objects new) in omega (arith, k, l));
      dead = λ a o w e. objects.waiting.dead a o w (waited a o w e);
      linked = λ a q o w e h. (map_pages-adds mappings first (tables_of filled)).linked 0 (q / 512) (objects.waiting.linked a q o w (waited a o w e) h);
    };
  }

  ranges_kept : (q : ℕ) → is_some (mapping_at after.space.tables.pages q) ≡ true → is_in_map q ≡ true
  ranges_kept q e = go (is_new q) refl
    where
      go : (b : Bool) → is_new q ≡ b → is_in_map q ≡ true
      go true h = let a = m.marked in let b = m.settled.parts.shadows in grind (arith, nat_tests, a, b, h)
      go false h = m.settled.parts.agrees.ranges q (sym (ap is_some (old_page q h)) ∙ e)

  pub malloc_parts : PartsFit Oscar batch regions after.space after.free
  malloc_parts =
      let adds = map_pages-adds mappings first (tables_of filled) in
      parts_after Oscar batch regions d.space after.space d.free after.free m.settled.parts malloc_trades (record {
        frames = keeps.same_frames;
        shadows = refl;
        count = adds.shape.count;
        room = adds.shape.room;
        top = adds.shape.top;
        root = ap is_some maps.root ∙ m.settled.parts.agrees.root;
        aside = adds.aside ∙ m.settled.parts.agrees.aside;
        heap = keeps.is_heap;
        objects = malloc_objects;
        ranges = ranges_kept;
        waits = m.settled.parts.waits;
      })

  -- no frame is given
  malloc_only_takes : KeepsTaken d.free after.free
  malloc_only_takes = record {
    size = malloc_trades.count;
    taken = λ f e. map_pages-taken mappings first (tables_of filled) f (takes_only.taken f e);
  }

  -- ---- jobs
  filled_pushed : Pushed (IsOwn after.space) d.jobs filled.jobs (shadow_pages (room_of n) + 2)
  filled_pushed =
      pushed_weaker (λ f. 0 < among f (map heap_frame_of placed.heap.pages)) (IsOwn after.space) d.jobs filled.jobs (shadow_pages (room_of n) + 2) (shadow_pages (room_of n) + 2)
      (λ f l. (let a = held_is f after.space in omega (arith, l, a))) (omega arith)
      (placing.filled_pushed Oscar batch entries words regions n d m.settled needs_block)

  pub malloc_pushes : PushesOwn d after
  malloc_pushes =
      let l = map_pages-links mappings first (tables_of filled) in
      let p = pushed_weaker (IsOf after.space.tables.tables) (IsOwn after.space) filled.jobs after.jobs l.count l.count (λ f g. (let a = held_is f after.space in omega (arith, g, a))) (omega arith) l.pushed in
      let all = pushed_both (IsOwn after.space) d.jobs filled.jobs after.jobs (shadow_pages (room_of n) + 2) l.count filled_pushed p in
      let pages = pages_within d.space.heap.frames (room_of n) goes.slot room goes.found.within in
      let frames_are = m.settled.parts.agrees.frames in
      let most = l.few in
      let some = free_count-le placed.free in
      let count = place_trades.count in
      let len = size in
      pushed_weaker (IsOwn after.space) (IsOwn after.space) d.jobs after.jobs (shadow_pages (room_of n) + 2 + l.count) (8 * length d.free + 64) (λ f g. g) (omega (arith, pages, frames_are, most, some, count, len)) all

pub mallocs_fit : MallocsFit
unfolding malloc_plan
mallocs_fit batch entries words regions n d s = go (first_reason (malloc_reasons n d)) refl
  where
    go : (r : Option Answer) → first_reason (malloc_reasons n d) ≡ r → PlanFits Oscar batch entries words regions d (unless r d (malloc_in n (next_block d.space.heap (room_of n)) d))
    go (Some a) e = unchanged_fits Oscar batch entries words regions d a s
    go None e =
        let m = mallocs batch entries words regions n d s e in
        let made = malloc_in n (next_block d.space.heap (room_of n)) d in
        keeps_fits Oscar batch entries words regions d made.answer made.draft
        (malloc_only_takes batch entries words regions n d m)
        (malloc_trades batch entries words regions n d m) s.parts
        (malloc_parts batch entries words regions n d m)
        (malloc_agrees batch entries words regions n d m)
        (malloc_pushes batch entries words regions n d m)

pub mallocs_take_need : MallocsTakeNeed
unfolding malloc_plan
mallocs_take_need batch entries words regions n d s e =
    let made = malloc_in n (next_block d.space.heap (room_of n)) d in
    ap (λ r. free_count (unless r d made).draft.free + (block_need d (room_of n) + need d.space.tables (next_page d.space.objects) (shadow_pages (room_of n)))) e
    ∙ malloc_takes batch entries words regions n d (mallocs batch entries words regions n d s e)

pub mallocs_give_nothing : MallocsGiveNothing
unfolding malloc_plan
mallocs_give_nothing n d = go (first_reason (malloc_reasons n d))
  where
    go : (r : Option Answer) → (unless r d (malloc_in n (next_block d.space.heap (room_of n)) d)).closing ≡ GivesNothing
    go None = refl
    go (Some a) = refl
