-- A malloc of the plain heap: what it makes of a process's parts.
use Rattle.std.proofs.Common.{ℕ, ◌+◌, ◌-◌, ◌*◌, ◌/◌, ◌≡◌, ◌<◌, ◌≤◌, nat_lt, nat_le, ◌&&◌, ◌||◌, Bool, true, false, cond, Option, Some, None, is_some, option_map, List, [], ◌∷◌, length, map, slice_get, arith, refl, ap, sym, ◌∙◌, subst}
use Rattle.std.specs.List.{range_with_len}
use Rattle.std.proofs.lemmas.Bool.Decides.{nat_tests}
use Rattle.std.proofs.lemmas.Option.{slice_get-map}
use Rattle.std.proofs.lemmas.List.FromFn.{length-map-range_with_len}
use Rattle.std.proofs.Math.Nat.{mul-le-mul}
use Rattle.osc_word.specs.declared.calls.Answer.{Answer}
use Rattle.osc_word.specs.declared.calls.Answer.TheVariants as answer
use Rattle.osc_word.specs.declared.settings.HeapKind.TheVariants.{Plain}
use Rattle.osc_word.specs.AddressMap.{is_canonical_page, is_in_map}
use Rattle.osc_sv39.specs.declared.entries.Mapping.{Mapping}
use Rattle.osc_class.specs.declared.Room.{Room}
use Rattle.osc_class.specs.declared.Room.TheVariants.{Small, Pages}
use Rattle.osc_class.specs.Rooms.{room_of, shadow_pages, IsRoom}
use Rattle.osc_slot.specs.declared.Block.{Block}
use Rattle.osc_slot.specs.declared.HeapPage.{HeapPage}
use Rattle.osc_slot.specs.Areas.{area_of, start_of, page_of, slots_in}
use Rattle.osc_slot.specs.Slots.{Holds, is_covered, is_on, need_over}
use Rattle.osc_slot.specs.Slots.{beside}
use Rattle.osc_slot.specs.Heap.{HeapAndFree, place, next_block, frame_of, free_count}
use Rattle.osc_slot.proofs.Backing.{free_count-le}
use Rattle.osc_slot.proofs.Bounds.{pages_within, in_area, start_page}
use Rattle.osc_paging.specs.KeptTables.{mapping_at, need, root_of}
use Rattle.osc_paging.specs.TableChanges.{map_pages}
use Rattle.osc_paging.specs.TableLaws.{MapsPages}
use Rattle.osc_paging.specs.Agree.{AgreesAfter}
use Rattle.osc_paging.specs.CopyLaws.{KeepsTaken}
use Rattle.osc_paging.proofs.TableLawProofs.{mappings_map_pages}
use Rattle.osc_space.specs.LeafFlags.{read_write_at}
use Rattle.osc_space.specs.Space.{Draft, Keeps, first_reason, reason, unless}
use Rattle.osc_space.specs.BlockWords.{mappings_of, frame_at}
use Rattle.osc_space.specs.Fork.{heap_frame_of}
use Rattle.osc_space.specs.Share.{Regions}
use Rattle.osc_space.specs.Malloc.{block_need, fill_block, place_block}
use Rattle.osc_space.specs.PlainHeap.{plain_reasons, place_plain, plain_malloc_in, plain_malloc_plan}
use Rattle.osc_space.specs.Agree.{PlainAgrees}
use Rattle.osc_space.proofs.PlanLawProofs.{range_at}
use Rattle.osc_parts.specs.Frames.{among, Trades}
use Rattle.osc_parts.specs.Settled.{tables_of, PartsFit, Settled}
use Rattle.osc_parts.specs.Jobs.{Pushed, IsOwn}
use Rattle.osc_parts.specs.PlanFits.{PlanFits}
use Rattle.osc_parts.specs.PlainLaws.{PlainMallocsFit}
use Rattle.osc_parts.proofs.Trading.{held_is, trades_both, map_pages-trades}
use Rattle.osc_parts.proofs.Shapes.{AllRead, map_pages-adds, map_pages-agrees, map_pages-taken}
use Rattle.osc_parts.proofs.JobCounts.{IsOf, pushed_both, pushed_weaker, map_pages-links}
use Rattle.osc_parts.proofs.Settling.{parts_after, keeps_fits, unchanged_fits}
use Rattle.osc_parts.proofs.Blocks.{room_is_room, page_member, frame_found, all_read, taken_small}
use Rattle.osc_parts.proofs.PlacingParts as placing
use Rattle.osc_parts.proofs.MallocParts.{high_enough, some_root}

-- ---- where new pages are
need_small : (frames : ℕ) (holds : Holds) (room : Room) → IsRoom room → need_over frames holds room ≤ shadow_pages room
need_small frames holds (Small class) r = go (is_some (beside frames holds class))
  where
    go : (b : Bool) → cond b 0 1 ≤ 1
    go true = omega arith
    go false = omega arith
need_small frames holds (Pages pages) r = omega arith

area_low : (frames : ℕ) (room : Room) → IsRoom room → shadow_pages room ≤ frames → area_of room ≤ 12 + frames
area_low frames (Small class) r l = omega (arith, r)
area_low frames (Pages pages) r l = omega (arith, l)

pub block_low : (frames : ℕ) (room : Room) (slot : ℕ) → IsRoom room → slot < slots_in frames room → frames ≤ 4096 → start_of frames room slot / 4096 + shadow_pages room ≤ 0x4000000
block_low frames room slot r l small =
    let a = (in_area frames room slot r l).1 in
    let p = pages_within frames room slot r l in
    let b = area_low frames room r (omega (arith, p)) in
    let top : area_of room + 1 ≤ 4109 = omega (arith, b, small) in
    let c : (area_of room + 1) * frames ≤ 4109 * 4096 = mul-le-mul top small in
    omega (arith, a, c)

pub block_high : (frames : ℕ) (room : Room) (slot : ℕ) → IsRoom room → slot < slots_in frames room → 0x2000000 ≤ start_of frames room slot / 4096
block_high frames room slot r l = let a = (in_area frames room slot r l).0 in omega (arith, a)

-- the mapping of a page among so many
pub mapping_in : (pages : List HeapPage) (first count i : ℕ) → i < count → slice_get (mappings_of pages first count) i ≡ Some (read_write_at (frame_at pages (first + i)))
mapping_in pages first count i l =
    rw (slice_get-map (λ page. read_write_at (frame_at pages page)) (range_with_len first count) i)
    (rw (range_at first count i (first + i) l refl) refl)

pub same_none : (x y : Option ℕ) → is_some x ≡ false → is_some y ≡ false → x ≡ y
same_none None None e f = refl
same_none None (Some b) e f = absurd (let z : ⊥ = grind (arith, f) in z)
same_none (Some a) y e f = absurd (let z : ⊥ = grind (arith, e) in z)

one_want : (b : Bool) (x : Answer) → first_reason (reason b x ∷ []) ≡ None → b ≡ false
one_want true x e = absurd (let z : ⊥ = grind (arith, e) in z)
one_want false x e = refl

module _ (batch : ℕ) (entries : ℕ → ℕ → ℕ) (words : List ℕ) (regions : Regions) (n : ℕ) (d : Draft) (settled : Settled Plain batch entries words regions d) (needs : block_need d (room_of n) + need d.space.tables ((next_block d.space.heap (room_of n)).start / 4096) (block_need d (room_of n)) ≤ free_count d.free) where
  abbrev the_block : Block
  the_block = next_block d.space.heap (room_of n)

  abbrev placed : HeapAndFree
  placed = place d.space.heap (room_of n) d.free

  abbrev first : ℕ
  first = the_block.start / 4096

  abbrev count : ℕ
  count = block_need d (room_of n)

  abbrev mappings : List Mapping
  mappings = mappings_of placed.heap.pages first count

  abbrev filled : Draft
  filled = fill_block the_block n (place_block (room_of n) d)

  abbrev pub plain_placed : Draft
  plain_placed = place_plain n the_block d

  room : IsRoom (room_of n)
  room = room_is_room n

  pub enough_block : block_need d (room_of n) ≤ free_count d.free
  enough_block = let q = needs in omega (arith, q)

  plain : PlainAgrees d.space
  plain = settled.parts.agrees.heap

  slot_in : (placing.goes Plain batch entries words regions n d settled enough_block).slot < slots_in d.space.heap.frames (room_of n)
  slot_in = (placing.goes Plain batch entries words regions n d settled enough_block).found.within

  frames_few : d.space.heap.frames ≤ 4096
  frames_few = let a = settled.parts.agrees.frames in let b = settled.tables.small in omega (arith, a, b)

  low : first + shadow_pages (room_of n) ≤ 0x4000000
  low = let x = placing.goes Plain batch entries words regions n d settled enough_block in subst (λ (b : Block). b.start / 4096 + shadow_pages (room_of n) ≤ 0x4000000) (sym x.block) (block_low d.space.heap.frames (room_of n) x.slot room slot_in frames_few)

  high : 0x2000000 ≤ first
  high = let x = placing.goes Plain batch entries words regions n d settled enough_block in subst (λ (b : Block). 0x2000000 ≤ b.start / 4096) (sym x.block) (block_high d.space.heap.frames (room_of n) x.slot room slot_in)

  few : count ≤ shadow_pages (room_of n)
  few = need_small d.space.heap.frames _ (room_of n) room

  page_is : first ≡ page_of d.space.heap.frames (room_of n) (placing.goes Plain batch entries words regions n d settled enough_block).slot
  page_is = let x = placing.goes Plain batch entries words regions n d settled enough_block in ap (λ (b : Block). b.start / 4096) x.block ∙ start_page d.space.heap.frames (room_of n) x.slot room

  -- which pages hold a block now
  abbrev is_new : ℕ → Bool
  is_new q = nat_le first q && nat_lt q (first + count)

  covered_or_new : (q : ℕ) → is_covered placed.heap.held q ≡ (is_new q || is_covered d.space.heap.held q)
  covered_or_new q =
      let x = placing.goes Plain batch entries words regions n d settled enough_block in
      placing.covered_now Plain batch entries words regions n d settled enough_block q
      ∙ ap (λ b. is_on q b || is_covered d.space.heap.held q) x.block
      ∙ sym (ap (λ p. (nat_le p q && nat_lt q (p + count)) || is_covered d.space.heap.held q) page_is ∙ x.fresh.pages q)

  frames_now : (q : ℕ) → is_some (frame_of placed.heap.pages q) ≡ is_covered placed.heap.held q
  frames_now q = (placing.keeps Plain batch entries words regions n d settled enough_block).is_heap.covered q

  old_frame : (q : ℕ) → is_new q ≡ false → frame_of placed.heap.pages q ≡ frame_of d.space.heap.pages q
  old_frame q e = go (is_covered d.space.heap.held q) refl
    where
      now : is_covered placed.heap.held q ≡ is_covered d.space.heap.held q
      now = covered_or_new q ∙ ap (λ b. b || is_covered d.space.heap.held q) e

      go : (b : Bool) → is_covered d.space.heap.held q ≡ b → frame_of placed.heap.pages q ≡ frame_of d.space.heap.pages q
      go true c = (placing.keeps Plain batch entries words regions n d settled enough_block).stays q c (now ∙ c)
      go false c = same_none _ _ (frames_now q ∙ now ∙ c) (settled.parts.heap.covered q ∙ c)

  new_frame : (q : ℕ) → is_new q ≡ true → frame_of placed.heap.pages q ≡ Some (frame_at placed.heap.pages q)
  new_frame q e = frame_found placed.heap.pages q (frames_now q ∙ covered_or_new q ∙ ap (λ b. b || is_covered d.space.heap.held q) e)

  -- ---- words and frames
  size : length mappings ≡ count
  size = length-map-range_with_len _ _ _

  reads : AllRead mappings
  reads = all_read placed.heap.pages count first (λ q l u. (let t : is_new q ≡ true = grind (arith, nat_tests, l, u) in
      let f = page_member placed.heap.pages q (frame_at placed.heap.pages q) (new_frame q t) in
      let taken = placing.heap_taken_now Plain batch entries words regions n d settled enough_block (frame_at placed.heap.pages q) f in
      let less = taken_small placed.free (frame_at placed.heap.pages q) taken in
      let c = (placing.place_trades Plain batch entries words regions n d settled enough_block).count in
      let s = settled.tables.small in
      omega (arith, less, c, s)))

  pub plain_agrees : AgreesAfter entries words (tables_of plain_placed)
  plain_agrees = map_pages-agrees entries words mappings first (tables_of filled) reads (placing.filled_agrees Plain batch entries words regions n d settled enough_block)

  pub plain_trades : Trades d.space d.free plain_placed.space plain_placed.free
  plain_trades =
      let u = map_pages-trades filled.space mappings first (tables_of filled) (let h = high in omega (arith, h)) in
      let t = placing.place_trades Plain batch entries words regions n d settled enough_block in
      trades_both d.space filled.space plain_placed.space d.free filled.free plain_placed.free
      (record { count = t.count; each = t.each; shared = t.shared }) (record { count = u.count; each = u.each; shared = u.shared })

  pub plain_takes : KeepsTaken d.free plain_placed.free
  plain_takes = record {
    size = plain_trades.count;
    taken = λ f e. map_pages-taken mappings first (tables_of filled) f ((placing.takes_only Plain batch entries words regions n d settled enough_block).taken f e);
  }

  maps : MapsPages first mappings (tables_of filled) (map_pages first mappings (tables_of filled))
  maps =
      let r = some_root (root_of d.space.tables) settled.parts.agrees.root in
      mappings_map_pages first r.0 mappings (tables_of filled) r.1
      (let a = low in let b = few in let c = high_enough d.space.tables.top settled.parts.levels in let e = size in omega (arith, a, b, c, e))
      (let a = needs in let b = placing.left Plain batch entries words regions n d settled enough_block in let e = ap (need d.space.tables first) size in omega (arith, a, b, e))

  mapped_now : (q : ℕ) → mapping_at plain_placed.space.tables.pages q ≡ cond (is_new q) (slice_get mappings (q - first)) (mapping_at d.space.tables.pages q)
  mapped_now q =
      subst (λ len. mapping_at plain_placed.space.tables.pages q ≡ cond (nat_le first q && nat_lt q (first + len)) (slice_get mappings (q - first)) (mapping_at d.space.tables.pages q)) size
      (maps.pages q)

  new_mapped : (q : ℕ) → is_new q ≡ true → mapping_at plain_placed.space.tables.pages q ≡ Some (read_write_at (frame_at placed.heap.pages q))
  new_mapped q e =
      let l : first ≤ q = grind (arith, nat_tests, e) in
      let u : q < first + count = grind (arith, nat_tests, e) in
      let z : first + (q - first) ≡ q = omega (arith, l) in
      mapped_now q ∙ ap (λ b. cond b (slice_get mappings (q - first)) (mapping_at d.space.tables.pages q)) e
      ∙ mapping_in placed.heap.pages first count (q - first) (omega (arith, l, u)) ∙ ap (λ x. Some (read_write_at (frame_at placed.heap.pages x))) z

  old_mapped : (q : ℕ) → is_new q ≡ false → mapping_at plain_placed.space.tables.pages q ≡ mapping_at d.space.tables.pages q
  old_mapped q e = mapped_now q ∙ ap (λ b. cond b (slice_get mappings (q - first)) (mapping_at d.space.tables.pages q)) e

  canonical_now : (q : ℕ) → is_canonical_page q ≡ true → mapping_at plain_placed.space.tables.pages q ≡ option_map read_write_at (frame_of placed.heap.pages q)
  canonical_now q c = go (is_new q) refl
    where
      go : (b : Bool) → is_new q ≡ b → mapping_at plain_placed.space.tables.pages q ≡ option_map read_write_at (frame_of placed.heap.pages q)
      go true e = new_mapped q e ∙ sym (ap (option_map read_write_at) (new_frame q e))
      go false e = old_mapped q e ∙ plain.canonical q c ∙ sym (ap (option_map read_write_at) (old_frame q e))

  ranges : (q : ℕ) → is_some (mapping_at plain_placed.space.tables.pages q) ≡ true → is_in_map q ≡ true
  ranges q m = go (is_new q) refl
    where
      go : (b : Bool) → is_new q ≡ b → is_in_map q ≡ true
      go true e = let a = low in let b = few in let c = high in grind (arith, nat_tests, a, b, c, e)
      go false e = settled.parts.agrees.ranges q (sym (ap is_some (old_mapped q e)) ∙ m)

  pub plain_parts : PartsFit Plain batch regions plain_placed.space plain_placed.free
  plain_parts =
      let adds = map_pages-adds mappings first (tables_of filled) in
      let k = placing.keeps Plain batch entries words regions n d settled enough_block in
      parts_after Plain batch regions d.space plain_placed.space d.free plain_placed.free settled.parts plain_trades (record {
        frames = k.same_frames;
        shadows = refl;
        count = adds.shape.count;
        room = adds.shape.room;
        top = adds.shape.top;
        root = ap is_some maps.root ∙ settled.parts.agrees.root;
        aside = adds.aside ∙ settled.parts.agrees.aside;
        heap = k.is_heap;
        objects = record {
          objects = plain.objects;
          waiting = plain.waiting;
          shadows = λ q c. old_mapped q (let h = high in grind (arith, nat_tests, h, c)) ∙ plain.shadows q c;
          canonical = canonical_now;
        };
        ranges = ranges;
        waits = settled.parts.waits;
      })

  -- no more than these, in frames that are the process's
  pub plain_pushed : Pushed (IsOwn plain_placed.space) d.jobs plain_placed.jobs (4 * length d.free + 2)
  plain_pushed =
      let l = map_pages-links mappings first (tables_of filled) in
      let p = pushed_weaker (IsOf plain_placed.space.tables.tables) (IsOwn plain_placed.space) filled.jobs plain_placed.jobs l.count l.count (λ f g. (let a = held_is f plain_placed.space in omega (arith, g, a))) (omega arith) l.pushed in
      let q = pushed_weaker (λ f. 0 < among f (map heap_frame_of placed.heap.pages)) (IsOwn plain_placed.space) d.jobs filled.jobs (shadow_pages (room_of n) + 2) (shadow_pages (room_of n) + 2)
      (λ f g. (let a = held_is f plain_placed.space in omega (arith, g, a))) (omega arith)
      (placing.filled_pushed Plain batch entries words regions n d settled enough_block) in
      let all = pushed_both (IsOwn plain_placed.space) d.jobs filled.jobs plain_placed.jobs (shadow_pages (room_of n) + 2) l.count q p in
      let pages = pages_within d.space.heap.frames (room_of n) (placing.goes Plain batch entries words regions n d settled enough_block).slot room slot_in in
      let frames_are = settled.parts.agrees.frames in
      let most = l.few in
      let some = free_count-le placed.free in
      let same = (placing.place_trades Plain batch entries words regions n d settled enough_block).count in
      let len = size in
      let less = few in
      pushed_weaker (IsOwn plain_placed.space) (IsOwn plain_placed.space) d.jobs plain_placed.jobs (shadow_pages (room_of n) + 2 + l.count) (4 * length d.free + 2) (λ f g. g) (omega (arith, pages, frames_are, most, some, same, len, less)) all

  pub plain_settled : Settled Plain batch entries words regions plain_placed
  plain_settled = record { parts = plain_parts; tables = plain_agrees }

  pub plain_malloc_fits : (a : Answer) → PlanFits Plain batch entries words regions d (record { answer = a; draft = plain_placed; closing = Keeps })
  plain_malloc_fits a =
      keeps_fits Plain batch entries words regions d a plain_placed plain_takes plain_trades settled.parts plain_parts plain_agrees
      (pushed_weaker (IsOwn plain_placed.space) (IsOwn plain_placed.space) d.jobs plain_placed.jobs (4 * length d.free + 2) (8 * length d.free + 64) (λ f g. g) (omega arith) plain_pushed)

pub plain_enough : (n : ℕ) (d : Draft) → first_reason (plain_reasons (room_of n) d) ≡ None → block_need d (room_of n) + need d.space.tables ((next_block d.space.heap (room_of n)).start / 4096) (block_need d (room_of n)) ≤ free_count d.free
plain_enough n d e =
    let f = one_want (nat_lt (free_count d.free) (block_need d (room_of n) + need d.space.tables ((next_block d.space.heap (room_of n)).start / 4096) (block_need d (room_of n)))) answer.NoFrames e in
    grind (arith, nat_tests, f)

pub plain_mallocs_fit : PlainMallocsFit
unfolding plain_malloc_plan
plain_mallocs_fit batch entries words regions n d s = go (first_reason (plain_reasons (room_of n) d)) refl
  where
    go : (r : Option Answer) → first_reason (plain_reasons (room_of n) d) ≡ r → PlanFits Plain batch entries words regions d (unless r d (plain_malloc_in n (next_block d.space.heap (room_of n)) d))
    go (Some a) e = unchanged_fits Plain batch entries words regions d a s
    go None e = plain_malloc_fits batch entries words regions n d s (plain_enough n d e) _
