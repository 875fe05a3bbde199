-- The tables after a malloc, a free and a realloc of the plain heap.
use Rattle.std.proofs.Common.{ℕ, suc, ◌+◌, ◌-◌, ◌*◌, ◌/◌, ◌≡◌, ◌≢◌, ◌<◌, ◌≤◌, ◌==◌, ◌&&◌, ◌||◌, nat_le, nat_lt, not, Bool, true, false, cond, Option, Some, None, is_some, option_map, List, [], ◌∷◌, ◌++◌, length, append_assoc, arith, refl, sym, ap, subst, ◌∙◌}
use Rattle.std.specs.List.{list_any, range_with_len}
use Rattle.std.proofs.lemmas.Bool.Decides.{nat_tests}
use Rattle.std.proofs.lemmas.List.Folds.{list_any-append}
use Rattle.std.proofs.lemmas.List.FromFn.{length-map-range_with_len}
use Rattle.osc_word.specs.declared.settings.HeapKind.TheVariants.{Plain}
use Rattle.osc_word.specs.AddressMap.{first_shared_page, first_shadow_page, is_canonical_page}
use Rattle.osc_sv39.specs.declared.entries.Mapping.{Mapping}
use Rattle.osc_sv39.specs.Walk.{piece}
use Rattle.osc_class.specs.declared.Room.{Room}
use Rattle.osc_class.specs.declared.Room.TheVariants.{Small, Pages}
use Rattle.osc_class.specs.Rooms.{room_of, shadow_pages}
use Rattle.osc_image.specs.Frames.{stack_pages}
use Rattle.osc_slot.specs.declared.Block.{Block}
use Rattle.osc_slot.specs.Slots.{Holds, beside, need_over, is_on, is_covered}
use Rattle.osc_slot.specs.Heap.{next_block, place, free_count, frame_of as backed_by}
use Rattle.osc_slot.proofs.InOrder.{any-insert}
use Rattle.osc_paging.specs.KeptTables.{KeptTables, mapping_at, frame_of}
use Rattle.osc_space.specs.declared.ObjectFact.{ObjectFact}
use Rattle.osc_space.specs.Objects.{mark, leaf_given_up, facts, is_live, is_in_leaf}
use Rattle.osc_space.specs.LeafFlags.{read_write_at}
use Rattle.osc_space.specs.BlockWords.{mappings_of}
use Rattle.osc_space.specs.Agree.{PlainAgrees}
use Rattle.osc_space.specs.Space.{Draft, first_reason}
use Rattle.osc_space.specs.Malloc.{block_need, place_block, fill_block}
use Rattle.osc_space.specs.PlainHeap.{plain_reasons, place_plain, unmap_emptied}
use Rattle.osc_space.specs.Share.{Regions}
use Rattle.osc_parts.specs.Settled.{Settled, tables_of}
use Rattle.osc_parts.proofs.Blocks.{room_is_room}
use Rattle.osc_parts.proofs.PlacingParts as placing
use Rattle.osc_parts.proofs.PlainMalloc.{block_low, block_high, plain_enough, plain_settled}
use Rattle.osc_machine.specs.Replay.{Ledger, block_pages}
use Rattle.osc_machine.specs.Refusals.{Setting, region_pages, ever_mapped}
use Rattle.osc_ledger.specs.Tables.{has_piece}
use Rattle.osc_ledger.proofs.AddedTables.{Adds, pages-add, any-range, all-over}
use Rattle.osc_ledger.proofs.HasTables.{HasTables, added, same-tests, same-tables, unmap-tables}
use Rattle.osc_ledger.proofs.HeapTables.{ever-same}
use Rattle.osc_ledger.proofs.HeapRows.{Has}
use Rattle.osc_tabled.proofs.EverMapped.{ever-placed}

-- ---- ledgers
-- one that tells of the same pages and objects tells of the same tables
pub same-ledger : (s : Setting) (l m : Ledger) (t : KeptTables) → m.objects ≡ l.objects → m.waiting ≡ l.waiting → m.regions ≡ l.regions → m.canonical ≡ l.canonical → Has s l t → Has s m t
same-ledger s l m t objects waiting regions canonical h =
    same-tests (λ level number. has_piece level number (ever_mapped s l)) (λ level number. has_piece level number (ever_mapped s m))
    (λ leaf. leaf_given_up l.objects l.waiting leaf) (λ leaf. leaf_given_up m.objects m.waiting leaf) t
    (ever-same s l m (ap (λ os. mark os) objects) regions canonical) (λ leaf. λ i. leaf_given_up (objects i) (waiting i) leaf) h

-- where no object was granted no leaf was given up
pub none-given : (objects : List ObjectFact) (waiting : List ℕ) (leaf : ℕ) → objects ≡ [] → leaf_given_up objects waiting leaf ≡ false
none-given objects waiting leaf e = ap (λ os. leaf_given_up os waiting leaf) e ∙ no-leaf (nat_le first_shadow_page (512 * leaf)) (nat_le (512 * leaf + 512) first_shadow_page) _ _ apart
  where
    apart : (nat_le first_shadow_page (512 * leaf) && nat_le (512 * leaf + 512) first_shadow_page) ≡ false
    apart = grind (arith, nat_tests)

    no-leaf : (a b c d : Bool) → (a && b) ≡ false → (((a && b) && c) && d) ≡ false
    no-leaf true true c d f = absurd (let z : ⊥ = grind (arith, f) in z)
    no-leaf true false c d f = refl
    no-leaf false b c d f = refl

-- ---- tables
-- tables over some of these pages are over these
wider : (first few more : ℕ) (t u : KeptTables) → few ≤ more → Adds (range_with_len first few) t u → Adds (range_with_len first more) t u
wider first few more t u less a = record {
  top = a.top;
  stays = a.stays;
  only = λ level number e. or-more (is_some (frame_of t.tables level number)) (has_piece level number (range_with_len first few)) (has_piece level number (range_with_len first more)) (list_any (λ page. piece (suc level) page == number) (range_with_len (first + few) (more - few))) (a.only level number e) (over level number);
  above = a.above;
}
  where
    over : (level number : ℕ) → has_piece level number (range_with_len first more) ≡ (has_piece level number (range_with_len first few) || list_any (λ page. piece (suc level) page == number) (range_with_len (first + few) (more - few)))
    over level number =
        let e : more ≡ few + (more - few) = omega (arith, less) in
        ap (λ n. has_piece level number (range_with_len first n)) e ∙ any-range (λ page. piece (suc level) page == number) first few (more - few)

    or-more : (x a b c : Bool) → (x || a) ≡ true → b ≡ (a || c) → (x || b) ≡ true
    or-more true a b c e f = refl
    or-more false true b c e f = f
    or-more false false b c e f = absurd (let z : ⊥ = grind (arith, e) in z)

need-small : (frames : ℕ) (holds : Holds) (room : Room) → need_over frames holds room ≤ shadow_pages room
need-small frames holds (Small class) = go (is_some (beside frames holds class))
  where
    go : (b : Bool) → cond b 0 1 ≤ 1
    go true = omega arith
    go false = omega arith
need-small frames holds (Pages pages) = omega arith

-- ---- a block is placed
module _ (batch : ℕ) (entries : ℕ → ℕ → ℕ) (words : List ℕ) (regions : Regions) (n : ℕ) (d : Draft) (settled : Settled Plain batch entries words regions d) (wanted : first_reason (plain_reasons (room_of n) d) ≡ None) where
  abbrev block : Block
  block = next_block d.space.heap (room_of n)

  abbrev first : ℕ
  first = block.start / 4096

  abbrev pages : ℕ
  pages = shadow_pages (room_of n)

  abbrev now : Draft
  now = place_plain n block d

  after : Settled Plain batch entries words regions now
  after = plain_settled batch entries words regions n d settled (plain_enough n d wanted)

  enough : block_need d (room_of n) ≤ free_count d.free
  enough = let e = plain_enough n d wanted in omega (arith, e)

  -- its pages are canonical
  low : first + pages ≤ 0x4000000
  low =
      let x = placing.goes Plain batch entries words regions n d settled enough in
      let a = settled.parts.agrees.frames in let b = settled.tables.small in
      subst (λ (c : Block). c.start / 4096 + pages ≤ 0x4000000) (sym x.block)
      (block_low d.space.heap.frames (room_of n) x.slot (room_is_room n) x.found.within (omega (arith, a, b)))

  high : 0x2000000 ≤ first
  high =
      let x = placing.goes Plain batch entries words regions n d settled enough in
      subst (λ (c : Block). 0x2000000 ≤ c.start / 4096) (sym x.block) (block_high d.space.heap.frames (room_of n) x.slot (room_is_room n) x.found.within)

  adds : Adds (range_with_len first pages) d.space.tables now.space.tables
  adds =
      let filled = fill_block block n (place_block (room_of n) d) in
      wider first (block_need d (room_of n)) pages d.space.tables now.space.tables (need-small d.space.heap.frames _ (room_of n))
      (subst (λ c. Adds (range_with_len first c) d.space.tables now.space.tables)
      (length-map-range_with_len (λ page. read_write_at _) first (block_need d (room_of n)))
      (pages-add first (mappings_of filled.space.heap.pages first (block_need d (room_of n))) (tables_of filled)))

  covered : (page : ℕ) → first ≤ page → page < first + pages → is_covered now.space.heap.held page ≡ true
  unfolding place
  covered page l u =
      any-insert (λ (c : Block). c.start) (λ c. is_on page c) block d.space.heap.held
      ∙ ap (λ b. b || is_covered d.space.heap.held page) (let z : (nat_le first page && nat_lt page (first + pages)) ≡ true = grind (arith, nat_tests, l, u) in z)

  mapped : (page : ℕ) → first ≤ page → page < first + pages → mapping_at now.space.tables.pages page ≢ None
  mapped page l u none =
      let plain : PlainAgrees now.space = after.parts.agrees.heap in
      let canonical : is_canonical_page page ≡ true = (let a = low in let b = high in grind (arith, nat_tests, a, b, l, u)) in
      let backed : is_some (backed_by now.space.heap.pages page) ≡ true = after.parts.heap.covered page ∙ covered page l u in
      no-frame (backed_by now.space.heap.pages page) backed (sym (plain.canonical page canonical) ∙ none)
    where
      no-frame : (o : Option ℕ) → is_some o ≡ true → option_map read_write_at o ≡ None → ⊥
      no-frame None e f = let z : ⊥ = grind (arith, e) in z
      no-frame (Some x) e f = let z : ⊥ = grind (arith, f) in z

  pub placed-has : (s : Setting) (l m : Ledger) → l.objects ≡ [] → m.objects ≡ l.objects → m.waiting ≡ l.waiting → m.regions ≡ l.regions → m.canonical ≡ block_pages block ++ l.canonical
      → Has s l d.space.tables → Has s m now.space.tables
  placed-has s l m empty objects waiting regions canonical h =
      same-tests (λ level number. has_piece level number (range_with_len first pages) || has_piece level number (ever_mapped s l)) (λ level number. has_piece level number (ever_mapped s m))
      (λ leaf. leaf_given_up l.objects l.waiting leaf) (λ leaf. leaf_given_up m.objects m.waiting leaf) now.space.tables
      (ever-placed s l m (range_with_len first pages) objects regions canonical) (λ leaf. λ i. leaf_given_up (objects i) (waiting i) leaf)
      (added (λ level number. has_piece level number (ever_mapped s l)) (λ leaf. leaf_given_up l.objects l.waiting leaf) (range_with_len first pages) d.space.tables now.space.tables h adds
      (λ level number less e. all-over now.space.tables now.free _ first pages level number after.tables mapped (omega (arith, less)) e)
      (λ leaf e. none-given l.objects l.waiting leaf empty))

  pub placed-top : now.space.tables.top ≡ d.space.tables.top
  placed-top = adds.top

-- ---- pages that hold no block are unmapped
pub emptied-tables : (pages : List ℕ) (harts : ℕ) (d : Draft) → ((unmap_emptied pages harts d).space.tables.tables ≡ d.space.tables.tables) × ((unmap_emptied pages harts d).space.tables.top ≡ d.space.tables.top)
emptied-tables [] harts d = (refl, refl)
emptied-tables (page ∷ pages) harts d = unmap-tables (page ∷ pages) (tables_of d)
