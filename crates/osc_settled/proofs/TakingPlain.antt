-- A malloc under the plain heap takes exactly the frames that it needs.
use Rattle.std.proofs.Common.{ℕ, ◌+◌, ◌/◌, ◌≡◌, ◌≤◌, Bool, true, false, cond, is_some, None, List, length, arith, ap, sym, ◌∙◌, subst}
use Rattle.std.proofs.lemmas.List.FromFn.{length-map-range_with_len}
use Rattle.osc_word.specs.declared.settings.HeapKind.TheVariants.{Plain}
use Rattle.osc_sv39.specs.declared.entries.Mapping.{Mapping}
use Rattle.osc_class.specs.declared.Room.{Room}
use Rattle.osc_class.specs.declared.Room.TheVariants.{Small, Pages}
use Rattle.osc_class.specs.Rooms.{room_of, shadow_pages, IsRoom}
use Rattle.osc_slot.specs.declared.Block.{Block}
use Rattle.osc_slot.specs.Slots.{Holds, beside, need_over}
use Rattle.osc_slot.specs.Heap.{HeapAndFree, place, next_block, free_count}
use Rattle.osc_paging.specs.KeptTables.{root_of, need}
use Rattle.osc_paging.proofs.TableLawProofs.{mappings_take_need}
use Rattle.osc_space.specs.Space.{Draft, first_reason, unless}
use Rattle.osc_space.specs.BlockWords.{mappings_of}
use Rattle.osc_space.specs.Malloc.{block_need, place_block, fill_block}
use Rattle.osc_space.specs.PlainHeap.{plain_reasons, place_plain, plain_malloc_in, plain_malloc_plan}
use Rattle.osc_space.specs.Share.{Regions}
use Rattle.osc_parts.specs.Settled.{tables_of, Settled}
use Rattle.osc_parts.proofs.Blocks.{room_is_room}
use Rattle.osc_parts.proofs.MallocParts.{high_enough, some_root}
use Rattle.osc_parts.proofs.PlacingParts as placing
use Rattle.osc_parts.proofs.PlainMalloc.{block_low, plain_enough}
use Rattle.osc_settled.specs.FollowLaws.{plain_need}

need_small : (frames : ℕ) (holds : Holds) (room : Room) → IsRoom room → need_over frames holds room ≤ shadow_pages room
need_small frames holds (Small class) r = go (is_some (beside frames holds class))
  where
    go : (b : Bool) → cond b 0 1 ≤ 1
    go true = omega arith
    go false = omega arith
need_small frames holds (Pages pages) r = omega arith

module _ (batch : ℕ) (entries : ℕ → ℕ → ℕ) (words : List ℕ) (regions : Regions) (n : ℕ) (d : Draft) (settled : Settled Plain batch entries words regions d) (needs : plain_need n d ≤ free_count d.free) where
  abbrev the_block : Block
  the_block = next_block d.space.heap (room_of n)

  abbrev placed : HeapAndFree
  placed = place d.space.heap (room_of n) d.free

  abbrev first : ℕ
  first = the_block.start / 4096

  abbrev mappings : List Mapping
  mappings = mappings_of placed.heap.pages first (block_need d (room_of n))

  abbrev filled : Draft
  filled = fill_block the_block n (place_block (room_of n) d)

  enough_block : block_need d (room_of n) ≤ free_count d.free
  enough_block = let q = needs in omega (arith, q)

  low : first + shadow_pages (room_of n) ≤ 0x4000000
  low =
      let x = placing.goes Plain batch entries words regions n d settled enough_block in
      subst (λ (b : Block). b.start / 4096 + shadow_pages (room_of n) ≤ 0x4000000) (sym x.block)
      (block_low d.space.heap.frames (room_of n) x.slot (room_is_room n) x.found.within (let a = settled.parts.agrees.frames in let b = settled.tables.small in omega (arith, a, b)))

  few : block_need d (room_of n) ≤ shadow_pages (room_of n)
  few = need_small d.space.heap.frames _ (room_of n) (room_is_room n)

  size : length mappings ≡ block_need d (room_of n)
  size = length-map-range_with_len _ _ _

  pub place_takes : free_count (place_plain n the_block d).free + plain_need n d ≡ free_count d.free
  place_takes =
      let r = some_root (root_of d.space.tables) settled.parts.agrees.root in
      let left = placing.left Plain batch entries words regions n d settled enough_block in
      let e = ap (need d.space.tables first) size in
      let t = mappings_take_need first r.0 mappings (tables_of filled) r.1
      (let a = low in let b = few in let c = high_enough d.space.tables.top settled.parts.levels in let f = size in omega (arith, a, b, c, f))
      (let a = needs in omega (arith, a, left, e)) in
      omega (arith, t, left, e)

pub plain_malloc_takes : (batch : ℕ) (entries : ℕ → ℕ → ℕ) (words : List ℕ) (regions : Regions) (n : ℕ) (d : Draft) → Settled Plain batch entries words regions d → first_reason (plain_reasons (room_of n) d) ≡ None
    → free_count (plain_malloc_plan n d).draft.free + plain_need n d ≡ free_count d.free
unfolding plain_malloc_plan
plain_malloc_takes batch entries words regions n d s e =
    ap (λ r. free_count (unless r d (plain_malloc_in n (next_block d.space.heap (room_of n)) d)).draft.free + plain_need n d) e
    ∙ place_takes batch entries words regions n d s (plain_enough n d e)
