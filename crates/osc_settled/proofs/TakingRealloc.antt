-- A realloc under the plain heap takes nothing where its block stays, and else what a malloc takes.
use Rattle.std.proofs.Common.{ℕ, ◌+◌, ◌/◌, ◌≡◌, Bool, true, false, Option, Some, None, List, [], ◌∷◌, arith, refl, ap, ◌∙◌}
use Rattle.std.specs.Prelude.{if◌then◌else◌}
use Rattle.osc_word.specs.declared.settings.HeapKind.TheVariants.{Plain}
use Rattle.osc_class.specs.Rooms.{room_of}
use Rattle.osc_slot.specs.declared.Block.{Block}
use Rattle.osc_slot.specs.Slots.{is_room}
use Rattle.osc_slot.specs.Heap.{next_block, block_of_user, free_count}
use Rattle.osc_paging.specs.KeptTables.{frame_of}
use Rattle.osc_paging.specs.TableChanges.{Changed, leaf_cleared, unmap_page, without_page}
use Rattle.osc_space.specs.Space.{Draft, first_reason, unless}
use Rattle.osc_space.specs.Free.{unmap_all}
use Rattle.osc_space.specs.PlainHeap.{plain_reasons, place_plain, copy_block, emptied_pages, unmap_emptied, kept_bytes, plain_resize, plain_realloc_reasons, plain_realloc_of, plain_realloc_plan}
use Rattle.osc_space.specs.Share.{Regions}
use Rattle.osc_parts.specs.Settled.{Settled}
use Rattle.osc_parts.proofs.PlainMalloc.{plain_enough}
use Rattle.osc_settled.specs.FollowLaws.{plain_need}
use Rattle.osc_settled.proofs.TakingPlain.{place_takes}

-- ---- pages that are unmapped free no frame
cleared : (number : ℕ) (o : Option ℕ) (c : Changed) → (leaf_cleared number o c).free ≡ c.free
cleared number None c = refl
cleared number (Some table) c = refl

unmap_free : (pages : List ℕ) (c : Changed) → (unmap_all pages c).free ≡ c.free
unmap_free [] c = refl
unmap_free (page ∷ pages) c =
    unmap_free pages (unmap_page page c)
    ∙ cleared page (frame_of c.tables.tables 0 (page / 512)) (record c { tables = record (c.tables) { pages = without_page page c.tables.pages } })

emptied_free : (pages : List ℕ) (harts : ℕ) (d : Draft) → (unmap_emptied pages harts d).free ≡ d.free
emptied_free [] harts d = refl
emptied_free (page ∷ pages) harts d = unmap_free (page ∷ pages) (record { tables = d.space.tables; free = d.free; jobs = d.jobs })

-- ---- the plan
resize_takes : (batch : ℕ) (entries : ℕ → ℕ → ℕ) (words : List ℕ) (regions : Regions) (harts n size : ℕ) (old : Block) (d : Draft) → Settled Plain batch entries words regions d → (stays : Bool)
    → first_reason (if stays then [] else plain_reasons (room_of n) d) ≡ None
    → free_count (unless (first_reason (if stays then [] else plain_reasons (room_of n) d)) d (plain_resize stays harts old n (kept_bytes old size n) d)).draft.free + (if stays then 0 else plain_need n d) ≡ free_count d.free
resize_takes batch entries words regions harts n size old d s true e = omega arith
resize_takes batch entries words regions harts n size old d s false e =
    let block = next_block d.space.heap (room_of n) in
    let bytes = kept_bytes old size n in
    let moved : Draft = copy_block old block bytes (place_plain n block d) in
    let free = ap (λ (xs : List Bool). free_count xs) (emptied_free (emptied_pages moved.space.heap.held old) harts moved) in
    let t = place_takes batch entries words regions n d s (plain_enough n d e) in
    ap (λ r. free_count (unless r d (plain_resize false harts old n bytes d)).draft.free + plain_need n d) e
    ∙ ap (λ k. k + plain_need n d) free ∙ t

pub plain_realloc_takes : (batch : ℕ) (entries : ℕ → ℕ → ℕ) (words : List ℕ) (regions : Regions) (harts pointer n size : ℕ) (old : Block) (d : Draft) → Settled Plain batch entries words regions d
    → block_of_user d.space.heap.held pointer ≡ Some old → first_reason (plain_realloc_reasons (Some old) n d) ≡ None
    → free_count (plain_realloc_plan harts pointer n size d).draft.free + (if is_room (room_of n) old.room then 0 else plain_need n d) ≡ free_count d.free
unfolding plain_realloc_plan
plain_realloc_takes batch entries words regions harts pointer n size old d s is e =
    ap (λ o. free_count (plain_realloc_of o harts n size d).draft.free + (if is_room (room_of n) old.room then 0 else plain_need n d)) is
    ∙ resize_takes batch entries words regions harts n size old d s (is_room (room_of n) old.room) e
