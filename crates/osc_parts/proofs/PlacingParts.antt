-- A block is placed and filled: what that makes of frames and words, with either heap.
use Rattle.std.proofs.Common.{ℕ, zero, suc, ◌+◌, ◌*◌, ◌/◌, ◌%◌, ◌≡◌, ◌<◌, ◌≤◌, ◌||◌, Bool, false, Option, Some, None, List, ◌++◌, length, map, slice_get, position, arith, refl, ap, sym, ◌∙◌, subst, ◌⊎◌}
use Rattle.std.proofs.lemmas.Bool.Decides.{nat_tests}
use Rattle.std.proofs.lemmas.List.{length-append}
use Rattle.osc_word.specs.declared.job_list.Job.TheVariants.{ZeroWords}
use Rattle.osc_word.specs.declared.settings.HeapKind.{HeapKind}
use Rattle.osc_class.specs.Rooms.{room_of, shadow_pages, IsRoom, block_bytes}
use Rattle.osc_slot.specs.declared.Block.{Block}
use Rattle.osc_slot.specs.Slots.{is_covered, is_on, block_frames}
use Rattle.osc_slot.specs.Areas.{block_at_slot, page_of}
use Rattle.osc_slot.specs.Heap.{HeapAndFree, Backing, back_by, back, place, next_block, with_block, free_count, FramesAgree, Keeps}
use Rattle.osc_slot.proofs.Backing.{get-set}
use Rattle.osc_slot.proofs.Bounds.{bytes_within}
use Rattle.osc_slot.proofs.InOrder.{any-insert}
use Rattle.osc_slot.proofs.Placing.{Next, next, place_is, place_keeps}
use Rattle.osc_paging.specs.TableChanges.{Changed}
use Rattle.osc_paging.specs.Agree.{AgreesAfter}
use Rattle.osc_paging.specs.CopyLaws.{IsNoTable, KeepsTaken}
use Rattle.osc_paging.proofs.Elsewhere.{taking_keeps}
use Rattle.osc_paging.proofs.Others.{work_elsewhere_keeps}
use Rattle.osc_space.specs.Space.{Space, Draft}
use Rattle.osc_space.specs.BlockWords.{Stretch, stretches, words_in, block_word, zero_block, header_jobs}
use Rattle.osc_space.specs.Fork.{heap_frame_of}
use Rattle.osc_space.specs.Share.{Regions}
use Rattle.osc_space.specs.Malloc.{block_need}
use Rattle.osc_space.specs.WordLaws.{IsFrameOf}
use Rattle.osc_parts.specs.Frames.{among, FramesFit, Trades}
use Rattle.osc_parts.specs.Settled.{Settled}
use Rattle.osc_parts.specs.Jobs.{Pushed}
use Rattle.osc_parts.proofs.JobCounts.{cut-few, length-mapped}
use Rattle.osc_parts.proofs.Trading.{held_is, held_once, held_taken, fit_after, back-trades}
use Rattle.osc_parts.proofs.Settling.{settled_frames, heap_frames}
use Rattle.osc_parts.proofs.Blocks.{room_is_room, no_piece, HasFrames, lies_at, block_frame, all_weaker, all_elsewhere, fill_where}

pub back_taken : (count page : ℕ) (b : Backing) (f : ℕ) → slice_get b.free f ≡ Some false → slice_get (back count page b).free f ≡ Some false
unfolding back
back_taken zero page b f e = e
back_taken (suc count) page b f e = back_taken count (page + 1) (back_by page (position (λ (x : Bool). x) b.free) b) f (go (position (λ (x : Bool). x) b.free))
  where
    go : (x : Option ℕ) → slice_get (back_by page x b).free f ≡ Some false
    go None = e
    go (Some g) = let at = get-set b.free g f false in grind (arith, nat_tests, at, e)

module _ (kind : HeapKind) (batch : ℕ) (entries : ℕ → ℕ → ℕ) (words : List ℕ) (regions : Regions) (n : ℕ) (d : Draft) (settled : Settled kind batch entries words regions d) (needs : block_need d (room_of n) ≤ free_count d.free) where
  abbrev the_block : Block
  the_block = next_block d.space.heap (room_of n)

  abbrev placed : HeapAndFree
  placed = place d.space.heap (room_of n) d.free

  -- the draft with the block and its words
  abbrev with_block_in : Changed
  with_block_in = record { tables = d.space.tables; free = placed.free; jobs = d.jobs ++ (zero_block placed.heap.pages the_block ++ header_jobs placed.heap.pages the_block n) }

  pub frames : FramesFit d.space d.free
  frames = settled_frames kind d.space regions d.free settled.parts.agrees

  pub agree : FramesAgree d.space.heap d.free
  agree = heap_frames d.space d.free settled.parts.agrees.frames frames

  pub room : IsRoom (room_of n)
  room = room_is_room n

  pub keeps : Keeps d.space.heap d.free placed
  keeps = place_keeps d.space.heap (room_of n) d.free settled.parts.heap agree room needs

  pub goes : Next d.space.heap (room_of n) d.free
  goes = next d.space.heap (room_of n) d.free settled.parts.heap agree room needs

  pub held_now : placed.heap.held ≡ with_block the_block d.space.heap.held
  held_now =
      let x = goes in
      ap (λ (p : HeapAndFree). p.heap.held) (place_is d.space.heap (room_of n) d.free room x) ∙ ap (λ (b : Block). with_block b d.space.heap.held) (sym x.block)

  -- the frames that the block leaves
  pub left : free_count placed.free + block_need d (room_of n) ≡ free_count d.free
  left =
      let k = keeps in
      let x = goes in
      let up = k.add_up in
      let h = held_now in
      let c : length placed.heap.pages ≡ block_frames d.space.heap.frames (with_block (block_at_slot d.space.heap.frames (room_of n) x.slot) d.space.heap.held) =
      k.is_heap.count ∙ ap (λ f. block_frames f placed.heap.held) k.same_frames ∙ ap (block_frames d.space.heap.frames) (h ∙ ap (λ (b : Block). with_block b d.space.heap.held) x.block) in
      let b = settled.parts.heap.count in
      let f = x.fresh.more in
      omega (arith, up, c, b, f)

  -- ---- frames
  pub placed_space : Space
  placed_space = record (d.space) { heap = placed.heap }

  pub place_trades : Trades d.space d.free (record (d.space) { heap = placed.heap }) placed.free
  place_trades =
      let x = goes in
      subst (λ (p : HeapAndFree). Trades d.space d.free (record (d.space) { heap = p.heap }) p.free) (sym (place_is d.space.heap (room_of n) d.free room x))
      (let t = back-trades d.space (block_need d (room_of n)) (page_of d.space.heap.frames (room_of n) x.slot) (record { pages = d.space.heap.pages; free = d.free }) in
      record { count = t.count; each = t.each; shared = t.shared })

  pub takes_only : KeepsTaken d.free placed.free
  takes_only = record {
    size = place_trades.count;
    taken = λ f e.
        let x = goes in
        subst (λ (p : HeapAndFree). slice_get p.free f ≡ Some false) (sym (place_is d.space.heap (room_of n) d.free room x))
        (back_taken (block_need d (room_of n)) (page_of d.space.heap.frames (room_of n) x.slot) (record { pages = d.space.heap.pages; free = d.free }) f e);
  }

  pub fit_placed : FramesFit (record (d.space) { heap = placed.heap }) placed.free
  fit_placed = fit_after d.space (record (d.space) { heap = placed.heap }) d.free placed.free frames place_trades

  -- ---- the block
  pub covered_now : (q : ℕ) → is_covered placed.heap.held q ≡ (is_on q the_block || is_covered d.space.heap.held q)
  covered_now q = ap (λ held. is_covered held q) held_now ∙ any-insert (λ (b : Block). b.start) (λ b. is_on q b) the_block d.space.heap.held

  pub has_frames : HasFrames placed.heap.pages the_block
  has_frames =
      let x = goes in
      let l = lies_at d.space.heap.frames (room_of n) x.slot room in
      record {
        room = room;
        lies = subst (λ (b : Block). (b.start % 4096 ≡ 0) ⊎ (b.start % 4096 + block_bytes (room_of n) ≤ 4096)) (sym x.block) l.0;
        ends = subst (λ (b : Block). b.start % 4096 + block_bytes (room_of n) ≤ 4096 * shadow_pages (room_of n)) (sym x.block) l.1;
        framed = λ page on. keeps.is_heap.covered page ∙ covered_now page ∙ ap (λ b. b || is_covered d.space.heap.held page) on;
      }

  pub heap_taken_now : (f : ℕ) → 0 < among f (map heap_frame_of placed.heap.pages) → slice_get placed.free f ≡ Some false
  heap_taken_now f l = held_taken (record (d.space) { heap = placed.heap }) placed.free f fit_placed (let a = held_is f (record (d.space) { heap = placed.heap }) in omega (arith, a, l))

  pub no_table : (f : ℕ) → IsFrameOf placed.heap.pages the_block f → IsNoTable d.space.tables f
  no_table f i =
      let l = block_frame placed.heap.pages the_block f has_frames i in
      let once = held_once (record (d.space) { heap = placed.heap }) placed.free f fit_placed in
      let a = held_is f (record (d.space) { heap = placed.heap }) in
      (no_piece f d.space.tables.tables (omega (arith, l, once, a)), no_piece f d.space.tables.aside (omega (arith, l, once, a)))

  -- ---- the words
  pub filled_agrees : AgreesAfter entries words (record { tables = d.space.tables; free = placed.free; jobs = d.jobs ++ (zero_block placed.heap.pages the_block ++ header_jobs placed.heap.pages the_block n) })
  filled_agrees =
      work_elsewhere_keeps entries words (record { tables = d.space.tables; free = placed.free; jobs = d.jobs }) (zero_block placed.heap.pages the_block ++ header_jobs placed.heap.pages the_block n)
      (taking_keeps d.space.tables d.free placed.free _ settled.tables takes_only)
      (all_elsewhere d.space.tables (zero_block placed.heap.pages the_block ++ header_jobs placed.heap.pages the_block n)
      (all_weaker (IsFrameOf placed.heap.pages the_block) (IsNoTable d.space.tables) (zero_block placed.heap.pages the_block ++ header_jobs placed.heap.pages the_block n) no_table
      (fill_where placed.heap.pages the_block n has_frames)))

  -- ---- jobs
  pub zero_few : length (zero_block placed.heap.pages the_block) ≤ shadow_pages (room_of n)
  zero_few =
      let a = length-mapped (λ (x : Stretch). ZeroWords (block_word placed.heap.pages the_block x.from) (words_in x)) (stretches 16 (block_bytes (room_of n))) in
      let b = cut-few ((block_bytes (room_of n) + 4095) / 4096) 0 16 (block_bytes (room_of n)) in
      let c = bytes_within (room_of n) 0 room in
      omega (arith, a, b, c)

  pub filled_pushed : Pushed (λ f. 0 < among f (map heap_frame_of placed.heap.pages)) d.jobs (d.jobs ++ (zero_block placed.heap.pages the_block ++ header_jobs placed.heap.pages the_block n)) (shadow_pages (room_of n) + 2)
  filled_pushed = record {
    more = zero_block placed.heap.pages the_block ++ header_jobs placed.heap.pages the_block n;
    is = refl;
    few = (let a = length-append (zero_block placed.heap.pages the_block) (header_jobs placed.heap.pages the_block n) in let b = zero_few in omega (arith, a, b));
    within = all_weaker (IsFrameOf placed.heap.pages the_block) (λ f. 0 < among f (map heap_frame_of placed.heap.pages)) (zero_block placed.heap.pages the_block ++ header_jobs placed.heap.pages the_block n)
        (λ f i. block_frame placed.heap.pages the_block f has_frames i)
        (fill_where placed.heap.pages the_block n has_frames);
  }
