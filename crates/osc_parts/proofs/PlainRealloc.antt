-- A realloc of the plain heap, whether its block stays or moves.
use Rattle.std.proofs.Common.{ℕ, ◌+◌, ◌*◌, ◌/◌, ◌%◌, ◌≡◌, ◌≤◌, Bool, true, false, cond, Option, Some, None, List, [], ◌∷◌, ◌++◌, length, arith, refl, ap, sym, ◌∙◌, subst, ◌⊎◌}
use Rattle.std.proofs.lemmas.Bool.Decides.{nat_tests}
use Rattle.osc_word.specs.declared.calls.Answer.{Answer}
use Rattle.osc_word.specs.declared.calls.Answer.TheVariants as answer
use Rattle.osc_word.specs.declared.job_list.Job.{Job}
use Rattle.osc_word.specs.declared.settings.HeapKind.TheVariants.{Plain}
use Rattle.osc_class.specs.Rooms.{room_of, shadow_pages, block_bytes}
use Rattle.osc_slot.specs.declared.Block.{Block}
use Rattle.osc_slot.specs.Areas.{IsPlaced}
use Rattle.osc_slot.specs.Slots.{is_room, is_held, is_block}
use Rattle.osc_slot.specs.Heap.{next_block, block_of_user, free_count}
use Rattle.osc_slot.proofs.InOrder.{any-insert}
use Rattle.osc_slot.proofs.Bounds.{pages_within}
use Rattle.osc_slot.proofs.Fresh.{placed_is}
use Rattle.osc_paging.specs.KeptTables.{need}
use Rattle.osc_paging.specs.CopyLaws.{IsNoTable}
use Rattle.osc_paging.proofs.Others.{work_elsewhere_keeps}
use Rattle.osc_space.specs.Space.{Draft, GivesBack, first_reason, unless, push}
use Rattle.osc_space.specs.BlockWords.{copy_jobs, trim_jobs}
use Rattle.osc_space.specs.Share.{Regions}
use Rattle.osc_space.specs.Malloc.{block_need}
use Rattle.osc_space.specs.PlainHeap.{kept_bytes, emptied_pages, plain_reasons, plain_stay, plain_move, plain_resize, plain_realloc_of, plain_realloc_plan}
use Rattle.osc_space.specs.WordLaws.{IsFrameOf}
use Rattle.osc_parts.specs.Frames.{vacant, FramesFit}
use Rattle.osc_parts.specs.Settled.{tables_of, Settled}
use Rattle.osc_parts.specs.Jobs.{AllWriteWhere, Pushed, IsOwn, PushesOwn}
use Rattle.osc_parts.specs.PlanFits.{PlanFits}
use Rattle.osc_parts.specs.PlainLaws.{PlainReallocsFit}
use Rattle.osc_parts.proofs.Trading.{held_is, held_once, trades_none}
use Rattle.osc_parts.proofs.JobCounts.{pushed_both, pushed_weaker, copies_few, trims_few}
use Rattle.osc_parts.proofs.Settling.{settled_frames, keeps_fits, same_taken, unchanged_fits}
use Rattle.osc_parts.proofs.Blocks.{room_is_room, room_bytes, room_holds, no_piece, HasFrames, lies_at, block_frame, all_weaker, all_elsewhere, copy_where, trim_where}
use Rattle.osc_parts.proofs.Waiting.{covers}
use Rattle.osc_parts.proofs.PlacingParts as placing
use Rattle.osc_parts.proofs.PlainMalloc.{plain_placed, plain_enough, enough_block, plain_parts, plain_agrees, plain_trades, plain_takes, plain_pushed}
use Rattle.osc_parts.proofs.PlainFree.{left_mapped, found_held, at_slot, free_same, trades, go_pushes, go_fits, gone_is}

-- jobs on a block of a memory
module _ (batch : ℕ) (entries : ℕ → ℕ → ℕ) (words : List ℕ) (regions : Regions) (d : Draft) (settled : Settled Plain batch entries words regions d) (block : Block) (has : HasFrames d.space.heap.pages block) (jobs : List Job) (within : AllWriteWhere (IsFrameOf d.space.heap.pages block) jobs) where
  frames : FramesFit d.space d.free
  frames = settled_frames Plain d.space regions d.free settled.parts.agrees

  no_table : (f : ℕ) → IsFrameOf d.space.heap.pages block f → IsNoTable d.space.tables f
  no_table f i =
      let l = block_frame d.space.heap.pages block f has i in
      let once = held_once d.space d.free f frames in
      let a = held_is f d.space in
      (no_piece f d.space.tables.tables (omega (arith, l, once, a)), no_piece f d.space.tables.aside (omega (arith, l, once, a)))

  pub worked : Settled Plain batch entries words regions (push jobs d)
  worked = record {
    parts = settled.parts;
    tables = work_elsewhere_keeps entries words (tables_of d) jobs settled.tables
        (all_elsewhere d.space.tables jobs (all_weaker (IsFrameOf d.space.heap.pages block) (IsNoTable d.space.tables) jobs no_table within));
  }

  pub work_pushed : (most : ℕ) → length jobs ≤ most → Pushed (IsOwn d.space) d.jobs (d.jobs ++ jobs) most
  work_pushed most l = record {
    more = jobs;
    is = refl;
    few = l;
    within = all_weaker (IsFrameOf d.space.heap.pages block) (IsOwn d.space) jobs (λ f i. (let m = block_frame d.space.heap.pages block f has i in let a = held_is f d.space in omega (arith, m, a))) within;
  }

-- a held block's pages have frames
placed_frames : (batch : ℕ) (entries : ℕ → ℕ → ℕ) (words : List ℕ) (regions : Regions) (d : Draft) (block : Block) → Settled Plain batch entries words regions d → IsPlaced d.space.heap.frames block → is_held d.space.heap.held block ≡ true → HasFrames d.space.heap.pages block
placed_frames batch entries words regions d block k p h =
    let is = placed_is d.space.heap.frames block p in
    let l = lies_at d.space.heap.frames block.room p.slot p.room in
    record {
      room = p.room;
      lies = subst (λ (b : Block). (b.start % 4096 ≡ 0) ⊎ (b.start % 4096 + block_bytes block.room ≤ 4096)) (sym is) l.0;
      ends = subst (λ (b : Block). b.start % 4096 + block_bytes block.room ≤ 4096 * shadow_pages block.room) (sym is) l.1;
      framed = λ page on. k.parts.heap.covered page ∙ covers d.space.heap.held block page h on;
    }

module _ (batch : ℕ) (entries : ℕ → ℕ → ℕ) (words : List ℕ) (regions : Regions) (harts n size : ℕ) (d : Draft) (old : Block) (k : Settled Plain batch entries words regions d) (h8 : harts ≤ 8) (held : is_held d.space.heap.held old ≡ true) where
  place_of : IsPlaced d.space.heap.frames old
  place_of = at_slot batch entries words regions harts d old k held

  old_frames : HasFrames d.space.heap.pages old
  old_frames = placed_frames batch entries words regions d old k place_of held

  abbrev bytes : ℕ
  bytes = kept_bytes old size n

  bytes_old : 16 + bytes ≤ block_bytes old.room
  bytes_old = let a = room_bytes old.room old_frames.room in omega (arith, a)

  pages_few : shadow_pages old.room ≤ length d.free
  pages_few = let p = place_of in let a = pages_within d.space.heap.frames old.room p.slot p.room p.within in let b = k.parts.agrees.frames in omega (arith, a, b)

  -- the block stays
  stay_fits : PlanFits Plain batch entries words regions d (plain_stay old n bytes d)
  stay_fits =
      let jobs = trim_jobs d.space.heap.pages old bytes n in
      let within = trim_where d.space.heap.pages old bytes n old_frames.lies bytes_old in
      let few = trims_few d.space.heap.pages old bytes n old_frames.room in
      let p = pages_few in
      let most : length jobs ≤ 8 * length d.free + 64 = omega (arith, few, p) in
      keeps_fits Plain batch entries words regions d (answer.Placed (old.start + 16)) (push (trim_jobs d.space.heap.pages old bytes n) d) (same_taken d.free) (trades_none d.space d.free) k.parts k.parts
      (worked batch entries words regions d k old old_frames jobs within).tables
      (work_pushed batch entries words regions d k old old_frames jobs within (8 * length d.free + 64) most)

  -- the block moves
  module _ (needs : block_need d (room_of n) + need d.space.tables ((next_block d.space.heap (room_of n)).start / 4096) (block_need d (room_of n)) ≤ free_count d.free) where
    abbrev block : Block
    block = next_block d.space.heap (room_of n)

    abbrev placed : Draft
    placed = plain_placed batch entries words regions n d k needs

    abbrev jobs : List Job
    jobs = copy_jobs placed.space.heap.pages old block bytes

    block_need_is : block_need d (room_of n) ≤ free_count d.free
    block_need_is = enough_block batch entries words regions n d k needs

    placed_settled : Settled Plain batch entries words regions placed
    placed_settled = record { parts = plain_parts batch entries words regions n d k needs; tables = plain_agrees batch entries words regions n d k needs }

    has : HasFrames placed.space.heap.pages block
    has = placing.has_frames Plain batch entries words regions n d k block_need_is

    copy_within : AllWriteWhere (IsFrameOf placed.space.heap.pages block) jobs
    copy_within = copy_where placed.space.heap.pages old block bytes old_frames.lies has.lies bytes_old (let a = room_holds n in omega (arith, a))

    abbrev copied : Draft
    copied = push jobs placed

    copied_settled : Settled Plain batch entries words regions copied
    copied_settled = worked batch entries words regions placed placed_settled block has jobs copy_within

    held_still : is_held placed.space.heap.held old ≡ true
    held_still =
        ap (λ bs. is_held bs old) (placing.held_now Plain batch entries words regions n d k block_need_is)
        ∙ any-insert (λ (b : Block). b.start) (λ b. is_block old b) block d.space.heap.held ∙ (grind (arith, nat_tests, held))

    abbrev gone : Draft
    gone = left_mapped harts (emptied_pages copied.space.heap.held old) copied

    owned : (f : ℕ) → IsOwn copied.space f → IsOwn gone.space f
    owned f l =
        let t = (trades batch entries words regions harts copied old copied_settled held_still).each f in
        let v = ap (λ free. vacant free f) (free_same batch entries words regions harts copied old copied_settled held_still) in
        omega (arith, t, v, l)

    move_pushes : PushesOwn d gone
    move_pushes =
        let few = copies_few placed.space.heap.pages old block bytes (room_is_room n) (let a = room_holds n in omega (arith, a)) in
        let pages = pages_within d.space.heap.frames (room_of n) (placing.goes Plain batch entries words regions n d k block_need_is).slot (room_is_room n) (placing.goes Plain batch entries words regions n d k block_need_is).found.within in
        let fr = k.parts.agrees.frames in
        let most : length jobs ≤ length d.free + 1 = omega (arith, few, pages, fr) in
        let one = plain_pushed batch entries words regions n d k needs in
        let two = work_pushed batch entries words regions placed placed_settled block has jobs copy_within (length d.free + 1) most in
        let both = pushed_both (IsOwn placed.space) d.jobs placed.jobs copied.jobs (4 * length d.free + 2) (length d.free + 1) one two in
        let three = go_pushes batch entries words regions harts copied old copied_settled held_still in
        let all = pushed_both (IsOwn gone.space) d.jobs copied.jobs gone.jobs (4 * length d.free + 2 + (length d.free + 1)) (length copied.free + harts)
        (pushed_weaker (IsOwn placed.space) (IsOwn gone.space) d.jobs copied.jobs (4 * length d.free + 2 + (length d.free + 1)) (4 * length d.free + 2 + (length d.free + 1)) owned (omega arith) both) three in
        let same = (plain_trades batch entries words regions n d k needs).count in
        pushed_weaker (IsOwn gone.space) (IsOwn gone.space) d.jobs gone.jobs (4 * length d.free + 2 + (length d.free + 1) + (length copied.free + harts)) (8 * length d.free + 64) (λ f l. l) (omega (arith, same, h8)) all

    move_fits : PlanFits Plain batch entries words regions d (plain_move harts old n bytes block d)
    move_fits =
        subst (λ (x : Draft). PlanFits Plain batch entries words regions d (record { answer = answer.Placed (block.start + 16); draft = x; closing = GivesBack (old ∷ []) }))
        (sym (gone_is batch entries words regions harts copied old copied_settled held_still))
        (go_fits batch entries words regions harts copied old copied_settled held_still d (answer.Placed (block.start + 16))
        (plain_takes batch entries words regions n d k needs) (plain_trades batch entries words regions n d k needs) move_pushes)

pub plain_reallocs_fit : PlainReallocsFit
unfolding plain_realloc_plan
plain_reallocs_fit batch entries words regions harts pointer n size d k h = go (block_of_user d.space.heap.held pointer) refl
  where
    go : (x : Option Block) → block_of_user d.space.heap.held pointer ≡ x → PlanFits Plain batch entries words regions d (plain_realloc_of x harts n size d)
    go None e = unchanged_fits Plain batch entries words regions d answer.NotAnObject k
    go (Some block) e = kind (is_room (room_of n) block.room) refl
      where
        held : is_held d.space.heap.held block ≡ true
        held = found_held d.space.heap.held pointer block e

        move : (r : Option Answer) → first_reason (plain_reasons (room_of n) d) ≡ r → PlanFits Plain batch entries words regions d (unless r d (plain_resize false harts block n (kept_bytes block size n) d))
        move (Some a) f = unchanged_fits Plain batch entries words regions d a k
        move None f = move_fits batch entries words regions harts n size d block k h held (plain_enough n d f)

        kind : (b : Bool) → is_room (room_of n) block.room ≡ b → PlanFits Plain batch entries words regions d (unless (first_reason (cond b [] (plain_reasons (room_of n) d))) d (plain_resize b harts block n (kept_bytes block size n) d))
        kind true f = stay_fits batch entries words regions harts n size d block k h held
        kind false f = move (first_reason (plain_reasons (room_of n) d)) refl
