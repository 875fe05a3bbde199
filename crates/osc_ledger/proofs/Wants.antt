-- The reasons that the journal tells are the kernel's.
use Rattle.std.proofs.Common.{ℕ, ◌+◌, ◌-◌, ◌/◌, ◌≡◌, ◌==◌, nat_lt, nat_le, not, Bool, true, false, cond, Option, Some, None, is_some, is_none, List, [], ◌∷◌, length, sum_by, arith, refl, sym, ap, ◌∙◌}
use Rattle.std.proofs.lemmas.Bool.Decides.{nat_tests}
use Rattle.osc_word.specs.declared.settings.HeapKind.TheVariants.{Oscar, Plain}
use Rattle.osc_word.specs.declared.calls.Call.TheVariants as calls
use Rattle.osc_word.specs.declared.calls.Answer.{Answer}
use Rattle.osc_word.specs.declared.calls.Answer.TheVariants as answers
use Rattle.osc_word.specs.AddressMap.{first_shared_page}
use Rattle.osc_word.specs.Environment.{thread_limit}
use Rattle.osc_class.specs.declared.Room.{Room}
use Rattle.osc_class.specs.Rooms.{room_of, shadow_pages}
use Rattle.osc_image.specs.Frames.{table_count}
use Rattle.osc_slot.specs.declared.Block.{Block}
use Rattle.osc_slot.specs.Slots.{is_room, need as block_need}
use Rattle.osc_slot.specs.Heap.{next_block, free_count}
use Rattle.osc_paging.specs.KeptTables.{need}
use Rattle.osc_space.specs.Objects.{Seen, mark, next_page}
use Rattle.osc_space.specs.Header.{block_of}
use Rattle.osc_space.specs.Space.{reason, first_reason}
use Rattle.osc_space.specs.Malloc.{memory_reasons, malloc_reasons}
use Rattle.osc_space.specs.Realloc.{stays, frames_for}
use Rattle.osc_space.specs.PlainHeap.{plain_reasons, plain_realloc_reasons}
use Rattle.osc_space.specs.Fork.{private_frames, fork_reasons}
use Rattle.osc_space.specs.Share.{next_shared_page, share_reasons}
use Rattle.osc_calls.specs.Threads.{has_room}
use Rattle.osc_calls.specs.Kernel.{KernelState, Process, idle_hart}
use Rattle.osc_calls.specs.Refusals.{draft_of, refusal_of}
use Rattle.osc_machine.specs.Replay.{Ledger, fresh_block}
use Rattle.osc_machine.specs.Refusals.{Setting, region_pages, ever_mapped, process_frames, new_tables, unused, room_reasons, block_frames_from, reasons}
use Rattle.osc_ledger.specs.Wanting.{WantsFit}
use Rattle.osc_ledger.proofs.Accounts.{as_kept}

-- ---- lists of reasons
-- of two, the second counts only where the first does not hold
two-same : (a b c d : Bool) (x y : Answer) → a ≡ b → (b ≡ false → c ≡ d) → first_reason (reason a x ∷ reason c y ∷ []) ≡ first_reason (reason b x ∷ reason d y ∷ [])
two-same a true c d x y e f = ap (λ z. first_reason (reason z x ∷ reason c y ∷ [])) e
two-same a false c d x y e f = ap (λ z. first_reason (reason z x ∷ reason c y ∷ [])) e ∙ ap (λ z. first_reason (reason false x ∷ reason z y ∷ [])) (f refl)

one-same : (c d : Bool) (y : Answer) → c ≡ d → first_reason (reason c y ∷ []) ≡ first_reason (reason d y ∷ [])
one-same c d y e = ap (λ z. first_reason (reason z y ∷ [])) e

-- the same frames are lacking
lack-same : (u v m n : ℕ) → u ≡ v → m ≡ n → nat_lt u m ≡ nat_lt v n
lack-same u v m n e f = ap (λ x. nat_lt x m) e ∙ ap (nat_lt v) f

module _ (image : List ℕ) (k : KernelState) (p : Process) (ls : List Ledger) (l : Ledger) (frames : p.space.heap.frames ≡ k.config.frames) (is : l ≡ as_kept p l) where
  abbrev s : Setting
  s = record { config = k.config; image = image }

  objects-are : l.objects ≡ p.space.objects
  objects-are = ap (λ (m : Ledger). m.objects) is

  held-are : l.held ≡ p.space.heap.held
  held-are = ap (λ (m : Ledger). m.held) is

  block-is : (room : Room) → fresh_block k.config room l ≡ next_block p.space.heap room
  block-is room = λ i. next_block (record { frames = sym frames i; held = held-are i; pages = [] }) room

  block-need-is : (room : Room) → block_need k.config.frames l.held room ≡ block_need p.space.heap.frames p.space.heap.held room
  block-need-is room = λ i. block_need (sym frames i) (held-are i) room

  -- ---- threads
  pub spawn-wants : (pc sp arg : ℕ) → sum_by (λ (m : Ledger). m.spawned) ls ≡ length k.threads
      → first_reason (reasons s ls (is_some (idle_hart k.records)) l (calls.Spawn pc sp arg)) ≡ refusal_of (calls.Spawn pc sp arg) p k
  spawn-wants pc sp arg spawned =
      two-same (not (is_some (idle_hart k.records))) (is_none (idle_hart k.records)) (nat_le thread_limit (sum_by (λ (m : Ledger). m.spawned) ls)) (not (has_room k.threads)) answers.NoHart answers.NoThread
      (idle (idle_hart k.records)) (λ e. ap (nat_le thread_limit) spawned ∙ limit (length k.threads))
    where
      idle : (o : Option ℕ) → not (is_some o) ≡ is_none o
      idle None = refl
      idle (Some hart) = refl

      limit : (n : ℕ) → nat_le thread_limit n ≡ not (nat_lt n thread_limit)
      limit n = grind (arith, nat_tests)

  module _ (w : WantsFit s k.free l p) (unused-is : unused s ls ≡ free_count k.free) where
    -- ---- the heap with shadows
    shadow-wants : (room : Room) (told kept : ℕ) → k.config.heap ≡ Oscar → told ≡ kept
        → first_reason (room_reasons Oscar s ls l room told) ≡ first_reason (memory_reasons kept (shadow_pages room) (draft_of k p))
    shadow-wants room told kept heap same =
        two-same (nat_lt k.config.shadows (mark l.objects + shadow_pages room)) (nat_lt p.space.shadows (mark p.space.objects + shadow_pages room))
        (nat_lt (unused s ls) (told + new_tables s l (next_page l.objects) (shadow_pages room))) (nat_lt (free_count k.free) (kept + need p.space.tables (next_page p.space.objects) (shadow_pages room)))
        answers.NoShadow answers.NoFrames
        (lack-same k.config.shadows p.space.shadows (mark l.objects + shadow_pages room) (mark p.space.objects + shadow_pages room) (sym w.shadows) (ap (λ os. mark os + shadow_pages room) objects-are))
        (λ e. lack-same (unused s ls) (free_count k.free) (told + new_tables s l (next_page l.objects) (shadow_pages room)) (kept + need p.space.tables (next_page p.space.objects) (shadow_pages room)) unused-is
        (ap (λ os. told + new_tables s l (next_page os) (shadow_pages room)) objects-are
        ∙ (let t = w.over_shadows (shadow_pages room) heap (grind (arith, nat_tests, e)) in omega (arith, same, t))))

    pub malloc-oscar-wants : (size : ℕ) → k.config.heap ≡ Oscar
        → first_reason (room_reasons Oscar s ls l (room_of size) (block_need k.config.frames l.held (room_of size))) ≡ first_reason (malloc_reasons size (draft_of k p))
    malloc-oscar-wants size heap =
        shadow-wants (room_of size) (block_need k.config.frames l.held (room_of size)) (block_need p.space.heap.frames p.space.heap.held (room_of size)) heap (block-need-is (room_of size))

    pub realloc-oscar-wants : (size : ℕ) (seen : Seen) → k.config.heap ≡ Oscar
        → first_reason (room_reasons Oscar s ls l (room_of size) (block_frames_from s l (room_of size) (Some (block_of seen.fact))))
        ≡ first_reason (memory_reasons (frames_for (stays seen.fact size) size (draft_of k p)) (shadow_pages (room_of size)) (draft_of k p))
    realloc-oscar-wants size seen heap =
        shadow-wants (room_of size) (block_frames_from s l (room_of size) (Some (block_of seen.fact))) (frames_for (stays seen.fact size) size (draft_of k p)) heap (same (stays seen.fact size))
      where
        same : (b : Bool) → cond b 0 (block_need k.config.frames l.held (room_of size)) ≡ frames_for b size (draft_of k p)
        same true = refl
        same false = block-need-is (room_of size)

    -- ---- the plain heap
    pub malloc-plain-wants : (size : ℕ) → k.config.heap ≡ Plain
        → first_reason (room_reasons Plain s ls l (room_of size) (block_need k.config.frames l.held (room_of size))) ≡ first_reason (plain_reasons (room_of size) (draft_of k p))
    malloc-plain-wants size heap =
        one-same (nat_lt (unused s ls) (told + new_tables s l ((fresh_block k.config (room_of size) l).start / 4096) told)) (nat_lt (free_count k.free) (kept + need p.space.tables (block.start / 4096) kept)) answers.NoFrames
        (ap (λ u. nat_lt u (told + new_tables s l ((fresh_block k.config (room_of size) l).start / 4096) told)) unused-is
        ∙ ap (λ (b : Block). nat_lt (free_count k.free) (told + new_tables s l (b.start / 4096) told)) (block-is (room_of size))
        ∙ ap (λ n. nat_lt (free_count k.free) (n + new_tables s l (block.start / 4096) n)) (block-need-is (room_of size))
        ∙ enough (nat_le kept (free_count k.free)) refl)
      where
        told : ℕ
        told = block_need k.config.frames l.held (room_of size)

        kept : ℕ
        kept = block_need p.space.heap.frames p.space.heap.held (room_of size)

        block : Block
        block = next_block p.space.heap (room_of size)

        enough : (b : Bool) → nat_le kept (free_count k.free) ≡ b
            → nat_lt (free_count k.free) (kept + new_tables s l (block.start / 4096) kept) ≡ nat_lt (free_count k.free) (kept + need p.space.tables (block.start / 4096) kept)
        enough true e = ap (λ n. nat_lt (free_count k.free) (kept + n)) (w.over_blocks (room_of size) heap (grind (arith, nat_tests, e)))
        enough false e = grind (arith, nat_tests, e)

    -- no page wants no table
    none-over : (first : ℕ) → new_tables s l first 0 ≡ 0
    none-over first = less (table_count k.config.levels (ever_mapped s l))
      where
        less : (n : ℕ) → n - n ≡ 0
        less n = omega arith

    pub realloc-plain-wants : (size : ℕ) (old : Block) → k.config.heap ≡ Plain
        → first_reason (room_reasons Plain s ls l (room_of size) (block_frames_from s l (room_of size) (Some old))) ≡ first_reason (plain_realloc_reasons (Some old) size (draft_of k p))
    realloc-plain-wants size old heap = go (is_room (room_of size) old.room)
      where
        go : (b : Bool) → first_reason (room_reasons Plain s ls l (room_of size) (cond b 0 (block_need k.config.frames l.held (room_of size)))) ≡ first_reason (cond b [] (plain_reasons (room_of size) (draft_of k p)))
        go true =
            one-same (nat_lt (unused s ls) (0 + new_tables s l ((fresh_block k.config (room_of size) l).start / 4096) 0)) false answers.NoFrames
            (ap (λ n. nat_lt (unused s ls) (0 + n)) (none-over ((fresh_block k.config (room_of size) l).start / 4096)) ∙ never (unused s ls))
          where
            never : (n : ℕ) → nat_lt n (0 + 0) ≡ false
            never n = grind (arith, nat_tests)
        go false = malloc-plain-wants size heap

    -- ---- fork and share
    pub fork-wants : length ls ≡ length k.processes
        → first_reason (reasons s ls (is_some (idle_hart k.records)) l calls.Fork) ≡ refusal_of calls.Fork p k
    unfolding fork_reasons
    fork-wants count =
        three (idle (idle_hart k.records)) (ap (nat_le k.config.processes) count)
        (lack-same (unused s ls) (free_count k.free) (process_frames s l) (length (private_frames p.space (length k.free))) unused-is w.private)
      where
        idle : (o : Option ℕ) → not (is_some o) ≡ is_none o
        idle None = refl
        idle (Some hart) = refl

        three : {a b c d e f : Bool} → a ≡ b → c ≡ d → e ≡ f
            → first_reason (reason a answers.NoHart ∷ reason c answers.NoProcess ∷ reason e answers.NoFrames ∷ []) ≡ first_reason (reason b answers.NoHart ∷ reason d answers.NoProcess ∷ reason f answers.NoFrames ∷ [])
        three x y z = λ i. first_reason (reason (x i) answers.NoHart ∷ reason (y i) answers.NoProcess ∷ reason (z i) answers.NoFrames ∷ [])

    pub share-wants : (pages : ℕ) → first_reason (reasons s ls (is_some (idle_hart k.records)) l (calls.Share pages)) ≡ refusal_of (calls.Share pages) p k
    unfolding share_reasons
    share-wants pages =
        two-same (pages == 0) (pages == 0) (nat_lt (unused s ls) (pages + new_tables s l (first_shared_page + region_pages l.regions) pages))
        (nat_lt (free_count k.free) (pages + need p.space.tables (next_shared_page p.space.tables) pages)) answers.Empty answers.NoFrames refl
        (λ e. ap (λ u. nat_lt u (pages + new_tables s l (first_shared_page + region_pages l.regions) pages)) unused-is ∙ enough (nat_le pages (free_count k.free)) refl)
      where
        enough : (b : Bool) → nat_le pages (free_count k.free) ≡ b
            → nat_lt (free_count k.free) (pages + new_tables s l (first_shared_page + region_pages l.regions) pages) ≡ nat_lt (free_count k.free) (pages + need p.space.tables (next_shared_page p.space.tables) pages)
        enough true e = ap (λ n. nat_lt (free_count k.free) (pages + n)) (w.over_regions pages (grind (arith, nat_tests, e)))
        enough false e = grind (arith, nat_tests, e)
