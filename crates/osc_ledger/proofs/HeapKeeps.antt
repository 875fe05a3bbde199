-- The plan of each call on the heap with shadows keeps what the journal tells of its process's tables.
use Rattle.std.proofs.Common.{ℕ, ◌+◌, ◌/◌, ◌≡◌, ◌≢◌, ◌<◌, ◌≤◌, ◌==◌, Bool, true, false, cond, Option, Some, None, List, [], ◌∷◌, ◌++◌, length, arith, refl, sym, ap, subst, ◌∙◌}
use Rattle.std.specs.List.{list_any, range_with_len}
use Rattle.osc_word.specs.declared.settings.HeapKind.{HeapKind}
use Rattle.osc_word.specs.declared.settings.HeapKind.TheVariants.{Oscar, Plain}
use Rattle.osc_word.specs.declared.calls.Call.{Call}
use Rattle.osc_word.specs.declared.calls.Call.TheVariants as calls
use Rattle.osc_word.specs.declared.calls.Answer.{Answer}
use Rattle.osc_word.specs.declared.calls.Answer.TheVariants as answers
use Rattle.osc_word.specs.AddressMap.{first_shadow_page}
use Rattle.osc_word.specs.WaitingList.{with_waiting}
use Rattle.osc_class.specs.Rooms.{room_of, shadow_pages}
use Rattle.osc_slot.specs.declared.Block.{Block}
use Rattle.osc_slot.specs.Heap.{next_block, place}
use Rattle.osc_paging.specs.KeptTables.{KeptTables, frame_of, mapping_at}
use Rattle.osc_paging.specs.Agree.{Agrees}
use Rattle.osc_paging.proofs.TableLawProofs.{tables_stand_above}
use Rattle.osc_space.specs.declared.ObjectFact.{ObjectFact}
use Rattle.osc_space.specs.declared.ObjectState.{ObjectState}
use Rattle.osc_space.specs.declared.ObjectState.TheVariants.{Live, Dead}
use Rattle.osc_space.specs.Objects.{Seen, mark, next_page, fact, grant, kill, is_live, is_live_state, is_live_page, object_at}
use Rattle.osc_space.specs.Agree.{HeapAgrees, ObjectsAgree}
use Rattle.osc_space.specs.Header.{Found, object_reasons, block_of}
use Rattle.osc_space.specs.Space.{Space, Draft, Outcome, first_reason, unchanged, unless}
use Rattle.osc_space.specs.Malloc.{malloc_reasons, malloc_in, malloc_plan, place_block, fill_block, grant_object, map_shadows}
use Rattle.osc_space.specs.Free.{waiting_facts, let_wait, is_full, flush_where, flush, kill_object, await, unmap_object, freed, free_seen, free_plan}
use Rattle.osc_space.specs.Realloc.{stays, replace_object, keep_bytes, realloc_reasons, realloc_made, realloc_seen, realloc_plan}
use Rattle.osc_space.proofs.ObjectLawProofs.{mark-kill, mark-grant}
use Rattle.osc_space.proofs.RefusalLawProofs.{object_refuses, realloc_refuses, object_refused, realloc_refused}
use Rattle.osc_parts.proofs.Lists.{get_within}
use Rattle.osc_calls.specs.Kernel.{KernelState, Process, Calling, process_at}
use Rattle.osc_calls.specs.Refusals.{draft_of}
use Rattle.osc_calls.specs.HeapPlans.{terms_of, malloc_by, free_by, free_of, realloc_by}
use Rattle.osc_settled.proofs.Answering.{settled}
use Rattle.osc_settled.proofs.Outcomes.{Asks}
use Rattle.osc_machine.specs.Replay.{Ledger, fresh_block, gains, loses, lets_go, lets_wait, has_object, drops, replaces, told_by}
use Rattle.osc_machine.specs.Refusals.{Setting}
use Rattle.osc_machine.specs.Agreements.{tells_nothing}
use Rattle.osc_safe.proofs.SpacePlans.{Refuses, first_refuses, seen-fact}
use Rattle.osc_ledger.specs.Wanting.{setting}
use Rattle.osc_ledger.proofs.Accounts.{as_kept, kill-grant}
use Rattle.osc_ledger.proofs.HeapTells.{told_keeps, refused_tells, fresh-is}
use Rattle.osc_ledger.proofs.AddedTables.{Adds}
use Rattle.osc_ledger.proofs.HasTables.{same-tables, unmap-tables, flush-top}
use Rattle.osc_ledger.proofs.HeapTables.{last-live}
use Rattle.osc_ledger.proofs.HeapRows.{Has, shadows-add, malloc-has, wait-has, flush-has, realloc-has}

-- the tables and their topmost level
pub record Kept (s : Setting) (l : Ledger) (t u : KeptTables) : Type 0 where
  pub has : Has s l u
  pub top : u.top ≡ t.top

module _ (words image : List ℕ) (found : Found) (k : KernelState) (c : Calling) (p : Process) (a : Asks words k c) (here : process_at k c.pid ≡ Some p) (heap : k.config.heap ≡ Oscar) (l : Ledger)
    (h : Has (setting k image) (as_kept p l) p.space.tables) where
  abbrev s : Setting
  s = setting k image

  abbrev d : Draft
  d = draft_of k p

  abbrev n : ℕ
  n = length k.journal

  abbrev base : Ledger
  base = as_kept p l

  agrees : ObjectsAgree p.space
  agrees = subst (λ x. HeapAgrees x p.space) heap (settled words k c p (λ frame index. 0) a here).parts.agrees.heap

  known : (w : ℕ) → list_any (λ x. x == w) p.space.waiting ≡ true → w < length p.space.objects
  known w e = agrees.waiting.known w e

  deep : 0 < p.space.tables.top
  deep = let levels = (settled words k c p (λ frame index. 0) a here).parts.levels in omega (arith, levels)

  stands : (leaf : ℕ) → frame_of p.space.tables.tables 0 leaf ≢ None → frame_of p.space.tables.tables 1 (leaf / 512) ≢ None
  stands leaf e = (tables_stand_above p.space.tables k.free _ (settled words k c p (λ frame index. 0) a here).tables).tables 0 leaf deep e

  stays-as : (call : Call) (answer : Answer) → tells_nothing answer ≡ true → Kept s (told_by k.config n call answer base) p.space.tables p.space.tables
  stays-as call answer e = record { has = subst (λ m. Has s m p.space.tables) (sym (told_keeps k.config n call answer base e)) h; top = refl }

  -- what the plan made of the process: its words agree, and the pages of live objects are mapped
  module _ (q : Space) (free : List Bool) (after : List ℕ) (words-agree : Agrees q.tables free after)
      (mapped : (page : ℕ) → first_shadow_page ≤ page → page < next_page q.objects → is_live_page q.objects page ≡ true → mapping_at q.tables.pages page ≢ None) where
    malloc-keeps : (call : Call) (size : ℕ) → ((object pointer : ℕ) → told_by k.config n call (answers.Given object pointer) base ≡ gains size (fresh_block k.config (room_of size) base) base)
        → q ≡ (malloc_in size (next_block p.space.heap (room_of size)) d).draft.space
        → Kept s (gains size (fresh_block k.config (room_of size) base) base) p.space.tables q.tables
    unfolding place
    malloc-keeps call size is made =
        let block = next_block p.space.heap (room_of size) in
        let filled = fill_block block size (grant_object block size (place_block (room_of size) d)) in
        let adds = subst (λ (x : Space). Adds (range_with_len (next_page p.space.objects) (shadow_pages (room_of size))) p.space.tables x.tables) (sym made) (shadows-add (next_page p.space.objects) block filled) in
        let objects = ap (λ (x : Space). x.objects) made in record {
          has = malloc-has s base (gains size (fresh_block k.config (room_of size) base) base) (shadow_pages (room_of size)) size ((fresh_block k.config (room_of size) base).start + 16) p.space.tables q.tables free after
              refl refl refl refl known adds words-agree
              (λ page low high. mapped page (omega (arith, low))
              (subst (λ os. page < next_page os) (sym objects) (let m = mark-grant (shadow_pages (room_of size)) size (block.start + 16) p.space.objects in omega (arith, high, m)))
              (ap (λ os. is_live_page os page) objects ∙ last-live p.space.objects (next_page p.space.objects) (shadow_pages (room_of size)) size (block.start + 16) page low high)) h;
          top = adds.top;
        }

    -- ---- free
    freed-keeps : (s0 : Seen) → fact p.space.objects s0.number ≡ Some s0.fact → is_live s0.fact ≡ true
        → q ≡ (freed s0.number (terms_of k) (let_wait (terms_of k) s0 d)).draft.space
        → Kept s (lets_wait k.config s0.number n base) p.space.tables q.tables
    freed-keeps s0 at alive made = go (is_full (terms_of k) waited.space) (ap (λ (x : Space). x.tables) made)
      where
        waited : Draft
        waited = let_wait (terms_of k) s0 d

        lost : Ledger
        lost = record (loses s0.number n base) { waiting = with_waiting p.space.waiting s0.number }

        un : ((unmap_object s0.fact (await s0.number (kill_object s0.number n d))).space.tables.tables ≡ p.space.tables.tables) × ((unmap_object s0.fact (await s0.number (kill_object s0.number n d))).space.tables.top ≡ p.space.tables.top)
        un = unmap-tables (range_with_len s0.fact.first s0.fact.pages) (record { tables = p.space.tables; free = k.free; jobs = k.jobs })

        waits : Has s lost waited.space.tables
        waits = same-tables _ _ p.space.tables waited.space.tables un.0 un.1 (wait-has s base lost s0.number n s0.fact p.space.tables refl refl refl refl at alive h)

        go : (b : Bool) → q.tables ≡ (flush_where b k.config.harts waited).space.tables → Kept s (cond b (lets_go lost) lost) p.space.tables q.tables
        go true e = record {
          has = subst (Has s (lets_go lost)) (sym e) (flush-has s lost (lets_go lost) k.config.harts waited refl refl refl refl refl refl
              (subst (λ x. 0 < x) (sym un.1) deep) (λ leaf g. (subst (λ ts. frame_of ts 1 (leaf / 512) ≢ None) (sym un.0) (stands leaf (subst (λ ts. frame_of ts 0 leaf ≢ None) un.0 g)))) waits);
          top = ap (λ (t : KeptTables). t.top) e ∙ flush-top k.config.harts (waiting_facts waited.space) waited ∙ un.1;
        }
        go false e = record { has = subst (Has s lost) (sym e) waits; top = ap (λ (t : KeptTables). t.top) e ∙ un.1 }

    -- ---- realloc: `e` is the draft at its flush, and `last` the one before its pages are mapped
    abbrev both : ℕ → Block → ℕ → List ObjectFact
    both object block size = kill object n (grant (shadow_pages block.room) size (block.start + 16) p.space.objects)

    moved-keeps : (s0 : Seen) → fact p.space.objects s0.number ≡ Some s0.fact → is_live s0.fact ≡ true → (block : Block) (size : ℕ) (m : Ledger) (e last : Draft)
        → m.objects ≡ both s0.number block size → m.waiting ≡ [] → m.regions ≡ base.regions → m.canonical ≡ base.canonical
        → e.space.objects ≡ both s0.number block size → e.space.waiting ≡ p.space.waiting → e.space.tables.tables ≡ p.space.tables.tables → e.space.tables.top ≡ p.space.tables.top
        → last.space.tables ≡ (flush k.config.harts (waiting_facts e.space ++ s0.fact ∷ []) e).space.tables → q.tables ≡ (map_shadows (next_page p.space.objects) block last).space.tables
        → q.objects ≡ both s0.number block size → Kept s m p.space.tables q.tables
    moved-keeps s0 at alive block size m e last objects none regions canonical kept waits tables top last-is q-is q-objects =
        let within = get_within p.space.objects s0.number s0.fact at in
        let pages = shadow_pages block.room in
        let canon = block.start + 16 in
        let flushed = flush k.config.harts (waiting_facts e.space ++ s0.fact ∷ []) e in
        let adds-last = shadows-add (next_page p.space.objects) block last in
        let adds : Adds (range_with_len (next_page p.space.objects) pages) flushed.space.tables q.tables =
        subst (λ t. Adds (range_with_len (next_page p.space.objects) pages) t q.tables) last-is (subst (λ t. Adds (range_with_len (next_page p.space.objects) pages) last.space.tables t) (sym q-is) adds-last) in
        let marks = ap (λ os. mark os) q-objects ∙ mark-kill s0.number n (grant pages size canon p.space.objects) ∙ mark-grant pages size canon p.space.objects in
        let same = mark-kill s0.number n p.space.objects in
        record {
          has = realloc-has s base m s0.number n pages size canon k.config.harts s0.fact p.space.tables q.tables e free after kept waits tables top objects none regions canonical at alive within known
              (subst (λ x. 0 < x) (sym top) deep) (λ leaf g. (subst (λ ts. frame_of ts 1 (leaf / 512) ≢ None) (sym tables) (stands leaf (subst (λ ts. frame_of ts 0 leaf ≢ None) tables g)))) adds words-agree
              (λ page low high. mapped page (omega (arith, low)) (omega (arith, high, marks))
              (ap (λ os. is_live_page os page) (q-objects ∙ kill-grant s0.number n pages size canon p.space.objects within)
              ∙ last-live (kill s0.number n p.space.objects) (next_page (kill s0.number n p.space.objects)) pages size canon page (omega (arith, low, same)) (omega (arith, high, same)))) h;
          top = adds.top ∙ flush-top k.config.harts (waiting_facts e.space ++ s0.fact ∷ []) e ∙ top;
        }

    realloced-keeps : (s0 : Seen) → fact p.space.objects s0.number ≡ Some s0.fact → is_live s0.fact ≡ true → (size : ℕ) → p.space.heap.frames ≡ k.config.frames
        → q ≡ (realloc_made (stays s0.fact size) (terms_of k) s0 size d).draft.space
        → Kept s (replaces k.config s0.number n (Some s0.fact) size base) p.space.tables q.tables
    unfolding place
    realloced-keeps s0 at alive size frames made = go (stays s0.fact size) made
      where
        within : s0.number < length p.space.objects
        within = get_within p.space.objects s0.number s0.fact at

        go : (b : Bool) → q ≡ (realloc_made b (terms_of k) s0 size d).draft.space
            → Kept s (cond b (has_object size (block_of s0.fact) (lets_go (loses s0.number n base)))
            (drops (block_of s0.fact ∷ []) (lets_go (gains size (fresh_block k.config (room_of size) base) (loses s0.number n base))))) p.space.tables q.tables
        go true made =
            let block = block_of s0.fact in
            let before = kill_object s0.number n (grant_object block size d) in
            let e = unmap_object s0.fact before in
            let un = unmap-tables (range_with_len s0.fact.first s0.fact.pages) (record { tables = before.space.tables; free = before.free; jobs = before.jobs }) in
            let last = keep_bytes true s0.fact block size (replace_object (terms_of k) s0 block size d) in
            moved-keeps s0 at alive block size (has_object size block (lets_go (loses s0.number n base))) e last
            (sym (kill-grant s0.number n (shadow_pages block.room) size (block.start + 16) p.space.objects within)) refl refl refl refl refl un.0 un.1 refl (ap (λ (x : Space). x.tables) made) (ap (λ (x : Space). x.objects) made)
        go false made =
            let block = next_block p.space.heap (room_of size) in
            let placed = place_block (room_of size) d in
            let before = kill_object s0.number n (grant_object block size placed) in
            let e = unmap_object s0.fact before in
            let un = unmap-tables (range_with_len s0.fact.first s0.fact.pages) (record { tables = before.space.tables; free = before.free; jobs = before.jobs }) in
            let last = keep_bytes false s0.fact block size (replace_object (terms_of k) s0 block size placed) in
            let fresh = fresh-is k p frames (room_of size) l in
            moved-keeps s0 at alive block size (drops (block_of s0.fact ∷ []) (lets_go (gains size (fresh_block k.config (room_of size) base) (loses s0.number n base)))) e last
            (ap (λ (b : Block). grant (shadow_pages b.room) size (b.start + 16) (kill s0.number n p.space.objects)) fresh
            ∙ sym (kill-grant s0.number n (shadow_pages block.room) size (block.start + 16) p.space.objects within)) refl refl refl refl refl un.0 un.1 refl (ap (λ (x : Space). x.tables) made) (ap (λ (x : Space). x.objects) made)

  -- ---- the plans
  -- what a plan on this memory leaves
  pub record Leaves (o : Outcome) : Type 0 where
    pub free : List Bool
    pub after : List ℕ
    pub agree : Agrees o.draft.space.tables free after
    pub mapped : (page : ℕ) → first_shadow_page ≤ page → page < next_page o.draft.space.objects → is_live_page o.draft.space.objects page ≡ true → mapping_at o.draft.space.tables.pages page ≢ None

  abbrev pub Keeps-by : Call → Outcome → Type 0
  Keeps-by call o = Kept s (told_by k.config n call o.answer base) p.space.tables o.draft.space.tables

  by-reasons : (call : Call) (r : Option Answer) (made : Outcome) → Refuses r → (r ≡ None → Leaves made → Keeps-by call made) → Leaves (unless r d made) → Keeps-by call (unless r d made)
  by-reasons call None made e f w = f refl w
  by-reasons call (Some x) made e f w = stays-as call x (refused_tells x e)

  malloc-plan-keeps : (call : Call) (size : ℕ) → ((object pointer : ℕ) → told_by k.config n call (answers.Given object pointer) base ≡ gains size (fresh_block k.config (room_of size) base) base)
      → Leaves (malloc_plan size d) → Keeps-by call (malloc_plan size d)
  unfolding malloc_plan
  malloc-plan-keeps call size is =
      by-reasons call (first_reason (malloc_reasons size d)) (malloc_in size (next_block d.space.heap (room_of size)) d) (first_refuses (malloc_reasons size d) (refl, (refl, tt)))
      (λ e w. subst (λ m. Kept s m p.space.tables (malloc_in size (next_block d.space.heap (room_of size)) d).draft.space.tables) (sym (is _ _))
      (malloc-keeps (malloc_in size (next_block d.space.heap (room_of size)) d).draft.space w.free w.after w.agree w.mapped call size is refl))

  -- an object that is not refused lives
  lives-where : (s0 : Seen) → first_reason (object_reasons (Some s0) found) ≡ None → is_live s0.fact ≡ true
  lives-where s0 e = go s0.fact.state refl
    where
      go : (state : ObjectState) → s0.fact.state ≡ state → is_live_state s0.fact.state ≡ true
      go Live f = ap is_live_state f
      go (Dead call) f = (let x = sym ((object_refused s0 found).dead call f) ∙ e in absurd (let z : ⊥ = grind (arith, x) in z))

  not-first : (s0 : Seen) (size : ℕ) → first_reason (realloc_reasons (Some s0) size found d) ≡ None → first_reason (object_reasons (Some s0) found) ≡ None
  not-first s0 size e = go (first_reason (object_reasons (Some s0) found)) refl
    where
      go : (x : Option Answer) → first_reason (object_reasons (Some s0) found) ≡ x → first_reason (object_reasons (Some s0) found) ≡ None
      go None f = f
      go (Some y) f = (let x = sym ((realloc_refused s0 size found d).object y f) ∙ e in absurd (let z : ⊥ = grind (arith, x) in z))

  free-plan-keeps : (pointer : ℕ) → Leaves (free_plan (terms_of k) pointer found d) → Keeps-by (calls.Free pointer) (free_plan (terms_of k) pointer found d)
  unfolding free_plan
  free-plan-keeps pointer = go (object_at d.space.objects pointer) (λ s0 e. seen-fact d.space.objects pointer s0 e)
    where
      go : (o : Option Seen) → ((s0 : Seen) → o ≡ Some s0 → fact p.space.objects s0.number ≡ Some s0.fact) → Leaves (free_seen o (terms_of k) found d) → Keeps-by (calls.Free pointer) (free_seen o (terms_of k) found d)
      go None f = λ w. stays-as (calls.Free pointer) answers.NotAnObject refl
      go (Some s0) f =
          by-reasons (calls.Free pointer) (first_reason (object_reasons (Some s0) found)) (freed s0.number (terms_of k) (let_wait (terms_of k) s0 d)) (first_refuses (object_reasons (Some s0) found) (object_refuses s0 found))
          (λ e w. freed-keeps (freed s0.number (terms_of k) (let_wait (terms_of k) s0 d)).draft.space w.free w.after w.agree w.mapped s0 (f s0 refl) (lives-where s0 e) refl)

  free-of-keeps : (pointer : ℕ) → Leaves (free_of Oscar (terms_of k) pointer found d) → Keeps-by (calls.Free pointer) (free_of Oscar (terms_of k) pointer found d)
  free-of-keeps pointer = go (pointer == 0) refl
    where
      go : (b : Bool) → (pointer == 0) ≡ b → Leaves (cond b (unchanged answers.Nothing d) (free_by Oscar (terms_of k) pointer found d)) → Keeps-by (calls.Free pointer) (cond b (unchanged answers.Nothing d) (free_by Oscar (terms_of k) pointer found d))
      go true e w = record { has = nothing; top = refl }
        where
          nothing : Has s (told_by k.config n (calls.Free pointer) answers.Nothing base) p.space.tables
          nothing = record { below = h.below; above = h.above }
      go false e w = free-plan-keeps pointer w

  realloc-plan-keeps : (pointer size : ℕ) → p.space.heap.frames ≡ k.config.frames → Leaves (realloc_plan (terms_of k) pointer size found d) → Keeps-by (calls.Realloc pointer size) (realloc_plan (terms_of k) pointer size found d)
  unfolding realloc_plan
  realloc-plan-keeps pointer size frames = go (object_at d.space.objects pointer) (λ s0 e. seen-fact d.space.objects pointer s0 e)
    where
      go : (o : Option Seen) → ((s0 : Seen) → o ≡ Some s0 → fact p.space.objects s0.number ≡ Some s0.fact) → Leaves (realloc_seen o (terms_of k) size found d) → Keeps-by (calls.Realloc pointer size) (realloc_seen o (terms_of k) size found d)
      go None f = λ w. stays-as (calls.Realloc pointer size) answers.NotAnObject refl
      go (Some s0) f =
          by-reasons (calls.Realloc pointer size) (first_reason (realloc_reasons (Some s0) size found d)) (realloc_made (stays s0.fact size) (terms_of k) s0 size d) (first_refuses (realloc_reasons (Some s0) size found d) (realloc_refuses s0 size found d))
          (λ e w. subst (λ o. Kept s (replaces k.config s0.number n o size base) p.space.tables (realloc_made (stays s0.fact size) (terms_of k) s0 size d).draft.space.tables) (sym (f s0 refl))
          (realloced-keeps (realloc_made (stays s0.fact size) (terms_of k) s0 size d).draft.space w.free w.after w.agree w.mapped s0 (f s0 refl) (lives-where s0 (not-first s0 size e)) size frames refl))

  -- ---- by the kind of heap
  not-plain : {A : Type 0} → k.config.heap ≡ Plain → A
  not-plain e = absurd (let x : Oscar ≡ Plain = sym heap ∙ e in let z : ⊥ = grind (arith, x) in z)

  pub malloc-by-keeps : (call : Call) (size : ℕ) (kind : HeapKind) → k.config.heap ≡ kind → ((object pointer : ℕ) → told_by k.config n call (answers.Given object pointer) base ≡ gains size (fresh_block k.config (room_of size) base) base)
      → Leaves (malloc_by kind size d) → Keeps-by call (malloc_by kind size d)
  malloc-by-keeps call size Oscar e is w = malloc-plan-keeps call size is w
  malloc-by-keeps call size Plain e is w = not-plain e

  pub free-by-keeps : (pointer : ℕ) (kind : HeapKind) → k.config.heap ≡ kind → Leaves (free_of kind (terms_of k) pointer found d) → Keeps-by (calls.Free pointer) (free_of kind (terms_of k) pointer found d)
  free-by-keeps pointer Oscar e w = free-of-keeps pointer w
  free-by-keeps pointer Plain e w = not-plain e

  pub realloc-by-keeps : (pointer size : ℕ) (kind : HeapKind) → k.config.heap ≡ kind → p.space.heap.frames ≡ k.config.frames
      → Leaves (realloc_by kind (terms_of k) pointer size found d) → Keeps-by (calls.Realloc pointer size) (realloc_by kind (terms_of k) pointer size found d)
  realloc-by-keeps pointer size Oscar e frames w = realloc-plan-keeps pointer size frames w
  realloc-by-keeps pointer size Plain e frames w = not-plain e
