-- The plan of each call on the plain heap keeps what the journal tells of its process's tables.
use Rattle.std.proofs.Common.{ℕ, suc, ◌+◌, ◌≡◌, ◌==◌, Bool, true, false, cond, Option, Some, None, is_some, List, [], ◌∷◌, ◌++◌, length, arith, refl, sym, ap, subst, ◌∙◌}
use Rattle.std.proofs.lemmas.Bool.Decides.{nat_tests}
use Rattle.std.specs.List.{list_any}
use Rattle.osc_word.specs.declared.settings.HeapKind.{HeapKind}
use Rattle.osc_word.specs.declared.settings.HeapKind.TheVariants.{Oscar, Plain}
use Rattle.osc_word.specs.declared.calls.Call.{Call}
use Rattle.osc_word.specs.declared.calls.Call.TheVariants as calls
use Rattle.osc_word.specs.declared.calls.Answer.{Answer}
use Rattle.osc_word.specs.declared.calls.Answer.TheVariants as answers
use Rattle.osc_class.specs.Rooms.{room_of}
use Rattle.osc_slot.specs.declared.Block.{Block}
use Rattle.osc_slot.specs.Slots.{is_room}
use Rattle.osc_slot.specs.Heap.{next_block, block_of_user}
use Rattle.osc_paging.specs.KeptTables.{KeptTables}
use Rattle.osc_space.specs.Agree.{HeapAgrees, PlainAgrees}
use Rattle.osc_space.specs.Header.{Found}
use Rattle.osc_space.specs.Share.{shared_pages}
use Rattle.osc_space.specs.Space.{Space, Draft, Outcome, first_reason, unchanged, unless}
use Rattle.osc_space.specs.PlainHeap.{plain_reasons, place_plain, plain_malloc_in, plain_malloc_plan, emptied_pages, plain_free_of, plain_free_plan, copy_block, kept_bytes, plain_resize, plain_realloc_reasons, plain_realloc_of, plain_realloc_plan}
use Rattle.osc_parts.specs.Settled.{Settled}
use Rattle.osc_calls.specs.Kernel.{KernelState, Process, Calling, process_at}
use Rattle.osc_calls.specs.Refusals.{draft_of}
use Rattle.osc_calls.specs.HeapPlans.{terms_of, malloc_by, free_by, free_of, realloc_by}
use Rattle.osc_settled.proofs.Answering.{settled, has_terms, malloc_fits, null_fits, realloc_fits}
use Rattle.osc_settled.proofs.Outcomes.{Asks}
use Rattle.osc_machine.specs.Replay.{Ledger, fresh_block, block_pages, places, unplaces, told_by}
use Rattle.osc_machine.specs.Refusals.{Setting, region_pages}
use Rattle.osc_machine.specs.Agreements.{tells_nothing}
use Rattle.osc_safe.proofs.SpacePlans.{Refuses, AreRefusals, first_refuses}
use Rattle.osc_ledger.specs.Tables.{TablesTold}
use Rattle.osc_ledger.specs.Wanting.{setting}
use Rattle.osc_ledger.proofs.Accounts.{as_kept, at-pointer, absent-pointer}
use Rattle.osc_ledger.proofs.HeapTells.{told_keeps, refused_tells, fresh-is}
use Rattle.osc_ledger.proofs.HasTables.{same-tables}
use Rattle.osc_ledger.proofs.HeapRows.{Has}
use Rattle.osc_ledger.proofs.PlainTells.{next-absent}
use Rattle.osc_tabled.proofs.PlainRows.{same-ledger, placed-has, placed-top, emptied-tables}

-- the tables and their topmost level, and the regions that are told
pub record Keeps (s : Setting) (l m : Ledger) (t u : KeptTables) : Type 0 where
  pub has : Has s m u
  pub top : u.top ≡ t.top
  pub regions : m.regions ≡ l.regions

pub told-after : (s : Setting) (l m : Ledger) (t u : KeptTables) → TablesTold s l t → Keeps s l m t u → shared_pages u ≡ shared_pages t → TablesTold s m u
told-after s l m t u told k shared = record {
  levels = ap suc k.top ∙ told.levels;
  below = k.has.below;
  above = k.has.above;
  regions = ap (λ ms. length ms) shared ∙ told.regions ∙ sym (ap region_pages k.regions);
}

module _ (words image : List ℕ) (k : KernelState) (c : Calling) (p : Process) (a : Asks words k c) (here : process_at k c.pid ≡ Some p) (heap : k.config.heap ≡ Plain) (l : Ledger)
    (told : TablesTold (setting k image) (as_kept p l) p.space.tables) where
  abbrev s : Setting
  s = setting k image

  abbrev d : Draft
  d = draft_of k p

  abbrev n : ℕ
  n = length k.journal

  abbrev base : Ledger
  base = as_kept p l

  rests : Settled Plain k.config.batch (λ frame index. 0) words k.regions d
  rests = subst (λ h. Settled h k.config.batch (λ frame index. 0) words k.regions d) heap (settled words k c p (λ frame index. 0) a here)

  frames : p.space.heap.frames ≡ k.config.frames
  frames = rests.parts.agrees.frames ∙ a.sizes.free

  empty : p.space.objects ≡ []
  empty = let plain : PlainAgrees p.space = rests.parts.agrees.heap in plain.objects

  h : Has s base p.space.tables
  h = record { below = told.below; above = told.above }

  abbrev Keeps-by : Call → Outcome → Type 0
  Keeps-by call o = Keeps s base (told_by k.config n call o.answer base) p.space.tables o.draft.space.tables

  stays-as : (call : Call) (answer : Answer) → tells_nothing answer ≡ true → Keeps-by call (unchanged answer d)
  stays-as call answer e =
      let same = told_keeps k.config n call answer base e in
      record { has = subst (λ m. Has s m p.space.tables) (sym same) h; top = refl; regions = ap (λ (m : Ledger). m.regions) same }

  by-reasons : (call : Call) (r : Option Answer) (made : Outcome) → Refuses r → (r ≡ None → Keeps-by call made) → Keeps-by call (unless r d made)
  by-reasons call None made e f = f refl
  by-reasons call (Some x) made e f = stays-as call x (refused_tells x e)

  -- ---- malloc
  fresh : (size : ℕ) → fresh_block k.config (room_of size) base ≡ next_block p.space.heap (room_of size)
  fresh size = fresh-is k p frames (room_of size) l

  placed-keeps : (size : ℕ) → first_reason (plain_reasons (room_of size) d) ≡ None → (m : Ledger) → m.objects ≡ base.objects → m.waiting ≡ base.waiting → m.regions ≡ base.regions
      → m.canonical ≡ block_pages (fresh_block k.config (room_of size) base) ++ base.canonical
      → Keeps s base m p.space.tables (place_plain size (next_block p.space.heap (room_of size)) d).space.tables
  placed-keeps size wanted m objects waiting regions canonical = record {
    has = placed-has k.config.batch (λ frame index. 0) words k.regions size d rests wanted s base m empty objects waiting regions (canonical ∙ ap (λ b. block_pages b ++ base.canonical) (fresh size)) h;
    top = placed-top k.config.batch (λ frame index. 0) words k.regions size d rests wanted;
    regions = regions;
  }

  -- a ledger that tells of the same pages and objects
  record SamePages (m q : Ledger) : Type 0 where
    objects : q.objects ≡ m.objects
    waiting : q.waiting ≡ m.waiting
    regions : q.regions ≡ m.regions
    canonical : q.canonical ≡ m.canonical

  same-keeps : (m : Ledger) (u : KeptTables) → SamePages base m → u.tables ≡ p.space.tables.tables → u.top ≡ p.space.tables.top → Keeps s base m p.space.tables u
  same-keeps m u same tables top = record {
    has = same-tables _ _ p.space.tables u tables top (same-ledger s base m p.space.tables same.objects same.waiting same.regions same.canonical h);
    top = top;
    regions = same.regions;
  }

  abbrev with-fresh : ℕ → Ledger
  with-fresh size = places (fresh_block k.config (room_of size) base) base

  malloc-plan-keeps : (call : Call) (size : ℕ) → ((start : ℕ) → SamePages (with-fresh size) (told_by k.config n call (answers.Placed (start + 16)) base)) → Keeps-by call (plain_malloc_plan size d)
  unfolding plain_malloc_plan
  malloc-plan-keeps call size is =
      by-reasons call (first_reason (plain_reasons (room_of size) d)) (plain_malloc_in size (next_block p.space.heap (room_of size)) d) (first_refuses (plain_reasons (room_of size) d) (refl, tt))
      (λ wanted. (let same = is (next_block p.space.heap (room_of size)).start in placed-keeps size wanted _ same.objects same.waiting same.regions same.canonical))

  -- a malloc by a realloc of nothing
  null-anew : (size start : ℕ) → SamePages (with-fresh size) (told_by k.config n (calls.Realloc 0 size) (answers.Placed (start + 16)) base)
  null-anew size start =
      let apart : (0 == start + 16) ≡ false = grind (arith, nat_tests) in
      subst (λ b. SamePages (with-fresh size) (cond b base (unplaces 0 (with-fresh size)))) (sym apart) (record { objects = refl; waiting = refl; regions = refl; canonical = refl })

  -- ---- free
  free-plan-keeps : (pointer : ℕ) → Keeps-by (calls.Free pointer) (plain_free_plan k.config.harts pointer d)
  unfolding plain_free_plan
  free-plan-keeps pointer = go (block_of_user p.space.heap.held pointer)
    where
      go : (o : Option Block) → Keeps-by (calls.Free pointer) (plain_free_of o k.config.harts d)
      go None = stays-as (calls.Free pointer) answers.NotAnObject refl
      go (Some block) =
          let e = emptied-tables (emptied_pages p.space.heap.held block) k.config.harts d in
          same-keeps (unplaces pointer base) _ (record { objects = refl; waiting = refl; regions = refl; canonical = refl }) e.0 e.1

  -- ---- realloc
  stayed : (pointer size bytes : ℕ) (old : Block) → block_of_user p.space.heap.held pointer ≡ Some old → Keeps-by (calls.Realloc pointer size) (plain_resize true k.config.harts old size bytes d)
  stayed pointer size bytes old at =
      let lies = at-pointer p.space.heap.held pointer old at in
      let same : (pointer == old.start + 16) ≡ true = grind (arith, nat_tests, lies) in
      same-keeps _ p.space.tables
      (subst (λ b. SamePages base (cond b base (unplaces pointer (with-fresh size)))) (sym same) (record { objects = refl; waiting = refl; regions = refl; canonical = refl })) refl refl

  moved : (pointer size bytes : ℕ) (old : Block) → block_of_user p.space.heap.held pointer ≡ Some old → first_reason (plain_reasons (room_of size) d) ≡ None
      → Keeps-by (calls.Realloc pointer size) (plain_resize false k.config.harts old size bytes d)
  moved pointer size bytes old at wanted =
      let block = next_block p.space.heap (room_of size) in
      let absent = next-absent k.config.batch (λ frame index. 0) words k.regions size d rests wanted in
      let other : (block.start + 16 == pointer) ≡ false = absent-pointer p.space.heap.held pointer block.start old at absent in
      let apart : (pointer == block.start + 16) ≡ false = grind (arith, nat_tests, other) in
      let placed = placed-keeps size wanted (unplaces pointer (with-fresh size)) refl refl refl refl in
      let e = copy_block old block bytes (place_plain size block d) in
      let gone = emptied-tables (emptied_pages e.space.heap.held old) k.config.harts e in
      subst (λ b. Keeps s base (cond b base (unplaces pointer (with-fresh size))) p.space.tables (plain_resize false k.config.harts old size bytes d).draft.space.tables) (sym apart)
      (record { has = same-tables _ _ e.space.tables _ gone.0 gone.1 placed.has; top = gone.1 ∙ placed.top; regions = refl })

  refuses : (b : Bool) (size : ℕ) → AreRefusals (cond b [] (plain_reasons (room_of size) d))
  refuses true size = tt
  refuses false size = (refl, tt)

  realloc-plan-keeps : (pointer size found : ℕ) → Keeps-by (calls.Realloc pointer size) (plain_realloc_plan k.config.harts pointer size found d)
  unfolding plain_realloc_plan
  realloc-plan-keeps pointer size found = go (block_of_user p.space.heap.held pointer) refl
    where
      resized : (old : Block) (b : Bool) → block_of_user p.space.heap.held pointer ≡ Some old → first_reason (cond b [] (plain_reasons (room_of size) d)) ≡ None
          → Keeps-by (calls.Realloc pointer size) (plain_resize b k.config.harts old size (kept_bytes old found size) d)
      resized old true at e = stayed pointer size (kept_bytes old found size) old at
      resized old false at e = moved pointer size (kept_bytes old found size) old at e

      go : (o : Option Block) → block_of_user p.space.heap.held pointer ≡ o → Keeps-by (calls.Realloc pointer size) (plain_realloc_of o k.config.harts size found d)
      go None at = stays-as (calls.Realloc pointer size) answers.NotAnObject refl
      go (Some old) at =
          by-reasons (calls.Realloc pointer size) (first_reason (plain_realloc_reasons (Some old) size d)) (plain_resize (is_room (room_of size) old.room) k.config.harts old size (kept_bytes old found size) d)
          (first_refuses (plain_realloc_reasons (Some old) size d) (refuses (is_room (room_of size) old.room) size))
          (resized old (is_room (room_of size) old.room) at)

  -- ---- by the kind of heap
  not-oscar : {A : Type 0} → k.config.heap ≡ Oscar → A
  not-oscar e = absurd (let x : Plain ≡ Oscar = sym heap ∙ e in let z : ⊥ = grind (arith, x) in z)

  malloc-by-keeps : (call : Call) (size : ℕ) (kind : HeapKind) → k.config.heap ≡ kind → ((start : ℕ) → SamePages (with-fresh size) (told_by k.config n call (answers.Placed (start + 16)) base)) → Keeps-by call (malloc_by kind size d)
  malloc-by-keeps call size Plain e is = malloc-plan-keeps call size is
  malloc-by-keeps call size Oscar e is = not-oscar e

  free-of-keeps : (pointer : ℕ) (found : Found) (kind : HeapKind) → k.config.heap ≡ kind → Keeps-by (calls.Free pointer) (free_of kind (terms_of k) pointer found d)
  free-of-keeps pointer found Oscar e = not-oscar e
  free-of-keeps pointer found Plain e = go (pointer == 0)
    where
      go : (b : Bool) → Keeps-by (calls.Free pointer) (cond b (unchanged answers.Nothing d) (free_by Plain (terms_of k) pointer found d))
      go true = same-keeps (unplaces pointer base) p.space.tables (record { objects = refl; waiting = refl; regions = refl; canonical = refl }) refl refl
      go false = free-plan-keeps pointer

  realloc-by-keeps : (pointer size : ℕ) (found : Found) (kind : HeapKind) → k.config.heap ≡ kind → Keeps-by (calls.Realloc pointer size) (realloc_by kind (terms_of k) pointer size found d)
  realloc-by-keeps pointer size found Plain e = realloc-plan-keeps pointer size found.second
  realloc-by-keeps pointer size found Oscar e = not-oscar e

  -- ---- what the plans leave
  abbrev pub PlainTold : Call → Outcome → Type 0
  PlainTold call o = TablesTold s (told_by k.config n call o.answer base) o.draft.space.tables

  pub plain-malloc-told : (size : ℕ) → PlainTold (calls.Malloc size) (malloc_by k.config.heap size d)
  plain-malloc-told size =
      told-after s base _ p.space.tables _ told (malloc-by-keeps (calls.Malloc size) size k.config.heap refl (λ start. record { objects = refl; waiting = refl; regions = refl; canonical = refl }))
      (malloc_fits k.config.heap k.config.batch (λ frame index. 0) words k.regions size d (settled words k c p (λ frame index. 0) a here)).trades.shared

  pub plain-null-told : (size : ℕ) → PlainTold (calls.Realloc 0 size) (malloc_by k.config.heap size d)
  plain-null-told size =
      told-after s base _ p.space.tables _ told (malloc-by-keeps (calls.Realloc 0 size) size k.config.heap refl (null-anew size))
      (malloc_fits k.config.heap k.config.batch (λ frame index. 0) words k.regions size d (settled words k c p (λ frame index. 0) a here)).trades.shared

  pub plain-free-told : (pointer : ℕ) (found : Found) → PlainTold (calls.Free pointer) (free_of k.config.heap (terms_of k) pointer found d)
  plain-free-told pointer found =
      told-after s base _ p.space.tables _ told (free-of-keeps pointer found k.config.heap refl)
      (null_fits k.config.heap k.config.batch (λ frame index. 0) words k.regions (terms_of k) pointer found d (pointer == 0) (has_terms words k c a) (settled words k c p (λ frame index. 0) a here)).trades.shared

  pub plain-realloc-told : (pointer size : ℕ) (found : Found) → PlainTold (calls.Realloc pointer size) (realloc_by k.config.heap (terms_of k) pointer size found d)
  plain-realloc-told pointer size found =
      told-after s base _ p.space.tables _ told (realloc-by-keeps pointer size found k.config.heap refl)
      (realloc_fits k.config.heap k.config.batch (λ frame index. 0) words k.regions (terms_of k) pointer size found d (has_terms words k c a) (settled words k c p (λ frame index. 0) a here)).trades.shared
