-- The law of the tables under calls on the heap.
use Rattle.std.proofs.Common.{ℕ, suc, ◌≡◌, ◌==◌, Bool, true, false, cond, Option, Some, None, List, [], ◌∷◌, length, map, arith, refl, sym, ap, subst, ◌∙◌}
use Rattle.osc_word.specs.declared.settings.Config.{Config}
use Rattle.osc_word.specs.declared.settings.HeapKind.TheVariants.{Oscar}
use Rattle.osc_word.specs.declared.calls.Call.{Call}
use Rattle.osc_word.specs.declared.calls.Call.TheVariants as calls
use Rattle.osc_word.specs.declared.calls.Answer.{Answer}
use Rattle.osc_word.specs.declared.calls.Answer.TheVariants as answers
use Rattle.osc_word.specs.WaitingList.{with_waiting}
use Rattle.osc_class.specs.Rooms.{room_of}
use Rattle.osc_slot.specs.Slots.{is_room}
use Rattle.osc_space.specs.declared.ObjectFact.{ObjectFact}
use Rattle.osc_space.specs.Objects.{fact}
use Rattle.osc_space.specs.Header.{Found, block_of}
use Rattle.osc_space.specs.Space.{Draft, Outcome}
use Rattle.osc_space.specs.Share.{shared_pages}
use Rattle.osc_calls.specs.Kernel.{KernelState, Process, Calling, process_at}
use Rattle.osc_calls.specs.Requests.{meant}
use Rattle.osc_calls.specs.Refusals.{draft_of}
use Rattle.osc_calls.specs.HeapPlans.{terms_of, malloc_by, free_of, realloc_by}
use Rattle.osc_calls.specs.Planned.{outcome_planned}
use Rattle.osc_calls.specs.Plan.{plan_meant, plan_of, committed}
use Rattle.osc_settled.specs.KernelFits.{KernelFits}
use Rattle.osc_settled.proofs.Lists.{get-put_same, some_same}
use Rattle.osc_settled.proofs.Commits.{lives_none, commits}
use Rattle.osc_settled.proofs.Outcomes.{Asks, asks, caller_lives}
use Rattle.osc_settled.proofs.Answering.{settled, has_terms, malloc_fits, null_fits, realloc_fits}
use Rattle.osc_settled.proofs.Plans.{row}
use Rattle.osc_machine.specs.Replay.{Ledger, ledger_at, fresh_block, lets_go, loses, has_object, drops, gains, replaces, places, unplaces, told_by, replay}
use Rattle.osc_machine.specs.Refusals.{Setting, region_pages}
use Rattle.osc_machine.specs.Agreements.{account_kept}
use Rattle.osc_ledger.specs.Wanting.{setting}
use Rattle.osc_ledger.specs.Tables.{TablesTold, is_heap_call, HeapPlansKeepTables}
use Rattle.osc_ledger.proofs.Accounts.{as_kept}
use Rattle.osc_ledger.proofs.HeapTells.{with_space}
use Rattle.osc_ledger.proofs.Returned.{account-at, kept-ledger}
use Rattle.osc_ledger.proofs.ReplaySteps.{IsUncommitted, uncommitted}
use Rattle.osc_ledger.proofs.HeapTables.{live-mapped}
use Rattle.osc_ledger.proofs.HeapRows.{Has}
use Rattle.osc_ledger.proofs.HeapKeeps.{Kept, Leaves, malloc-by-keeps, free-by-keeps, realloc-by-keeps}

-- ---- regions
regions-if : (b : Bool) (l m n : Ledger) → m.regions ≡ l.regions → n.regions ≡ l.regions → (cond b m n).regions ≡ l.regions
regions-if true l m n x y = x
regions-if false l m n x y = y

regions-replaced : (config : Config) (old call : ℕ) (o : Option ObjectFact) (size : ℕ) (l : Ledger) → (replaces config old call o size l).regions ≡ l.regions
regions-replaced config old call None size l = refl
regions-replaced config old call (Some o) size l =
    regions-if (is_room (room_of size) (room_of o.size)) l (has_object size (block_of o) (lets_go (loses old call l)))
    (drops (block_of o ∷ []) (lets_go (gains size (fresh_block config (room_of size) l) (loses old call l)))) refl refl

regions-stay : (config : Config) (n : ℕ) (call : Call) (answer : Answer) (l : Ledger) → is_heap_call call ≡ true → (told_by config n call answer l).regions ≡ l.regions
regions-stay config n (calls.Malloc size) (answers.Given object pointer) l e = refl
regions-stay config n (calls.Malloc size) (answers.Placed pointer) l e = refl
regions-stay config n (calls.Free pointer) (answers.Freed object) l e =
    let freed : Ledger = record (loses object n l) { waiting = with_waiting l.waiting object } in regions-if _ l (lets_go freed) freed refl refl
regions-stay config n (calls.Free pointer) answers.Nothing l e = refl
regions-stay config n (calls.Realloc pointer size) (answers.Given object new) l e = refl
regions-stay config n (calls.Realloc pointer size) (answers.Moved old object new) l e = regions-replaced config old n (fact l.objects old) size l
regions-stay config n (calls.Realloc pointer size) (answers.Placed new) l e = regions-if _ l l (unplaces pointer (places (fresh_block config (room_of size) l) l)) refl refl
regions-stay config n (calls.Share pages) (answers.Number address) l e = absurd (let z : ⊥ = grind (arith, e) in z)
regions-stay config n (calls.Spawn pc sp arg) answer l e = absurd (let z : ⊥ = grind (arith, e) in z)
regions-stay config n (calls.Done value) answer l e = absurd (let z : ⊥ = grind (arith, e) in z)
regions-stay config n (calls.Exit status) answer l e = absurd (let z : ⊥ = grind (arith, e) in z)
regions-stay config n (calls.End fault) answer l e = absurd (let z : ⊥ = grind (arith, e) in z)
regions-stay config n _ _ l e = refl

module _ (words image : List ℕ) (found : Found) (k : KernelState) (c : Calling) (p : Process) (a : Asks words k c) (here : process_at k c.pid ≡ Some p) (heap : k.config.heap ≡ Oscar) (l : Ledger)
    (told : TablesTold (setting k image) (as_kept p l) p.space.tables) where
  abbrev s : Setting
  s = setting k image

  abbrev d : Draft
  d = draft_of k p

  h : Has s (as_kept p l) p.space.tables
  h = record { below = told.below; above = told.above }

  frames : p.space.heap.frames ≡ k.config.frames
  frames = (settled words k c p (λ frame index. 0) a here).parts.agrees.frames ∙ a.sizes.free

  -- what a plan leaves, by the kernel that it makes
  leaves : (o : Outcome) → KernelFits words (committed c (outcome_planned c.pid p k o)) → Leaves words image found k c p a here heap l h o
  leaves o fits =
      let new = committed c (outcome_planned c.pid p k o) in
      let q = with_space p o.draft.space in
      let there : process_at new c.pid ≡ Some q = get-put_same k.processes c.pid p q here in
      let lives = lives_none p (process_at k c.pid) here (caller_lives words k c a) in
      record { free = new.free; after = _; agree = (fits.memory.spaces c.pid q there lives).tables; mapped = live-mapped words new c.pid q fits heap there lives }

  by-outcome : (call : Call) (o : Outcome) (q : Process) → is_heap_call call ≡ true → process_at (outcome_planned c.pid p k o).kernel c.pid ≡ Some q
      → Kept s (told_by k.config (length k.journal) call o.answer (as_kept p l)) p.space.tables o.draft.space.tables → shared_pages o.draft.space.tables ≡ shared_pages p.space.tables
      → TablesTold s (told_by k.config (length k.journal) call o.answer (as_kept p l)) q.space.tables
  by-outcome call o q is-heap at kept shared =
      let same : with_space p o.draft.space ≡ q = some_same (with_space p o.draft.space) q (sym (get-put_same k.processes c.pid p (with_space p o.draft.space) here) ∙ at) in
      subst (λ (x : Process). TablesTold s (told_by k.config (length k.journal) call o.answer (as_kept p l)) x.space.tables) same
      (record {
        levels = ap suc kept.top ∙ told.levels;
        below = kept.has.below;
        above = kept.has.above;
        regions = ap (λ ms. length ms) shared ∙ told.regions ∙ sym (ap region_pages (regions-stay k.config (length k.journal) call o.answer (as_kept p l) is-heap));
      })

  pub heap-row : (call : Call) (q : Process) → is_heap_call call ≡ true → process_at (plan_meant found c p k (meant call)).kernel c.pid ≡ Some q → KernelFits words (committed c (plan_meant found c p k (meant call)))
      → TablesTold s (told_by k.config (length k.journal) call (plan_meant found c p k (meant call)).answer (as_kept p l)) q.space.tables
  heap-row (calls.Malloc size) q e at fits =
      let o = malloc_by k.config.heap size d in
      by-outcome (calls.Malloc size) o q e at (malloc-by-keeps words image found k c p a here heap l h (calls.Malloc size) size k.config.heap refl (λ object pointer. refl) (leaves o fits))
      (malloc_fits k.config.heap k.config.batch (λ frame index. 0) words k.regions size d (settled words k c p (λ frame index. 0) a here)).trades.shared
  heap-row (calls.Free pointer) q e at fits =
      let o = free_of k.config.heap (terms_of k) pointer found d in
      by-outcome (calls.Free pointer) o q e at (free-by-keeps words image found k c p a here heap l h pointer k.config.heap refl (leaves o fits))
      (null_fits k.config.heap k.config.batch (λ frame index. 0) words k.regions (terms_of k) pointer found d (pointer == 0) (has_terms words k c a) (settled words k c p (λ frame index. 0) a here)).trades.shared
  heap-row (calls.Realloc pointer size) q e at fits = go (pointer == 0) refl at fits
    where
      go : (b : Bool) → (pointer == 0) ≡ b → process_at (plan_meant found c p k (cond b (calls.Malloc size) (calls.Realloc pointer size))).kernel c.pid ≡ Some q
          → KernelFits words (committed c (plan_meant found c p k (cond b (calls.Malloc size) (calls.Realloc pointer size))))
          → TablesTold s (told_by k.config (length k.journal) (calls.Realloc pointer size) (plan_meant found c p k (cond b (calls.Malloc size) (calls.Realloc pointer size))).answer (as_kept p l)) q.space.tables
      go true z at fits =
          let o = malloc_by k.config.heap size d in
          by-outcome (calls.Realloc pointer size) o q refl at (malloc-by-keeps words image found k c p a here heap l h (calls.Realloc pointer size) size k.config.heap refl (λ object pointer. refl) (leaves o fits))
          (malloc_fits k.config.heap k.config.batch (λ frame index. 0) words k.regions size d (settled words k c p (λ frame index. 0) a here)).trades.shared
      go false z at fits =
          let o = realloc_by k.config.heap (terms_of k) pointer size found d in
          by-outcome (calls.Realloc pointer size) o q refl at (realloc-by-keeps words image found k c p a here heap l h pointer size k.config.heap refl frames (leaves o fits))
          (realloc_fits k.config.heap k.config.batch (λ frame index. 0) words k.regions (terms_of k) pointer size found d (has_terms words k c a) (settled words k c p (λ frame index. 0) a here)).trades.shared
  heap-row (calls.Exit status) q e at fits = absurd (let z : ⊥ = grind (arith, e) in z)
  heap-row (calls.Write buf len) q e at fits = absurd (let z : ⊥ = grind (arith, e) in z)
  heap-row calls.Fork q e at fits = absurd (let z : ⊥ = grind (arith, e) in z)
  heap-row (calls.Spawn pc sp arg) q e at fits = absurd (let z : ⊥ = grind (arith, e) in z)
  heap-row (calls.Join number) q e at fits = absurd (let z : ⊥ = grind (arith, e) in z)
  heap-row (calls.Done value) q e at fits = absurd (let z : ⊥ = grind (arith, e) in z)
  heap-row (calls.Share count) q e at fits = absurd (let z : ⊥ = grind (arith, e) in z)
  heap-row (calls.Wait number) q e at fits = absurd (let z : ⊥ = grind (arith, e) in z)
  heap-row (calls.Unknown number) q e at fits = absurd (let z : ⊥ = grind (arith, e) in z)
  heap-row (calls.End fault) q e at fits = absurd (let z : ⊥ = grind (arith, e) in z)

pub heap_plans_keep_tables : HeapPlansKeepTables
heap_plans_keep_tables words image found k c p q fits u here f heap is-heap told at =
    let a = asks words k c fits u in
    let ls = replay k.config k.journal in
    let l = ledger_at ls c.pid in
    let is = kept-ledger l p (account-at ls k.processes c.pid p (f.accounts ∙ ap (map account_kept) (uncommitted k (subst IsUncommitted (sym u) tt))) here) in
    subst (λ m. TablesTold (setting k image) (told_by k.config (length k.journal) c.call (plan_of found c p k).answer m) q.space.tables) (sym is)
    (heap-row words image found k c p a here heap l (subst (λ m. TablesTold (setting k image) m p.space.tables) is told) c.call q is-heap at (commits words c (plan_of found c p k) (row words found c p k (meant c.call) a here)))
