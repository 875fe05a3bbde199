-- The same of the plain heap's free and realloc.
use Rattle.std.proofs.Common.{ℕ, ◌+◌, ◌≡◌, ◌≤◌, ◌==◌, nat_lt, Bool, true, false, cond, Option, Some, None, is_some, List, [], ◌∷◌, filter, option_map, not, arith, refl, sym, ap, ◌∙◌}
use Rattle.std.specs.List.{list_any}
use Rattle.std.specs.Option.{option_to_list}
use Rattle.std.proofs.lemmas.Bool.Decides.{nat_tests}
use Rattle.osc_word.specs.declared.settings.HeapKind.TheVariants.{Plain}
use Rattle.osc_word.specs.declared.calls.Call.TheVariants as calls
use Rattle.osc_word.specs.declared.calls.Answer.TheVariants as answers
use Rattle.osc_class.specs.Rooms.{room_of}
use Rattle.osc_slot.specs.declared.Block.{Block}
use Rattle.osc_slot.specs.Slots.{is_room, is_held}
use Rattle.osc_slot.specs.Heap.{next_block, with_block, block_of_user, place, free_count}
use Rattle.osc_space.specs.Space.{Draft, GivesBack, Reason, reason, first_reason}
use Rattle.osc_space.specs.Malloc.{block_need}
use Rattle.osc_space.specs.PlainHeap.{plain_reasons, unmap_emptied, emptied_pages, plain_free_of, plain_free_plan, kept_bytes, plain_resize, plain_realloc_reasons, plain_realloc_of, plain_realloc_plan, copy_block, place_plain}
use Rattle.osc_space.specs.RefusalLaws.{plain_want}
use Rattle.osc_space.specs.Share.{Regions}
use Rattle.osc_parts.specs.Settled.{Settled}
use Rattle.osc_parts.proofs.PlacingParts as placing
use Rattle.osc_calls.specs.Kernel.{KernelState, Process}
use Rattle.osc_calls.specs.Refusals.{draft_of}
use Rattle.osc_machine.specs.Replay.{Ledger, fresh_block, drops, places, unplaces, places_anew}
use Rattle.osc_machine.specs.Agreements.{Account, account_told, account_kept}
use Rattle.osc_safe.proofs.SpacePlans.{AreRefusals, first_refuses}
use Rattle.osc_ledger.proofs.Accounts.{as_kept, released, released-is, given_back, none-at-zero, at-pointer, absent-pointer, find-insert}
use Rattle.osc_ledger.proofs.HeapTells.{with_space, Tells, denied, by-reasons, fresh-is, drops-none}

-- no held block starts where the next one does, where there is room for it
pub next-absent : (batch : ℕ) (entries : ℕ → ℕ → ℕ) (words : List ℕ) (regions : Regions) (n : ℕ) (d : Draft) → Settled Plain batch entries words regions d
    → first_reason (plain_reasons (room_of n) d) ≡ None → list_any (λ (b : Block). b.start == (next_block d.space.heap (room_of n)).start) d.space.heap.held ≡ false
next-absent batch entries words regions n d settled e =
    let x = placing.goes Plain batch entries words regions n d settled enough in
    ap (λ (c : Block). list_any (λ (b : Block). b.start == c.start) d.space.heap.held) x.block ∙ x.fresh.absent
  where
    fits : (b : Bool) → nat_lt (free_count d.free) (plain_want n d) ≡ b → option_map (λ (r : Reason). r.answer) (cond b (Some (reason b answers.NoFrames)) None) ≡ None → plain_want n d ≤ free_count d.free
    fits true t f = absurd (let z : ⊥ = grind (arith, f) in z)
    fits false t f = grind (arith, nat_tests, t)

    enough : block_need d (room_of n) ≤ free_count d.free
    enough = let l = fits (nat_lt (free_count d.free) (plain_want n d)) refl e in omega (arith, l)

module _ (k : KernelState) (p : Process) (frames : p.space.heap.frames ≡ k.config.frames) where
  abbrev d : Draft
  d = draft_of k p

  -- a malloc by a realloc of nothing
  pub null-anew : (start : ℕ) (block : Block) (l : Ledger) → account_told (places_anew 0 (start + 16) block l) ≡ account_told (places block l)
  null-anew start block l =
      let apart : (0 == start + 16) ≡ false = grind (arith, nat_tests) in
      ap (λ b. account_told (cond b l (unplaces 0 (places block l)))) apart
      ∙ drops-none k p frames (block_of_user (with_block block l.held) 0) (places block l) (none-at-zero (with_block block l.held))

  -- ---- free
  emptied : (pages : List ℕ) (harts : ℕ) (e : Draft) → account_kept (with_space p (unmap_emptied pages harts e).space) ≡ account_kept (with_space p e.space)
  emptied [] harts e = refl
  emptied (page ∷ pages) harts e = refl

  -- one block is held no more, and none waits
  dropped : (block : Block) (held : List Block) → p.space.waiting ≡ []
      → (let a : Account = record { objects = p.space.objects; waiting = p.space.waiting; held = filter (λ b. not (is_held (block ∷ []) b)) held; over = is_some p.status } in a)
      ≡ record { objects = p.space.objects; waiting = []; held = released (block ∷ []) held; over = is_some p.status }
  dropped block held waits =
      let is = sym (released-is (block ∷ []) held) in λ i. record { objects = p.space.objects; waiting = waits i; held = is i; over = is_some p.status }

  pub free-plain : (pointer : ℕ) → p.space.waiting ≡ [] → Tells k (calls.Free pointer) p (plain_free_plan k.config.harts pointer d)
  unfolding plain_free_plan
  free-plain pointer waits = go (block_of_user p.space.heap.held pointer) refl
    where
      go : (o : Option Block) → block_of_user p.space.heap.held pointer ≡ o → Tells k (calls.Free pointer) p (plain_free_of o k.config.harts d)
      go None e = denied k p frames (calls.Free pointer) answers.NotAnObject refl
      go (Some block) e = λ l.
          ap (λ z. account_told (drops (option_to_list z) (as_kept p l))) e
          ∙ dropped block p.space.heap.held waits
          ∙ ap (given_back (GivesBack (block ∷ []))) (sym (emptied (emptied_pages p.space.heap.held block) k.config.harts d))

  -- ---- realloc
  stayed : (pointer size bytes : ℕ) (old : Block) → block_of_user p.space.heap.held pointer ≡ Some old
      → Tells k (calls.Realloc pointer size) p (plain_resize true k.config.harts old size bytes d)
  stayed pointer size bytes old here l =
      let at = at-pointer p.space.heap.held pointer old here in
      let same : (pointer == old.start + 16) ≡ true = grind (arith, nat_tests, at) in
      ap (λ b. account_told (cond b (as_kept p l) (unplaces pointer (places (fresh_block k.config (room_of size) (as_kept p l)) (as_kept p l))))) same

  moved : (pointer size bytes : ℕ) (old : Block) → p.space.waiting ≡ [] → block_of_user p.space.heap.held pointer ≡ Some old
      → list_any (λ (b : Block). b.start == (next_block p.space.heap (room_of size)).start) p.space.heap.held ≡ false
      → Tells k (calls.Realloc pointer size) p (plain_resize false k.config.harts old size bytes d)
  unfolding place
  moved pointer size bytes old waits here absent l =
      let block = next_block p.space.heap (room_of size) in
      let now = with_block block p.space.heap.held in
      let other : (block.start + 16 == pointer) ≡ false = absent-pointer p.space.heap.held pointer block.start old here absent in
      let apart : (pointer == block.start + 16) ≡ false = grind (arith, nat_tests, other) in
      let found : block_of_user now pointer ≡ Some old = find-insert (λ (b : Block). b.start + 16 == pointer) block p.space.heap.held other ∙ here in
      let e = copy_block old block bytes (place_plain size block d) in
      ap (λ b. account_told (cond b (as_kept p l) (unplaces pointer (places (fresh_block k.config (room_of size) (as_kept p l)) (as_kept p l))))) apart
      ∙ ap (λ b. account_told (unplaces pointer (places b (as_kept p l)))) (fresh-is k p frames (room_of size) l)
      ∙ ap (λ z. account_told (drops (option_to_list z) (places block (as_kept p l)))) found
      ∙ dropped old now waits
      ∙ ap (given_back (GivesBack (old ∷ []))) (sym (emptied (emptied_pages e.space.heap.held old) k.config.harts e))

  refuses : (b : Bool) (n : ℕ) → AreRefusals (cond b [] (plain_reasons (room_of n) d))
  refuses true n = tt
  refuses false n = (refl, tt)

  pub realloc-plain : (pointer size found : ℕ) → p.space.waiting ≡ []
      → (first_reason (plain_reasons (room_of size) d) ≡ None → list_any (λ (b : Block). b.start == (next_block p.space.heap (room_of size)).start) p.space.heap.held ≡ false)
      → Tells k (calls.Realloc pointer size) p (plain_realloc_plan k.config.harts pointer size found d)
  unfolding plain_realloc_plan
  realloc-plain pointer size found waits fresh = go (block_of_user p.space.heap.held pointer) refl
    where
      resized : (old : Block) (b : Bool) → block_of_user p.space.heap.held pointer ≡ Some old → first_reason (cond b [] (plain_reasons (room_of size) d)) ≡ None
          → Tells k (calls.Realloc pointer size) p (plain_resize b k.config.harts old size (kept_bytes old found size) d)
      resized old true here e = stayed pointer size (kept_bytes old found size) old here
      resized old false here e = moved pointer size (kept_bytes old found size) old waits here (fresh e)

      go : (o : Option Block) → block_of_user p.space.heap.held pointer ≡ o → Tells k (calls.Realloc pointer size) p (plain_realloc_of o k.config.harts size found d)
      go None e = denied k p frames (calls.Realloc pointer size) answers.NotAnObject refl
      go (Some old) e =
          by-reasons k p frames (calls.Realloc pointer size) (first_reason (plain_realloc_reasons (Some old) size d)) (plain_resize (is_room (room_of size) old.room) k.config.harts old size (kept_bytes old found size) d)
          (first_refuses (plain_realloc_reasons (Some old) size d) (refuses (is_room (room_of size) old.room) size))
          (resized old (is_room (room_of size) old.room) e)
