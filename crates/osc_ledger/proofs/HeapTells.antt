-- What the journal tells of a call on the heap is what the process keeps once the call has returned.
use Rattle.std.proofs.Common.{ℕ, ◌+◌, ◌≡◌, ◌<◌, ◌==◌, Bool, true, false, not, cond, Option, Some, None, is_some, List, [], ◌∷◌, ◌++◌, length, map, filter, unwrap_or, arith, refl, sym, ap, ◌∙◌}
use Rattle.std.specs.List.{list_any}
use Rattle.std.specs.Option.{option_to_list}
use Rattle.osc_word.specs.declared.settings.Config.{Config}
use Rattle.osc_word.specs.declared.calls.Call.{Call}
use Rattle.osc_word.specs.declared.calls.Call.TheVariants as calls
use Rattle.osc_word.specs.declared.calls.Answer.{Answer}
use Rattle.osc_word.specs.declared.calls.Answer.TheVariants as answers
use Rattle.osc_word.specs.WaitingList.{with_waiting}
use Rattle.osc_class.specs.declared.Room.{Room}
use Rattle.osc_class.specs.Rooms.{room_of, shadow_pages}
use Rattle.osc_slot.specs.declared.Block.{Block}
use Rattle.osc_slot.specs.Slots.{is_held, least_start}
use Rattle.osc_slot.specs.Heap.{next_block, with_block, block_of_user, place}
use Rattle.osc_space.specs.declared.ObjectFact.{ObjectFact}
use Rattle.osc_space.specs.Objects.{Seen, fact, facts, grant, kill, object_at}
use Rattle.osc_space.specs.Header.{Found, object_reasons, block_of}
use Rattle.osc_space.specs.Space.{Space, Draft, Outcome, first_reason, unchanged, unless}
use Rattle.osc_space.specs.Malloc.{malloc_reasons, malloc_in, malloc_plan}
use Rattle.osc_space.specs.Free.{waiting_blocks, let_wait, is_full, flush_where, closing_where, freed, free_seen, free_plan}
use Rattle.osc_space.specs.Realloc.{stays, realloc_reasons, realloc_made, realloc_seen, realloc_plan}
use Rattle.osc_space.specs.PlainHeap.{plain_reasons, plain_malloc_in, plain_malloc_plan}
use Rattle.osc_space.specs.RefusalLaws.{is_refusal}
use Rattle.osc_space.proofs.RefusalLawProofs.{object_refuses, realloc_refuses}
use Rattle.osc_parts.proofs.Lists.{get_within}
use Rattle.osc_calls.specs.Kernel.{KernelState, Process}
use Rattle.osc_calls.specs.Refusals.{draft_of}
use Rattle.osc_calls.specs.HeapPlans.{terms_of}
use Rattle.osc_machine.specs.Replay.{Ledger, fresh_block, drops, has_object, gains, loses, lets_go, replaces, places, told_by}
use Rattle.osc_machine.specs.Agreements.{Account, account_told, account_kept, tells_nothing}
use Rattle.osc_machine.proofs.JournalLaws.{noted_keeps}
use Rattle.osc_safe.proofs.SpacePlans.{Refuses, first_refuses, seen-fact}
use Rattle.osc_ledger.proofs.Accounts.{as_kept, released, released-is, released-append, given_back, same_account, kill-blocks, more-facts, kill-grant, length-kill, none-at-zero}

-- ---- answers that tell nothing
pub told_keeps : (config : Config) (n : ℕ) (call : Call) (a : Answer) (l : Ledger) → tells_nothing a ≡ true → told_by config n call a l ≡ l
told_keeps config n call a l e = head _ _ _ (noted_keeps config n (record { pid = 0; hart = 0; call = call; answer = a }) (l ∷ []) e)
  where
    head : (x y : Ledger) (rest : List Ledger) → x ∷ rest ≡ y ∷ [] → x ≡ y
    head x y rest e = cc

pub refused_tells : (a : Answer) → is_refusal a ≡ true → tells_nothing a ≡ true
refused_tells answers.NoShadow e = refl
refused_tells answers.NoFrames e = refl
refused_tells answers.Empty e = refl
refused_tells (answers.DoubleFree object call) e = refl
refused_tells answers.NotAnObject e = refl
refused_tells (answers.HeaderDamaged kept found) e = refl
refused_tells _ e = absurd (let z : ⊥ = grind (arith, e) in z)

-- ---- what a plan's answer tells
abbrev pub with_space : Process → Space → Process
with_space p space = record p { space = space }

abbrev pub Tells : KernelState → Call → Process → Outcome → Type 0
Tells k call p o =
    (l : Ledger) → account_told (told_by k.config (length k.journal) call o.answer (as_kept p l)) ≡ given_back o.closing (account_kept (with_space p o.draft.space))

module _ (k : KernelState) (p : Process) (frames : p.space.heap.frames ≡ k.config.frames) where
  abbrev d : Draft
  d = draft_of k p

  abbrev n : ℕ
  n = length k.journal

  pub denied : (call : Call) (a : Answer) → tells_nothing a ≡ true → Tells k call p (unchanged a d)
  denied call a e l = ap account_told (told_keeps k.config n call a (as_kept p l) e)

  pub by-reasons : (call : Call) (r : Option Answer) (made : Outcome) → Refuses r → (r ≡ None → Tells k call p made) → Tells k call p (unless r d made)
  by-reasons call None made q g = g refl
  by-reasons call (Some a) made q g = denied call a (refused_tells a q)

  -- the next block is the one that the journal tells
  pub fresh-is : (room : Room) (l : Ledger) → fresh_block k.config room (as_kept p l) ≡ next_block p.space.heap room
  fresh-is room l = ap (λ f. let b : Block = record { start = unwrap_or (least_start f p.space.heap.held room) 0; room = room } in b) (sym frames)

  -- ---- malloc
  gained : (size : ℕ) (l : Ledger) → account_told (gains size (fresh_block k.config (room_of size) (as_kept p l)) (as_kept p l))
      ≡ account_kept (with_space p (malloc_in size (next_block p.space.heap (room_of size)) d).draft.space)
  unfolding place
  gained size l = ap (λ b. account_told (gains size b (as_kept p l))) (fresh-is (room_of size) l)

  pub malloc-oscar : (call : Call) (size : ℕ) → ((object pointer : ℕ) (l : Ledger) → told_by k.config n call (answers.Given object pointer) l ≡ gains size (fresh_block k.config (room_of size) l) l)
      → Tells k call p (malloc_plan size d)
  unfolding malloc_plan
  malloc-oscar call size is =
      by-reasons call (first_reason (malloc_reasons size d)) (malloc_in size (next_block d.space.heap (room_of size)) d) (first_refuses (malloc_reasons size d) (refl, (refl, tt)))
      (λ e l. ap account_told (is _ _ (as_kept p l)) ∙ gained size l)

  placed : (size : ℕ) (l : Ledger) → account_told (places (fresh_block k.config (room_of size) (as_kept p l)) (as_kept p l))
      ≡ account_kept (with_space p (plain_malloc_in size (next_block p.space.heap (room_of size)) d).draft.space)
  unfolding place
  placed size l = ap (λ b. account_told (places b (as_kept p l))) (fresh-is (room_of size) l)

  pub malloc-plain : (call : Call) (size : ℕ) → ((pointer : ℕ) (l : Ledger) → account_told (told_by k.config n call (answers.Placed (pointer + 16)) l) ≡ account_told (places (fresh_block k.config (room_of size) l) l))
      → Tells k call p (plain_malloc_plan size d)
  unfolding plain_malloc_plan
  malloc-plain call size is =
      by-reasons call (first_reason (plain_reasons (room_of size) d)) (plain_malloc_in size (next_block d.space.heap (room_of size)) d) (first_refuses (plain_reasons (room_of size) d) (refl, tt))
      (λ e l. is _ (as_kept p l) ∙ placed size l)

  -- ---- free
  abbrev waited : Seen → Draft
  waited s = let_wait (terms_of k) s d

  abbrev lost : Seen → Ledger → Ledger
  lost s l = record (loses s.number n (as_kept p l)) { waiting = with_waiting p.space.waiting s.number }

  freed-tells : (pointer : ℕ) (s : Seen) → Tells k (calls.Free pointer) p (freed s.number (terms_of k) (let_wait (terms_of k) s d))
  freed-tells pointer s l = go (is_full (terms_of k) (waited s).space)
    where
      go : (b : Bool) → account_told (cond b (lets_go (lost s l)) (lost s l))
          ≡ given_back (closing_where b (waited s).space) (account_kept (with_space p (flush_where b k.config.harts (waited s)).space))
      go false = refl
      go true = ap (λ held. let a : Account = record { objects = (waited s).space.objects; waiting = []; held = held; over = is_some p.status } in a)
          (sym (released-is (waiting_blocks (waited s).space) p.space.heap.held))

  pub free-oscar : (pointer : ℕ) (found : Found) → Tells k (calls.Free pointer) p (free_plan (terms_of k) pointer found d)
  unfolding free_plan
  free-oscar pointer found = go (object_at d.space.objects pointer)
    where
      go : (o : Option Seen) → Tells k (calls.Free pointer) p (free_seen o (terms_of k) found d)
      go None = denied (calls.Free pointer) answers.NotAnObject refl
      go (Some s) =
          by-reasons (calls.Free pointer) (first_reason (object_reasons (Some s) found)) (freed s.number (terms_of k) (let_wait (terms_of k) s d)) (first_refuses (object_reasons (Some s) found) (object_refuses s found))
          (λ e. freed-tells pointer s)

  -- nothing is dropped where no block is
  pub drops-none : (o : Option Block) (m : Ledger) → o ≡ None → account_told (drops (option_to_list o) m) ≡ account_told m
  drops-none o m e =
      ap (λ z. account_told (drops (option_to_list z) m)) e
      ∙ ap (λ held. let a : Account = record { objects = m.objects; waiting = m.waiting; held = held; over = m.over } in a) (sym (released-is [] m.held))

  pub free-null : Tells k (calls.Free 0) p (unchanged answers.Nothing d)
  free-null l = drops-none (block_of_user p.space.heap.held 0) (as_kept p l) (none-at-zero p.space.heap.held)

  -- ---- realloc
  abbrev killed : Seen → List ObjectFact
  killed s = kill s.number n p.space.objects

  abbrev gone : List Block
  gone = waiting_blocks p.space

  moved-tells : (pointer size : ℕ) (s : Seen) → fact p.space.objects s.number ≡ Some s.fact → s.number < length p.space.objects
      → ((w : ℕ) → list_any (λ x. x == w) p.space.waiting ≡ true → w < length p.space.objects)
      → Tells k (calls.Realloc pointer size) p (realloc_made (stays s.fact size) (terms_of k) s size d)
  unfolding place
  moved-tells pointer size s is within known l =
      ap (λ o. account_told (replaces k.config s.number n o size (as_kept p l))) is ∙ go (stays s.fact size)
    where
      go : (b : Bool) → account_told (cond b (has_object size (block_of s.fact) (lets_go (loses s.number n (as_kept p l))))
          (drops (block_of s.fact ∷ []) (lets_go (gains size (fresh_block k.config (room_of size) (as_kept p l)) (loses s.number n (as_kept p l))))))
          ≡ given_back (realloc_made b (terms_of k) s size d).closing (account_kept (with_space p (realloc_made b (terms_of k) s size d).draft.space))
      go true =
          let block = block_of s.fact in
          same_account (grant (shadow_pages block.room) size (block.start + 16) (killed s)) (kill s.number n (grant (shadow_pages block.room) size (block.start + 16) p.space.objects))
          (filter (λ b. not (is_held (map block_of (facts (killed s) p.space.waiting)) b)) p.space.heap.held) (released (gone ++ []) p.space.heap.held) [] (is_some p.status)
          (sym (kill-grant s.number n (shadow_pages block.room) size (block.start + 16) p.space.objects within))
          (ap (λ bs. filter (λ b. not (is_held bs b)) p.space.heap.held) (kill-blocks s.number n p.space.objects p.space.waiting)
          ∙ sym (released-is gone p.space.heap.held) ∙ sym (released-append gone [] p.space.heap.held))
      go false =
          let block = next_block p.space.heap (room_of size) in
          let now = with_block block p.space.heap.held in
          let granted = grant (shadow_pages block.room) size (block.start + 16) (killed s) in
          let same : length (killed s) ≡ length p.space.objects = length-kill s.number n p.space.objects in
          ap (λ b. account_told (drops (block_of s.fact ∷ []) (lets_go (gains size b (loses s.number n (as_kept p l)))))) (fresh-is (room_of size) l)
          ∙ same_account granted (kill s.number n (grant (shadow_pages block.room) size (block.start + 16) p.space.objects))
          (filter (λ b. not (is_held (block_of s.fact ∷ []) b)) (filter (λ b. not (is_held (map block_of (facts granted p.space.waiting)) b)) now)) (released (gone ++ block_of s.fact ∷ []) now) [] (is_some p.status)
          (sym (kill-grant s.number n (shadow_pages block.room) size (block.start + 16) p.space.objects within))
          (ap (λ xs. filter (λ b. not (is_held (block_of s.fact ∷ []) b)) (filter (λ b. not (is_held (map block_of xs) b)) now)) (more-facts (killed s) _ p.space.waiting (λ w e. let q = known w e in omega (arith, q, same)))
          ∙ ap (λ bs. filter (λ b. not (is_held (block_of s.fact ∷ []) b)) (filter (λ b. not (is_held bs b)) now)) (kill-blocks s.number n p.space.objects p.space.waiting)
          ∙ sym (released-is (block_of s.fact ∷ []) (filter (λ b. not (is_held gone b)) now))
          ∙ ap (released (block_of s.fact ∷ [])) (sym (released-is gone now))
          ∙ sym (released-append gone (block_of s.fact ∷ []) now))

  pub realloc-oscar : (pointer size : ℕ) (found : Found) → ((w : ℕ) → list_any (λ x. x == w) p.space.waiting ≡ true → w < length p.space.objects)
      → Tells k (calls.Realloc pointer size) p (realloc_plan (terms_of k) pointer size found d)
  unfolding realloc_plan
  realloc-oscar pointer size found known = go (object_at d.space.objects pointer) (λ s e. seen-fact d.space.objects pointer s e)
    where
      go : (o : Option Seen) → ((s : Seen) → o ≡ Some s → fact p.space.objects s.number ≡ Some s.fact) → Tells k (calls.Realloc pointer size) p (realloc_seen o (terms_of k) size found d)
      go None f = denied (calls.Realloc pointer size) answers.NotAnObject refl
      go (Some s) f =
          by-reasons (calls.Realloc pointer size) (first_reason (realloc_reasons (Some s) size found d)) (realloc_made (stays s.fact size) (terms_of k) s size d)
          (first_refuses (realloc_reasons (Some s) size found d) (realloc_refuses s size found d))
          (λ e. moved-tells pointer size s (f s refl) (get_within p.space.objects s.number s.fact (f s refl)) known)
